use Rattle.unbounded_judged.proofs.Kept.{rest_linked, rest_walked}
use Rattle.unbounded_judged.proofs.rest_of.Goals as goal

pub returns-then-linked : goal.returns-then-linked
returns-then-linked c = rest_linked _ _ _ c.linked.ensures c.if-linked.true _ c.noted.ensures

pub returns : goal.returns
returns c = rest_walked _ _ _ c.linked.ensures c.if-linked.false _ c.walk.ensures _ c.unknown.ensures
