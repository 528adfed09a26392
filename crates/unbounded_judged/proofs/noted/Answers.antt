use Rattle.unbounded_judged.proofs.Kept.{noted_is}
use Rattle.unbounded_judged.proofs.noted.Goals as goal

pub returns : goal.returns
returns c = noted_is c.args.e _ _ c.unmarked-h.ensures
    c.unmarked-t.ensures _ c.number.ensures
