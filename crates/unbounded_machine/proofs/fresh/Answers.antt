use Rattle.unbounded_machine.proofs.Laws.{fresh_is}
use Rattle.unbounded_machine.proofs.fresh.Goals as goal

pub returns : goal.returns
returns c = fresh_is _
