use Rattle.unbounded_machine.proofs.Laws.{blank_is}
use Rattle.unbounded_machine.proofs.blank.Goals as goal

pub returns : goal.returns
returns c = blank_is _ c.fresh.ensures
