use Rattle.unbounded_entries.proofs.Laws.{along_look}
use Rattle.std.proofs.Common.{rules}
use Rattle.unbounded_entries.proofs.look_uses.Goals as goal

pub returns-in-Nothing : goal.returns-in-Nothing
returns-in-Nothing c = search (rules, along_look)

pub returns-in-Block : goal.returns-in-Block
returns-in-Block c = search (rules, along_look)

pub returns-in-Slot : goal.returns-in-Slot
returns-in-Slot c = search (rules, along_look)
