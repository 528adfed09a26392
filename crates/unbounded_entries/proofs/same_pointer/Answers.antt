use Rattle.queue_entries.proofs.Pick.{picks}
use Rattle.unbounded_entries.proofs.Laws.{same_numbers}
use Rattle.unbounded_entries.specs.Looks.{same_pointer}
use Rattle.std.proofs.Common.{rules}
use Rattle.unbounded_entries.proofs.same_pointer.Goals as goal

pub returns-then-is_none : goal.returns-then-is_none
unfolding same_pointer
returns-then-is_none c = search (rules, picks)

pub returns-then-is_none-2 : goal.returns-then-is_none-2
unfolding same_pointer
returns-then-is_none-2 c = search (rules, picks)

pub returns-else-is_none-2 : goal.returns-else-is_none-2
unfolding same_pointer
returns-else-is_none-2 c = search (rules, picks, same_numbers)
