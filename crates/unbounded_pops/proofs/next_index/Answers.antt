use Rattle.unbounded_acts.specs.Acts.{next_index}
use Rattle.queue_entries.proofs.Pick.{picks}
use Rattle.unbounded_acts.proofs.Arms.{marked_is, later_is}
use borrow.Author.Rules.{rules}
use Rattle.unbounded_pops.proofs.next_index.Goals as goal

pub returns-then-is_none : goal.returns-then-is_none
unfolding next_index
returns-then-is_none c = search (rules, picks, later_is)

pub returns-else-is_none : goal.returns-else-is_none
unfolding next_index
returns-else-is_none c = search (rules, picks, marked_is, later_is)
