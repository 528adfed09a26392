use Rattle.unbounded_acts.specs.Acts.{take_or}
use Rattle.queue_entries.proofs.Pick.{picks}
use borrow.Author.Rules.{rules}
use Rattle.unbounded_pops.proofs.take_or.Goals as goal

pub returns-then-is_none : goal.returns-then-is_none
unfolding take_or
returns-then-is_none c = search (rules, picks)

pub returns-else-is_none : goal.returns-else-is_none
unfolding take_or
returns-else-is_none c = search (rules, picks)
