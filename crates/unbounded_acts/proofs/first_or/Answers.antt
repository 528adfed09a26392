use Rattle.unbounded_acts.specs.Acts.{first_or}
use Rattle.queue_entries.proofs.Pick.{picks}
use borrow.Author.Rules.{rules}
use Rattle.unbounded_acts.proofs.first_or.Goals as goal

pub returns-then-is_none : goal.returns-then-is_none
unfolding first_or
returns-then-is_none c = search (rules, picks)

pub returns-else-is_none : goal.returns-else-is_none
unfolding first_or
returns-else-is_none c = search (rules, picks)
