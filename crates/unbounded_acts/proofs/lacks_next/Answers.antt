use Rattle.unbounded_acts.specs.Acts.{lacks_next}
use Rattle.queue_entries.proofs.Pick.{picks}
use borrow.Author.Rules.{rules}
use Rattle.unbounded_acts.proofs.lacks_next.Goals as goal

pub returns-then-last_slot : goal.returns-then-last_slot
unfolding lacks_next
returns-then-last_slot c = search (rules, picks)

pub returns-else-last_slot : goal.returns-else-last_slot
unfolding lacks_next
returns-else-last_slot c = search (rules, picks)
