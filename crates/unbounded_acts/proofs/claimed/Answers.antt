use Rattle.unbounded_acts.specs.Acts.{claimed}
use Rattle.queue_entries.proofs.Pick.{picks}
use borrow.Author.Rules.{rules}
use Rattle.unbounded_acts.proofs.claimed.Goals as goal

pub returns-then-last_slot : goal.returns-then-last_slot
unfolding claimed
returns-then-last_slot c = search (rules, picks)

pub returns-else-last_slot : goal.returns-else-last_slot
unfolding claimed
returns-else-last_slot c = search (rules, picks)
