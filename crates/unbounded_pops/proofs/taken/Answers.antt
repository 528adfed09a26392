use Rattle.unbounded_acts.specs.Acts.{taken}
use Rattle.queue_entries.proofs.Pick.{picks}
use borrow.Author.Rules.{rules}
use Rattle.unbounded_pops.proofs.taken.Goals as goal

pub returns-then-last_slot : goal.returns-then-last_slot
unfolding taken
returns-then-last_slot c = search (rules, picks)

pub returns-else-last_slot : goal.returns-else-last_slot
unfolding taken
returns-else-last_slot c = search (rules, picks)
