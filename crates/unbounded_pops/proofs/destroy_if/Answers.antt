use Rattle.unbounded_acts.specs.Acts.{destroy_if}
use Rattle.queue_entries.proofs.Pick.{picks}
use borrow.Author.Rules.{rules}
use Rattle.unbounded_pops.proofs.destroy_if.Goals as goal

pub returns-then-set : goal.returns-then-set
unfolding destroy_if
returns-then-set c = search (rules, picks)

pub returns-else-set : goal.returns-else-set
unfolding destroy_if
returns-else-set c = search (rules, picks)
