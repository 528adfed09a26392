use Rattle.unbounded_acts.specs.Acts.{new_head}
use Rattle.queue_entries.proofs.Pick.{picks}
use Rattle.unbounded_acts.proofs.Arms.{marked_is}
use borrow.Author.Rules.{rules}
use Rattle.unbounded_pops.proofs.new_head.Goals as goal

pub returns-then-same_block : goal.returns-then-same_block
unfolding new_head
returns-then-same_block c = search (rules, picks)

pub returns-else-same_block : goal.returns-else-same_block
unfolding new_head
returns-else-same_block c = search (rules, picks, marked_is)
