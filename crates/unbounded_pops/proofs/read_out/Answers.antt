use Rattle.unbounded_acts.specs.Acts.{read_out_of}
use Rattle.queue_entries.proofs.Pick.{picks}
use Rattle.unbounded_acts.proofs.Arms.{destroy_all}
use borrow.Author.Rules.{rules}
use Rattle.unbounded_pops.proofs.read_out.Goals as goal

pub returns-then-last_slot : goal.returns-then-last_slot
unfolding read_out_of
returns-then-last_slot c = search (rules, picks, destroy_all)

pub returns-else-last_slot : goal.returns-else-last_slot
unfolding read_out_of
returns-else-last_slot c = search (rules, picks)
