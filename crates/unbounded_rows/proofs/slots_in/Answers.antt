use Rattle.unbounded_rows.proofs.Standing.{slot_taken, slots_read}
use borrow.Author.Rules.{rules}
use Rattle.unbounded_rows.proofs.Points.{none_taken, taken_long}
use Rattle.unbounded_rows.proofs.slots_in.Goals as goal

pub loop-j-init : goal.loop-j-init
loop-j-init c = search (rules, none_taken)

pub bounds-all-j : goal.bounds-all-j
bounds-all-j c = search (rules, taken_long)

pub loop-j-preserved : goal.loop-j-preserved
loop-j-preserved c = search (rules, slot_taken)

pub returns : goal.returns
returns c = search (rules, slots_read)
