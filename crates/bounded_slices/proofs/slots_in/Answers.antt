use borrow.Author.Rules.{rules}
use Rattle.bounded_slices.proofs.Filling.{none_taken, taken_long, one_taken, all_taken}
use Rattle.bounded_slices.proofs.slots_in.Goals as goal

pub loop-i-init : goal.loop-i-init
loop-i-init c = search (rules, none_taken)

pub bounds-all-i : goal.bounds-all-i
bounds-all-i c = search (rules, taken_long)

pub loop-i-preserved : goal.loop-i-preserved
loop-i-preserved c = search (rules, one_taken)

pub returns : goal.returns
returns c = search (rules, all_taken)
