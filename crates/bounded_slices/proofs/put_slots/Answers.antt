use borrow.Author.Rules.{rules}
use Rattle.bounded_slices.proofs.Filling.{none_stored, one_stored, all_stored}
use Rattle.bounded_slices.proofs.put_slots.Goals as goal

pub loop-i-init : goal.loop-i-init
loop-i-init c = search (rules, none_stored)

pub loop-i-preserved : goal.loop-i-preserved
loop-i-preserved c = search (rules, one_stored)

pub returns : goal.returns
returns c = search (rules, all_stored)
