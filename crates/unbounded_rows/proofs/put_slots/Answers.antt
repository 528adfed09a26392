use borrow.Author.Rules.{rules}
use Rattle.unbounded_rows.proofs.Going.{none_filled, slot_first, slot_next, one_filled, all_filled}
use Rattle.unbounded_rows.proofs.put_slots.Goals as goal

pub loop-j-init : goal.loop-j-init
loop-j-init c = search (rules, none_filled)

pub bounds-pool-at : goal.bounds-pool-at
bounds-pool-at c = search (rules, slot_first)

pub bounds-pool-at-in-loop-j : goal.bounds-pool-at-in-loop-j
bounds-pool-at-in-loop-j c = search (rules, slot_next)

pub loop-j-preserved : goal.loop-j-preserved
loop-j-preserved c = search (rules, one_filled)

pub returns : goal.returns
returns c = search (rules, all_filled)
