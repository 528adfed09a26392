use borrow.Author.Rules.{rules}
use Rattle.unbounded_rows.proofs.Going.{none_headed, header_first, header_next, one_headed, all_headed}
use Rattle.unbounded_rows.proofs.put_blocks.Goals as goal

pub loop-k-init : goal.loop-k-init
loop-k-init c = search (rules, none_headed)

pub bounds-pool-k : goal.bounds-pool-k
bounds-pool-k c = search (rules, header_first)

pub bounds-pool-k-in-loop-k : goal.bounds-pool-k-in-loop-k
bounds-pool-k-in-loop-k c = search (rules, header_next)

pub loop-k-preserved : goal.loop-k-preserved
loop-k-preserved c = search (rules, one_headed)

pub returns : goal.returns
returns c = search (rules, all_headed)
