use Rattle.unbounded_rows.proofs.Standing.{blocks_read}
use borrow.Author.Rules.{rules}
use Rattle.unbounded_rows.proofs.Points.{none_taken, taken_long, one_taken}
use Rattle.unbounded_rows.proofs.blocks_in.Goals as goal

pub loop-k-init : goal.loop-k-init
loop-k-init c = search (rules, none_taken)

pub bounds-all-k : goal.bounds-all-k
bounds-all-k c = search (rules, taken_long)

pub loop-k-preserved : goal.loop-k-preserved
loop-k-preserved c = search (rules, one_taken)

pub returns : goal.returns
returns c = search (rules, blocks_read)
