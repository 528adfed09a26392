use Rattle.unbounded_rows.proofs.Standing.{records_read}
use borrow.Author.Rules.{rules}
use Rattle.unbounded_rows.proofs.Points.{none_taken, taken_long, one_taken}
use Rattle.unbounded_rows.proofs.records_in.Goals as goal

pub loop-i-init : goal.loop-i-init
loop-i-init c = search (rules, none_taken)

pub bounds-all-i : goal.bounds-all-i
bounds-all-i c = search (rules, taken_long)

pub loop-i-preserved : goal.loop-i-preserved
loop-i-preserved c = search (rules, one_taken)

pub returns : goal.returns
returns c = search (rules, records_read)
