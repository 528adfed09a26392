use Rattle.single_rows.proofs.Going.{Judged}
use Rattle.single_rows.proofs.all_placed.Given as goal

abbrev pub invariant-loop-i : goal.invariant-loop-i
invariant-loop-i l = Judged l.records l.i
