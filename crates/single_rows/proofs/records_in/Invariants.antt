use Rattle.single_rows.proofs.Going.{Taken}
use Rattle.single_rows.proofs.records_in.Given as goal

abbrev pub invariant-loop-i : goal.invariant-loop-i
invariant-loop-i l = Taken l.records l.initial.all l.i l.all
