use Rattle.single_rows.proofs.Going.{Stored}
use Rattle.single_rows.proofs.put_records.Given as goal

abbrev pub invariant-loop-i : goal.invariant-loop-i
invariant-loop-i l = Stored l.initial.records l.fn.all l.i l.records
