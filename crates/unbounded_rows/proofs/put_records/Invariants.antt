use Rattle.queue_entries.specs.Limits.{workers_most}
use Prim.Native.Nat.{◌-◌}
use Rattle.unbounded_rows.proofs.Going.{Stored}
use Rattle.unbounded_rows.proofs.put_records.Given as goal

abbrev pub invariant-loop-i : goal.invariant-loop-i
invariant-loop-i l = Stored l.fn.all l.i l.records
