use Rattle.unbounded_machine.specs.Machine.{idler}
use Rattle.unbounded_rows.specs.Rows.{record_in}
use Rattle.queue_entries.specs.Limits.{workers_most}
use Prim.Native.Nat.{◌-◌}
use Rattle.unbounded_rows.proofs.Points.{Taken}
use Rattle.unbounded_rows.proofs.records_in.Given as goal

abbrev pub invariant-loop-i : goal.invariant-loop-i
invariant-loop-i l = Taken idler workers_most (record_in l.records) l.i l.all
