use Rattle.queue_entries.specs.Limits.{workers_most}
use Prim.Native.Nat.{◌-◌}
use Rattle.unbounded_rows.proofs.Going.{Places}
use Rattle.unbounded_rows.proofs.all_placed.Given as goal

abbrev pub invariant-loop-i : goal.invariant-loop-i
invariant-loop-i l = Places l.records l.i
