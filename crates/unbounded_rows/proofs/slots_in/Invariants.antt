use Rattle.unbounded_machine.specs.Machine.{slot}
use Rattle.unbounded_rows.specs.Rows.{slot_in}
use Prim.Native.Nat.{◌-◌}
use Rattle.unbounded_rows.proofs.Points.{Taken}
use Rattle.unbounded_rows.proofs.slots_in.Given as goal

abbrev pub invariant-loop-j : goal.invariant-loop-j
invariant-loop-j l = Taken (slot 0 0) 1984 (slot_in l.pool) l.j l.all
