use Prim.Native.Nat.{◌-◌}
use Rattle.unbounded_rows.proofs.Going.{Filled}
use Rattle.unbounded_rows.proofs.put_slots.Given as goal

abbrev pub invariant-loop-j : goal.invariant-loop-j
invariant-loop-j l = Filled l.initial.pool l.slots l.j l.pool
