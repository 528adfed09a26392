use Prim.Native.Nat.{◌-◌}
use Rattle.unbounded_rows.proofs.Going.{Bits}
use Rattle.unbounded_rows.proofs.all_bits.Given as goal

abbrev pub invariant-loop-k : goal.invariant-loop-k
invariant-loop-k l = Bits l.pool l.k
