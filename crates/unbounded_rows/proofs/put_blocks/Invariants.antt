use Prim.Native.Nat.{◌-◌}
use Rattle.unbounded_rows.proofs.Going.{Headed}
use Rattle.unbounded_rows.proofs.put_blocks.Given as goal

abbrev pub invariant-loop-k : goal.invariant-loop-k
invariant-loop-k l = Headed l.initial.pool l.blocks l.k l.pool
