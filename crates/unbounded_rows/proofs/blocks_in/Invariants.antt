use Rattle.unbounded_acts.specs.Acts.{new_block}
use Rattle.unbounded_rows.specs.Rows.{block_in}
use Prim.Native.Nat.{◌-◌}
use Rattle.unbounded_rows.proofs.Points.{Taken}
use Rattle.unbounded_rows.proofs.blocks_in.Given as goal

abbrev pub invariant-loop-k : goal.invariant-loop-k
invariant-loop-k l = Taken new_block 64 (block_in l.pool) l.k l.all
