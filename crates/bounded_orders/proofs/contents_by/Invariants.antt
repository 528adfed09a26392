use Prim.Native.Nat.{◌-◌, ◌≤◌}
use mathlib.Core.Path.{◌≡◌}
use mathlib.Core.List.{◌++◌}
use lib.ListN.{length, drop}
use Rattle.bounded_machine.specs.Contents.{items_on}
use Rattle.bounded_orders.proofs.contents_by.Given as goal

abbrev pub invariant-loop-k : goal.invariant-loop-k
invariant-loop-k l =
    (l.n ≤ length l.initial.buffer) × (length l.buffer ≡ length l.initial.buffer) × (l.buffer ≡ items_on l.ring l.k 0 ++ drop l.k l.initial.buffer)
