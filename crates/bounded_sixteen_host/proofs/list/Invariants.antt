use Prim.Native.Nat.{◌≤◌}
use mathlib.Core.Path.{◌≡◌}
use mathlib.Core.List.{◌++◌}
use lib.ListN.{length, drop}
use Rattle.bounded_machine.specs.Machine.{ring_of_parts}
use Rattle.bounded_machine.specs.Contents.{items_on}
use Rattle.bounded_sixteen_rows.specs.SixteenRows.{slots_in}
use Rattle.bounded_sixteen_host.proofs.list.Given as goal

abbrev pub invariant-loop-k : goal.invariant-loop-k
invariant-loop-k l = (l.n ≤ length l.initial.buffer) × (length l.buffer ≡ length l.initial.buffer)
    × (l.buffer ≡ items_on (ring_of_parts l.f l.e (slots_in l.stamps l.values)) l.k 0 ++ drop l.k l.initial.buffer)
