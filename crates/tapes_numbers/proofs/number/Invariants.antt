use Prim.Native.Nat.{◌-◌, ◌*◌, ◌^◌, ◌<◌}
use mathlib.Core.Path.{◌≡◌}
use lib.ListN.{drop}
use Rattle.tapes_numbers.specs.Numbers.{value_of, in_order}
use Rattle.tapes_numbers.proofs.number.Given as goal

abbrev pub invariant-loop-i : goal.invariant-loop-i
invariant-loop-i l =
    (l.n ≡ value_of (drop l.i (in_order l.v l.bytes))) × (l.n < 2 ^ (8 * (l.count - l.i)))
