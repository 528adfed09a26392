use Prim.Native.Nat.{◌-◌}
use mathlib.Core.Path.{◌≡◌}
use mathlib.Core.List.{◌++◌}
use lib.ListN.{length, take}
use Rattle.tapes_numbers.specs.Numbers.{digits_of, in_order}
use Rattle.tapes_numbers.proofs.put_number.Given as goal

abbrev pub invariant-loop-i : goal.invariant-loop-i
invariant-loop-i l =
    (length l.buffer ≡ l.count) × (take l.i (in_order l.v l.buffer) ++ digits_of (l.count - l.i) l.rest ≡ digits_of l.count l.n)
