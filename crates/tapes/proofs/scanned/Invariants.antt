use Prim.Native.Nat.{◌+◌, ◌*◌, ◌-◌, ◌/◌, ◌≤◌}
use mathlib.Core.Path.{◌≡◌}
use lib.ListN.{length, drop}
use Rattle.tapes.specs.Heard.{hear_from, hear_in, count_in}
use Rattle.tapes.proofs.Hears.{count_from}
use Rattle.tapes.proofs.scanned.Given as goal

abbrev pub invariant-loop-number : goal.invariant-loop-number
invariant-loop-number l =
    (l.at ≤ length l.bytes) × (7 + 2 * l.n ≤ l.at) × (count_from l.n (hear_from (length l.bytes - l.n / 2) l.v l.at (drop l.at l.bytes)) ≡ count_in (hear_in l.v l.bytes))

abbrev pub decreases-loop-number : goal.decreases-loop-number
decreases-loop-number l = length l.bytes - l.at
