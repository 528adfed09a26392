use Prim.Native.Nat.{◌*◌, ◌-◌, ◌/◌, ◌≤◌}
use mathlib.Core.Path.{◌≡◌}
use lib.ListN.{length, take, drop}
use Rattle.tapes_fields.specs.Fields.{over}
use Rattle.tapes.specs.Heard.{hear_from, hear_in, words_in}
use Rattle.tapes.proofs.copy.Given as goal

abbrev pub invariant-loop-i : goal.invariant-loop-i
invariant-loop-i l =
    (l.at ≤ length l.bytes)
    × (l.n ≡ length (words_in (hear_in l.v l.bytes)))
    × (l.n ≤ length l.initial.buffer)
    × (length l.buffer ≡ length l.initial.buffer)
    × (l.buffer ≡ over (take (2 * l.i) (words_in (hear_in l.v l.bytes))) l.initial.buffer)
    × (words_in (hear_from (length l.bytes - 2 * l.i / 2) l.v l.at (drop l.at l.bytes)) ≡ drop (2 * l.i) (words_in (hear_in l.v l.bytes)))
