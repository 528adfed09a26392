use Prim.Native.Nat.{◌+◌, ◌*◌, ◌-◌, ◌/◌, ◌≤◌}
use mathlib.Core.Path.{◌≡◌}
use lib.ListN.{length, drop}
use Rattle.tapes.specs.Written.{load_from}
use Rattle.tapes.proofs.loaded.Given as goal

abbrev pub invariant-loop-i : goal.invariant-loop-i
invariant-loop-i l = (l.n ≡ length l.words / 2) × (l.long ≤ 10 + 12 * l.i) × (load_from l.i l.long (drop (2 * l.i) l.words) ≡ load_from 0 10 l.words)
