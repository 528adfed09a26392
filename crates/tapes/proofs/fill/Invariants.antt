use Prim.Native.Nat.{◌+◌, ◌*◌, ◌-◌, ◌≤◌}
use mathlib.Core.Path.{◌≡◌}
use mathlib.Core.List.{◌++◌}
use lib.ListN.{length, take, drop}
use Rattle.tapes_fields.specs.Fields.{over, end_of}
use Rattle.tapes.specs.declared.Load.TheVariants.{Bytes}
use Rattle.tapes.specs.Written.{tape_of, entries_of, load_from}
use Rattle.tapes.proofs.fill.Given as goal

abbrev pub invariant-loop-i : goal.invariant-loop-i
invariant-loop-i l =
    (l.at ≤ length (tape_of l.v l.capacity l.workers l.words))
    × (length (tape_of l.v l.capacity l.workers l.words) ≤ length l.initial.buffer)
    × (length l.buffer ≡ length l.initial.buffer)
    × (l.buffer ≡ over (take l.at (tape_of l.v l.capacity l.workers l.words)) l.initial.buffer)
    × (drop l.at (tape_of l.v l.capacity l.workers l.words) ≡ entries_of l.v (drop (2 * l.i) l.words) ++ end_of l.v)
    × (load_from l.i (l.at + 3) (drop (2 * l.i) l.words) ≡ Bytes (length (tape_of l.v l.capacity l.workers l.words)))
