use Prim.Native.Nat.{◌≤◌, ◌<◌, ◌+◌, ◌^◌}
use mathlib.Core.Path.{◌≡◌}
use lib.ListN.{length, take, drop}
use lib.Seq.{sets}
use Rattle.queue_walks.specs.Walks.{depth_most}
use Rattle.queue_walks.proofs.put.Given as goal

abbrev pub invariant-loop-i : goal.invariant-loop-i
invariant-loop-i l =
    (l.n ≤ depth_most) × (length l.path ≡ depth_most) × (l.at + 1 + l.n < 2 ^ 64) × (length l.out ≡ length l.initial.out) × (sets l.out (l.at + 1 + l.i) (drop l.i (take l.n l.path)) ≡ sets l.initial.out (l.at + 1) (take l.n l.path))
