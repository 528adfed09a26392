use Prim.Native.Nat.{◌<◌, ◌≤◌}
use lib.ListN.{take}
use Rattle.queue_walks.specs.Walks.{walkers_most, depth_most, after, in_turn}
use Rattle.bounded_sequences.specs.Sequences.{last_choice}
use Rattle.bounded_sequences.proofs.Turning.{Turn}
use Rattle.bounded_sequences.proofs.last_acts.Given as goal

abbrev pub invariant-loop-w : goal.invariant-loop-w
invariant-loop-w l =
    (l.count ≤ walkers_most) × (l.n < depth_most) × Turn (last_choice l.workers) l.count (take l.n l.path) (after (take l.n l.path) (in_turn (last_choice l.workers) l.count 0)) l.initial.out l.initial.r l.out l.r l.w
