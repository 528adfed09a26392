use Rattle.std.proofs.Common.{◌≡◌, ◌+◌, ◌≤◌, ◌*◌}
use Rattle.queue_walks.specs.Walks.{walkers_most}
use Rattle.bounded_sequences.proofs.Turning.{Going}
use Rattle.bounded_sequences.proofs.+choose_walk_state.Given as goal

abbrev pub decreases-choose : goal.decreases-choose
decreases-choose l = 2 * l.left + 1

abbrev pub decreases-walk_state : goal.decreases-walk_state
decreases-walk_state l = 2 * l.left

abbrev pub invariant-walk_state-loop-w : goal.invariant-walk_state-loop-w
invariant-walk_state-loop-w l =
    (l.count ≡ l.s.count) × Going l.s l.path l.n l.left l.initial.stamps l.initial.values l.initial.out l.initial.r l.stamps l.values l.out l.r l.w × (l.count ≤ walkers_most)
