use Prim.Native.Nat.{ℕ, ◌≤◌, ◌-◌}
use mathlib.Core.Path.{◌≡◌}
use Rattle.queue_entries.specs.Limits.{workers_most, all}
use Rattle.bounded_places.specs.Places.{view_of}
use Rattle.bounded_machine.specs.Machine.{place_of}
use Rattle.bounded_walks.proofs.all_busy.Given as goal

abbrev pub invariant-loop-i : goal.invariant-loop-i
invariant-loop-i l =
    (l.count ≤ workers_most) × (all (l.count - l.i) l.i (λ (k : ℕ). (view_of (place_of l.workers k)).busy) ≡ all l.count 0 (λ (k : ℕ). (view_of (place_of l.workers k)).busy))
