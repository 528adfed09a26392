use Prim.Native.Nat.{ℕ, ◌-◌}
use mathlib.Core.Path.{◌≡◌}
use mathlib.Core.Bool.{not}
use Rattle.queue_entries.specs.Limits.{workers_most, all}
use Rattle.bounded_places.specs.Places.{view_of}
use Rattle.bounded_machine.specs.Machine.{place_of}
use Rattle.bounded_machine.specs.Broken.{all_idle}
use Rattle.bounded_machine.proofs.all_idle.Given as goal

abbrev pub invariant-loop-worker : goal.invariant-loop-worker
invariant-loop-worker l =
    all (workers_most - l.worker-index) l.worker-index (λ (k : ℕ). not (view_of (place_of l.fn.workers k)).busy) ≡ all_idle l.fn.workers
