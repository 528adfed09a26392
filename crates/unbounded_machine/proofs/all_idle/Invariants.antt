use Prim.Native.Nat.{ℕ, ◌-◌}
use Rattle.unbounded_words.specs.Words.{sizes}
use Rattle.queue_entries.specs.Limits.{workers_most, all}
use Rattle.unbounded_machine.specs.Machine.{place_of}
use mathlib.Core.Path.{◌≡◌}
use mathlib.Core.Bool.{not}
use Rattle.unbounded_places.specs.Places.{view_of}
use Rattle.unbounded_machine.specs.Broken.{all_idle}
use Rattle.unbounded_machine.proofs.all_idle.Given as goal

abbrev pub invariant-loop-worker : goal.invariant-loop-worker
invariant-loop-worker l =
    all (workers_most - l.worker-index) l.worker-index (λ (k : ℕ). not (view_of sizes (place_of l.fn.workers k)).busy) ≡ all_idle sizes l.fn.workers
