use Prim.Native.Nat.{◌+◌, ◌-◌, ◌≤◌}
use mathlib.Core.Path.{◌≡◌}
use Rattle.queue_entries.specs.Limits.{workers_most}
use Rattle.unbounded_words.specs.Words.{sizes}
use Rattle.unbounded_judged.specs.Judged.{busy_from, busy_in}
use Rattle.unbounded_judged.proofs.busy_in.Given as goal

abbrev pub invariant-loop-worker : goal.invariant-loop-worker
invariant-loop-worker l =
    (l.n ≤ l.worker-index) × (l.n + busy_from sizes (workers_most - l.worker-index) l.worker-index l.fn.workers ≡ busy_in sizes l.fn.workers)
