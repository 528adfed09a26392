use Prim.Native.Nat.{ℕ, ◌-◌}
use mathlib.Core.Path.{◌≡◌}
use lib.Dec.{ltb}
use Rattle.queue_entries.specs.Limits.{workers_most, all}
use Rattle.single_machine.specs.Machine.{place_of}
use Rattle.single_machine.specs.Broken.{record_fits, idle_from}
use Rattle.single_machine.proofs.idle_from.Given as goal

abbrev pub invariant-loop-i : goal.invariant-loop-i
invariant-loop-i l =
    all (workers_most - l.i) l.i (λ (k : ℕ). record_fits (place_of l.fn.workers k) (ltb k l.fn.n)) ≡ idle_from l.fn.n l.fn.workers
