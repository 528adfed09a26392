use Prim.Native.Nat.{ℕ, ◌-◌}
use mathlib.Core.Path.{◌≡◌}
use lib.Dec.{ltb}
use Rattle.queue_entries.specs.Limits.{workers_most, all}
use Rattle.bounded_machine.specs.Machine.{record_of_worker}
use Rattle.bounded_machine.specs.Broken.{record_fits, records_fit}
use Rattle.bounded_machine.proofs.records_fit.Given as goal

abbrev pub invariant-loop-i : goal.invariant-loop-i
invariant-loop-i l =
    all (workers_most - l.i) l.i (λ (k : ℕ). record_fits l.f l.meter (record_of_worker l.fn.workers k) (ltb k l.count)) ≡ records_fit workers_most l.f l.count l.meter l.fn.workers
