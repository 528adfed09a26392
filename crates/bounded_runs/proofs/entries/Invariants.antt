use Prim.Native.Nat.{◌*◌}
use mathlib.Core.Path.{◌≡◌}
use lib.ListN.{length, drop}
use Rattle.bounded_machine.specs.Machine.{machine_of}
use Rattle.bounded_machine.specs.Run.{run_at}
use Rattle.bounded_machine.proofs.Kept.{Unbroken}
use Rattle.bounded_runs.proofs.entries.Given as goal

abbrev pub invariant-loop-i : goal.invariant-loop-i
invariant-loop-i l =
    (length l.schedule ≡ 2 * l.n) × Unbroken (machine_of l.f l.ends l.slots l.workers l.count l.meter)
    × (run_at l.bits (machine_of l.f l.ends l.slots l.workers l.count l.meter) l.i (drop (2 * l.i) l.schedule) ≡ run_at l.bits l.fn.m 0 l.schedule)
