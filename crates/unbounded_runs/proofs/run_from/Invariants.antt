use Prim.Native.Nat.{◌+◌, ◌*◌, ◌/◌, ◌-◌, ◌<◌, ◌≤◌}
use mathlib.Core.Path.{◌≡◌}
use lib.ListN.{length}
use Rattle.unbounded_words.specs.Words.{sizes}
use Rattle.unbounded_machine.specs.Machine.{machine_of}
use Rattle.unbounded_machine.specs.Turn.{cleared_from}
use Rattle.unbounded_machine.specs.Run.{run_from}
use Rattle.unbounded_runs.proofs.Turns.{Stand}
use Rattle.unbounded_runs.proofs.run_from.Given as goal

abbrev pub invariant-loop-c : goal.invariant-loop-c
invariant-loop-c l = (l.k < 64) × (cleared_from (31 - l.c) (l.k * 31 + l.c) l.slots ≡ cleared_from 31 (l.k * 31 + 0) l.initial.slots)

abbrev pub invariant-loop-i : goal.invariant-loop-i
invariant-loop-i l =
    (l.n ≡ length l.schedule / 2) × Stand l.schedule l.n l.i (machine_of l.ends l.blocks l.slots l.workers l.count l.meter) l.sound l.busy l.known
    (run_from sizes (machine_of l.initial.ends l.initial.blocks l.initial.slots l.initial.workers l.count l.initial.meter) 0 l.schedule)
