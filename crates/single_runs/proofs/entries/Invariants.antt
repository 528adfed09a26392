use Rattle.single_machine.specs.Machine.{machine_of}
use Rattle.single_machine.specs.Run.{run_from}
use Rattle.single_runs.proofs.Turns.{Stand}
use Rattle.single_runs.proofs.entries.Given as goal

abbrev pub invariant-loop-i : goal.invariant-loop-i
invariant-loop-i l =
    Stand l.schedule l.n l.i (machine_of l.single l.workers l.count l.meter) (run_from (machine_of l.initial.single l.initial.workers l.count l.initial.meter) 0 l.schedule)
