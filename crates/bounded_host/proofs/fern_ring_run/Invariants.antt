use Rattle.bounded_host.proofs.Running.{Going}
use Rattle.bounded_host.proofs.fern_ring_run.Given as goal

abbrev pub invariant-loop-i : goal.invariant-loop-i
invariant-loop-i l = Going l.initial.head l.initial.slots l.initial.records l.schedule l.whole l.n l.head l.slots l.records l.i
