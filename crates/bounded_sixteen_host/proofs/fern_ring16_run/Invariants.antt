use Rattle.bounded_sixteen_host.proofs.Running.{Going}
use Rattle.bounded_sixteen_host.proofs.fern_ring16_run.Given as goal

abbrev pub invariant-loop-i : goal.invariant-loop-i
invariant-loop-i l = Going l.initial.head l.initial.meter l.initial.stamps l.initial.values l.initial.records l.schedule l.whole l.n l.head l.meter l.stamps l.values l.records l.i
