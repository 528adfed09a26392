use Rattle.bounded_slices.proofs.Fitting.{Going}
use Rattle.bounded_slices.proofs.records_fit.Given as goal

abbrev pub invariant-loop-i : goal.invariant-loop-i
invariant-loop-i l = Going l.records l.f l.meter l.counted l.n l.i
