use Rattle.bounded_slices.proofs.Filling.{Taken}
use Rattle.bounded_slices.proofs.slots_in.Given as goal

abbrev pub invariant-loop-i : goal.invariant-loop-i
invariant-loop-i l = Taken l.slots l.initial.all l.i l.all
