use Rattle.bounded_slices.proofs.Filling.{Stored}
use Rattle.bounded_slices.proofs.put_slots.Given as goal

abbrev pub invariant-loop-i : goal.invariant-loop-i
invariant-loop-i l = Stored l.initial.slots l.all l.i l.slots
