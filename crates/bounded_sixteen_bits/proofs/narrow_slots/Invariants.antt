use Rattle.bounded_machine.specs.Machine.{slot}
use Rattle.bounded_sixteen_bits.specs.SixteenBits.{narrow_slot}
use Rattle.bounded_sixteen_bits.proofs.Slots.{Done}
use Rattle.bounded_sixteen_bits.proofs.narrow_slots.Given as goal

abbrev pub invariant-loop-i : goal.invariant-loop-i
invariant-loop-i l = Done narrow_slot (slot 0 0) l.fn.slots l.short l.i
