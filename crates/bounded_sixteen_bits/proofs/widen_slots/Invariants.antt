use Rattle.bounded_sixteen_bits.specs.SixteenBits.{wide_slot, ShortSlots}
use Rattle.bounded_sixteen_bits.proofs.Slots.{Done}
use Rattle.bounded_sixteen_bits.proofs.widen_slots.Given as goal

abbrev pub invariant-loop-i : goal.invariant-loop-i
invariant-loop-i l = Done wide_slot (record { stamp = record { 0 = 0 }; value = 0 }) l.fn.slots l.wide l.i × ShortSlots l.wide
