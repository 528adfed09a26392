use mathlib.Core.Path.{refl}
use native.Mathlib.Omega.{arith}
use borrow.Author.Rules.{rules}
use Rattle.bounded_machine.specs.Machine.{slot}
use Rattle.bounded_sixteen_bits.specs.SixteenBits.{narrow_slot}
use Rattle.bounded_sixteen_bits.proofs.Slots.{one_done, all_done}
use Rattle.bounded_sixteen_bits.proofs.narrow_slots.Goals as goal

pub loop-i-preserved : goal.loop-i-preserved
loop-i-preserved c = one_done narrow_slot (slot 0 0) _ _ _ _ c.loop-i.invariant (omega arith) refl

pub returns : goal.returns
returns c = all_done narrow_slot (slot 0 0) _ _ _ c.loop-i.invariant c.loop-i-test.false (search rules)
