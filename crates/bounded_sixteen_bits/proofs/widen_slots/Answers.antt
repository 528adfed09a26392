use mathlib.Core.Path.{refl}
use native.Mathlib.Omega.{arith}
use borrow.Author.Rules.{rules}
use Rattle.bounded_sixteen_bits.specs.SixteenBits.{wide_slot}
use Rattle.bounded_sixteen_bits.proofs.Slots.{none_done, one_done, all_done, none_short, one_short}
use Rattle.bounded_sixteen_bits.proofs.widen_slots.Goals as goal

pub loop-i-init : goal.loop-i-init
loop-i-init c = (none_done wide_slot (record { stamp = record { 0 = 0 }; value = 0 }) _ _ refl, none_short)

pub loop-i-preserved : goal.loop-i-preserved
loop-i-preserved c = (
  one_done wide_slot (record { stamp = record { 0 = 0 }; value = 0 }) _ _ _ _ c.loop-i.invariant.0 (omega arith) (search rules),
  one_short c.loop-i.wide c.loop-i.i _ c.loop-i.invariant.1 (search rules),
)

pub returns : goal.returns
returns c = record {
  same = all_done wide_slot (record { stamp = record { 0 = 0 }; value = 0 }) _ _ _ c.loop-i.invariant.0 c.loop-i-test.false (search rules);
  short = c.loop-i.invariant.1;
}
