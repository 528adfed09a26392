use Prim.Native.Nat.{◌-◌, ◌*◌}
use native.Mathlib.Omega.{arith}
use lib.ListN.{length}
use lib.Pow.{pow_pos}
use Rattle.tapes_numbers.proofs.Orders.{none_read, all_read, one_read, one_longer, room, spot_below}
use Rattle.tapes_numbers.proofs.number.Goals as goal

pub loop-i-init : goal.loop-i-init
loop-i-init c = let a = c.args in (none_read a.v a.bytes.now, pow_pos (8 * (length a.bytes.now - length a.bytes.now)))

pub overflow_mul-n : goal.overflow_mul-n
overflow_mul-n c = let h = room _ _ c.loop-i.i c.loop-i.invariant.1 (omega arith) (omega arith) in omega arith

pub bounds-bytes-spot : goal.bounds-bytes-spot
bounds-bytes-spot c = omega (
  arith,
  c.spot.ensures,
  spot_below c.args.v (length c.args.bytes.now) (c.loop-i.i - 1) (omega arith),
)

pub overflow_add-n : goal.overflow_add-n
overflow_add-n c = let l = c.loop-i in
    let h = room _ _ l.i l.invariant.1 (omega arith) (omega arith) in
    omega (arith, c.type_inv.bytes c.spot.result)

pub loop-i-preserved : goal.loop-i-preserved
loop-i-preserved c = let l = c.loop-i in
    let a = c.args in
    let byte = c.type_inv.bytes c.spot.result in (
      one_read a.v a.bytes.now l.i _ _ _ (omega arith) l.auto.i c.spot.ensures c.from.ensures l.invariant.0,
      one_longer a.v a.bytes.now l.i _ _ _ (omega arith) l.auto.i c.spot.ensures c.from.ensures l.invariant.1 (omega (arith, byte)),
    )

pub returns : goal.returns
returns c = all_read _ _ c.loop-i.i _ c.loop-i-test.false c.loop-i.invariant.0
