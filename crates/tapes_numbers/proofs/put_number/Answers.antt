use mathlib.Core.Path.{refl}
use native.Mathlib.Omega.{arith}
use lib.ListN.{length-set}
use Rattle.tapes_numbers.proofs.Orders.{none_written, one_written, all_written, spot_below}
use Rattle.tapes_numbers.proofs.put_number.Goals as goal

pub loop-i-init : goal.loop-i-init
loop-i-init c = (refl, none_written _ _)

pub bounds-buffer-spot : goal.bounds-buffer-spot
bounds-buffer-spot c = omega (arith, c.spot.ensures, spot_below c.args.v _ _ c.loop-i-test.true)

pub loop-i-preserved : goal.loop-i-preserved
loop-i-preserved c = let l = c.loop-i in (simp length-set l.invariant.0, one_written _ l.buffer _ l.i l.rest l.invariant.0 _ _ (omega arith) c.spot.ensures l.invariant.1)

pub returns : goal.returns
returns c = let l = c.loop-i in all_written _ l.buffer _ l.i l.rest l.invariant.0 _ c.loop-i-test.false l.invariant.1
