use native.Mathlib.Omega.{arith}
use mathlib.Core.Path.{◌≡◌, refl, ap}
use mathlib.Core.Bool.{true, false, cond, not}
use lib.Dec.{eqb}
use Rattle.queue_entries.proofs.Limits.{all_more, all_failed, all_passed}
use Rattle.bounded_causes.specs.Causes.{others_hold, watch_of}
use Rattle.bounded_causes.proofs.Kept.{passed_free, passed_own, stopped}
use Rattle.bounded_causes.proofs.others_hold.Goals as goal
use Rattle.bounded_causes.proofs.others_hold.Goals.{else-not-own-via-then-not-own+else-x, else-not-own-via-else-not-own}

pub loop-i-init : goal.loop-i-init
loop-i-init c = refl

pub loop-i-preserved : goal.loop-i-preserved
loop-i-preserved c =
    let t = cond (eqb c.loop-i.i c.args.w) true (not (watch_of c.args.xs c.loop-i.i).hand) in
    let e : t ≡ true = elim c.else-not-own.branch [ else-not-own-via-then-not-own+else-x w ↦ passed_free _ _ _ w.if-x.false | else-not-own-via-else-not-own w ↦ passed_own _ _ _ w.if-not-own.false ] in
    all_more _ _ _ _ c.loop-i.invariant t (omega arith) refl e

pub returns-then-x : goal.returns-then-x
unfolding others_hold
returns-then-x c =
    let t = cond (eqb c.loop-i.i c.args.w) true (not (watch_of c.args.xs c.loop-i.i).hand) in
    let e : t ≡ false = stopped _ _ _ c.if-not-own.true c.if-x.true in
    ap not (all_failed _ _ _ _ c.loop-i.invariant t (omega arith) refl e)

pub returns : goal.returns
unfolding others_hold
returns c = ap not (all_passed _ _ _ _ c.loop-i.invariant (omega arith))
