use mathlib.Core.Path.{refl}
use native.Mathlib.Omega.{arith}
use Rattle.tapes.proofs.Loads.{load_all, load_unfit, load_more}
use Rattle.tapes.proofs.loaded.Goals as goal

pub loop-i-init : goal.loop-i-init
loop-i-init c = (refl, omega arith, refl)

pub returns-then-not-carried : goal.returns-then-not-carried
returns-then-not-carried c = let l = c.loop-i in
    load_unfit c.args.words.now l.i l.long _ l.invariant.2 (omega arith) _ c.carried.ensures c.if-not-carried.true

pub loop-i-preserved : goal.loop-i-preserved
loop-i-preserved c = let l = c.loop-i in (
  refl,
  omega arith,
  load_more c.args.words.now l.i l.long _
      l.invariant.2 (omega arith) _ c.carried.ensures _ c.if-not-carried.false c.size-long.ensures.0,
)

pub returns : goal.returns
returns c = let l = c.loop-i in load_all c.args.words.now l.i l.long _ l.invariant.2 (omega arith)
