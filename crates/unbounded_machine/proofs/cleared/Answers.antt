use native.Mathlib.Omega.{arith}
use mathlib.Core.Path.{refl}
use Rattle.unbounded_machine.specs.Turn.{cleared}
use Rattle.unbounded_machine.proofs.Laws.{clears, clear_done}
use Rattle.unbounded_machine.proofs.cleared.Goals as goal

pub loop-i-init : goal.loop-i-init
loop-i-init c = refl

pub loop-i-preserved : goal.loop-i-preserved
loop-i-preserved c = clears _ _ _ _ c.loop-i.invariant (omega arith)

pub returns : goal.returns
unfolding cleared
returns c = clear_done _ _ _ _ c.loop-i.invariant (omega arith)
