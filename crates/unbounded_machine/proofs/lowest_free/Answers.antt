use mathlib.Core.Path.{◌≡◌, ◌∙◌, refl}
use native.Mathlib.Omega.{arith}
use Rattle.unbounded_machine.specs.Turn.{lowest_free}
use Rattle.unbounded_machine.proofs.Laws.{lowest_here, lowest_on, lowest_none}
use Rattle.unbounded_machine.proofs.lowest_free.Goals as goal

pub loop-k-init : goal.loop-k-init
unfolding lowest_free
loop-k-init c = refl

pub returns-then-block : goal.returns-then-block
returns-then-block c = lowest_here _ _ _ c.loop-k.invariant (omega arith) c.if-block.true

pub loop-k-preserved : goal.loop-k-preserved
loop-k-preserved c = lowest_on _ _ _ c.loop-k.invariant (omega arith) c.if-block.false

pub returns : goal.returns
returns c = let e : 64 ≡ c.loop-k.k = omega arith in e ∙ lowest_none _ _ _ c.loop-k.invariant (omega arith)
