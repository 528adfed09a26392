use native.Mathlib.Omega.{arith}
use Rattle.queue_entries.proofs.Limits.{all_more, all_failed, all_passed}
use mathlib.Core.Path.{refl, ap}
use mathlib.Core.Bool.{not}
use Rattle.unbounded_places.specs.declared.View.{View}
use Rattle.unbounded_machine.specs.Broken.{all_idle}
use Rattle.unbounded_machine.proofs.all_idle.Goals as goal

pub loop-worker-init : goal.loop-worker-init
unfolding all_idle
loop-worker-init c = refl

pub returns-then-view_of : goal.returns-then-view_of
returns-then-view_of c = all_failed _ _ _ _ c.loop-worker.invariant (not c.view_of.result.busy) (omega arith)
    (ap (λ (v : View). not v.busy) c.view_of.ensures) (ap not c.if-view_of.true)

pub loop-worker-preserved : goal.loop-worker-preserved
loop-worker-preserved c =
    all_more _ _ _ _ c.loop-worker.invariant (not c.view_of.result.busy) (omega arith)
    (ap (λ (v : View). not v.busy) c.view_of.ensures) (ap not c.if-view_of.false)

pub returns : goal.returns
returns c = all_passed _ _ _ _ c.loop-worker.invariant (omega arith)
