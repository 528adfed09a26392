use native.Mathlib.Omega.{arith}
use Rattle.unbounded_judged.proofs.Kept.{first_count, one_more, none_more, all_counted}
use Rattle.unbounded_judged.proofs.busy_in.Goals as goal
use Rattle.unbounded_judged.proofs.busy_in.Goals.{then-view_of, else-view_of}

pub loop-worker-init : goal.loop-worker-init
loop-worker-init c = (omega arith, first_count _)

pub loop-worker-preserved : goal.loop-worker-preserved
loop-worker-preserved c = elim c.if-view_of.branch [
  | then-view_of w ↦ (omega arith, rw w.n-is (one_more _ _ _ _ c.loop-worker.invariant.1 (omega arith) _ c.view_of.ensures w.if-view_of.true))
  | else-view_of w ↦ (omega arith, rw w.n-is (none_more _ _ _ _ c.loop-worker.invariant.1 (omega arith) _ c.view_of.ensures w.if-view_of.false))
]

pub returns : goal.returns
returns c = all_counted _ _ _ _ c.loop-worker.invariant.1 (omega arith)
