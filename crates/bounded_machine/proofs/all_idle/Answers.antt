use native.Mathlib.Omega.{arith}
use Prim.Native.Nat.{ℕ}
use mathlib.Core.Path.{◌≡◌, sym, ap}
use mathlib.Core.Bool.{not}
use lib.ListN.{length}
use borrow.Author.Rules.{rules}
use Rattle.queue_entries.specs.Limits.{workers_most, all}
use Rattle.queue_entries.proofs.Limits.{all_more, all_failed, all_passed}
use Rattle.bounded_places.specs.Places.{view_of}
use Rattle.bounded_machine.specs.Machine.{place_of}
use Rattle.bounded_machine.specs.Broken.{all_idle}
use Rattle.bounded_machine.proofs.all_idle.Goals as goal

pub loop-worker-init : goal.loop-worker-init
unfolding all_idle
loop-worker-init c = let long : length c.args.workers ≡ workers_most = search rules in ap (λ (n : ℕ). all n 0 (λ (k : ℕ). not (view_of (place_of c.args.workers k)).busy)) (sym long)

pub returns-then-busy : goal.returns-then-busy
returns-then-busy c = all_failed _ _ _ _ c.loop-worker.invariant (not c.busy.result) (omega arith) (ap not c.busy.ensures) (ap not c.if-busy.true)

pub loop-worker-preserved : goal.loop-worker-preserved
loop-worker-preserved c = all_more _ _ _ _ c.loop-worker.invariant (not c.busy.result) (omega arith) (ap not c.busy.ensures) (ap not c.if-busy.false)

pub returns : goal.returns
returns c = all_passed _ _ _ _ c.loop-worker.invariant (omega arith)
