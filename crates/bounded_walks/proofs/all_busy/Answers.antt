use Prim.Native.Nat.{ℕ, ◌-◌}
use mathlib.Core.Path.{◌≡◌, refl, sym, ap}
use mathlib.Core.Bool.{Bool, true, false, not}
use native.Mathlib.Omega.{arith}
use Rattle.queue_entries.specs.Limits.{all}
use Rattle.queue_entries.proofs.Limits.{all_more, all_failed, all_passed}
use Rattle.bounded_places.specs.declared.View.{View}
use Rattle.bounded_places.specs.Places.{view_of}
use Rattle.bounded_machine.specs.Machine.{place_of}
use Rattle.bounded_walks.specs.Walks.{all_busy}
use Rattle.bounded_walks.proofs.all_busy.Goals as goal

not_false : (b : Bool) → not b ≡ false → b ≡ true
not_false true e = refl
not_false false e = sym e

not_true : (b : Bool) → not b ≡ true → b ≡ false
not_true true e = sym e
not_true false e = refl

pub loop-i-init : goal.loop-i-init
loop-i-init c =
    let e : c.args.m.count - 0 ≡ c.args.m.count = omega arith in
    (c.requires, ap (λ (k : ℕ). all k 0 (λ (i : ℕ). (view_of (place_of c.args.m.workers i)).busy)) e)

pub loop-i-preserved : goal.loop-i-preserved
loop-i-preserved c =
    let l = c.loop-i in
    (l.invariant.0, all_more _ _ _ _ l.invariant.1 c.view_of-view.result.busy (omega arith) (ap (λ (v : View). v.busy) c.view_of-view.ensures) (not_false _ c.if-not-view.false))

pub returns-then-not-view : goal.returns-then-not-view
unfolding all_busy
returns-then-not-view c =
    let l = c.loop-i in
    all_failed _ _ _ _ l.invariant.1 c.view_of-view.result.busy (omega arith) (ap (λ (v : View). v.busy) c.view_of-view.ensures) (not_true _ c.if-not-view.true)

pub returns : goal.returns
unfolding all_busy
returns c = all_passed _ _ _ _ c.loop-i.invariant.1 (omega arith)
