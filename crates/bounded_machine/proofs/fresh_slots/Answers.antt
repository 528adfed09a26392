use Prim.Native.Nat.{ℕ}
use mathlib.Core.Path.{◌≡◌, refl, ap, ◌∙◌}
use native.Mathlib.Omega.{arith}
use native.Mathlib.Numerals.{add-one}
use Rattle.bounded_machine.specs.Machine.{stamped, empty_slots, fresh_slots}
use Rattle.bounded_machine.proofs.fresh_slots.Goals as goal

pub loop-i-init : goal.loop-i-init
unfolding stamped empty_slots
loop-i-init c = refl

pub loop-i-preserved : goal.loop-i-preserved
unfolding stamped
loop-i-preserved c = rw (c.loop-i.invariant, add-one) refl

pub returns : goal.returns
unfolding fresh_slots
returns c =
    let e : c.loop-i.i ≡ c.args.capacity = omega arith in
    c.loop-i.invariant ∙ ap (λ (k : ℕ). stamped k empty_slots) e
