use Prim.Native.Nat.{◌+◌, ◌-◌}
use mathlib.Core.Path.{◌≡◌, refl}
use native.Mathlib.Omega.{arith}
use Rattle.unbounded_judged.proofs.Kept.{linked_none, linked_free, linked_on, linked_last}
use Rattle.unbounded_judged.proofs.linked_from.Goals as goal

pub loop-init : goal.loop-init
loop-init c = let q : c.args.laps - 0 ≡ c.args.laps = omega arith in rw q refl

pub returns-then-k : goal.returns-then-k
returns-then-k c = linked_none _ _ _ _ c.loop.invariant c.if-k.true

pub returns-then-g : goal.returns-then-g
returns-then-g c = linked_free _ _ _ _ c.loop.invariant c.if-k.false c.if-g.true

pub loop-preserved : goal.loop-preserved
loop-preserved c =
    let q : c.args.laps - (c.loop.counter + 1) ≡ c.args.laps - c.loop.counter - 1 = omega arith in
    rw q (linked_on _ _ _ _ c.loop.invariant (omega arith) c.if-k.false c.if-g.false _ c.number-k.ensures)

pub returns-then-k-2 : goal.returns-then-k-2
returns-then-k-2 c = linked_none _ _ _ _ c.loop.invariant c.if-k-2.true

pub returns-then-g-2 : goal.returns-then-g-2
returns-then-g-2 c = linked_free _ _ _ _ c.loop.invariant c.if-k-2.false c.if-g-2.true

pub returns : goal.returns
returns c = linked_last _ _ _ _ c.loop.invariant (omega arith) c.if-k-2.false c.if-g-2.false _ c.number.ensures
