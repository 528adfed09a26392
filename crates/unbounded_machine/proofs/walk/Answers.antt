use Prim.Native.Nat.{◌+◌, ◌-◌}
use Rattle.unbounded_words.specs.Words.{same}
use Rattle.unbounded_machine.proofs.Laws.{walk_end, walk_none, walk_free, walk_gap, walk_slot, walk_out, walk_all}
use mathlib.Core.Path.{◌≡◌, ◌∙◌, refl}
use native.Mathlib.Omega.{arith}
use mathlib.Core.Path.{◌≡◌, ◌∙◌, refl}
use Rattle.unbounded_machine.proofs.walk.Goals as goal
use Rattle.unbounded_machine.proofs.walk.Goals.{then-past_slots, else-past_slots}

pub loop-init : goal.loop-init
loop-init c = (omega arith, refl)

pub returns-then-eq : goal.returns-then-eq
unfolding same
returns-then-eq c = walk_end _ _ _ _ _ _ _ c.loop.invariant.1 (omega arith)
    c.eq.result c.eq.ensures c.last_fits.result c.if-eq.true c.last_fits.ensures
    ∙ walk_all _ _ _ _ c.unmarked-h.ensures c.unmarked-t.ensures

pub returns-then-k : goal.returns-then-k
unfolding same
returns-then-k c = walk_none _ _ _ _ _ _ _ c.loop.invariant.1 (omega arith)
    c.eq.result c.eq.ensures c.if-eq.false c.number-k.result
    c.number-k.ensures c.if-k.true ∙ walk_all _ _ _ _ c.unmarked-h.ensures
    c.unmarked-t.ensures

pub returns-then-g : goal.returns-then-g
unfolding same
returns-then-g c = walk_free _ _ _ _ _ _ _ c.loop.invariant.1
    (omega arith) c.eq.result
    c.eq.ensures c.if-eq.false c.number-k.result
    c.number-k.ensures c.if-k.false c.if-g.true
    ∙ walk_all _ _ _ _ c.unmarked-h.ensures
    c.unmarked-t.ensures

pub loop-preserved : goal.loop-preserved
unfolding same
loop-preserved c =
    let q : 2080 - (c.loop.counter + 1) ≡ 2080 - c.loop.counter - 1 = omega arith in
    elim c.if-past_slots.branch [
      | then-past_slots w ↦ (
        omega arith,
        rw (q, w.blocks-is, w.b-is, w.met-is)
            (walk_gap _ _ _ _ _ _ _ c.loop.invariant.1 (omega arith) c.eq.result c.eq.ensures c.if-eq.false c.number-k.result
            c.number-k.ensures c.if-k.false c.if-g.false c.past_slots.result c.past_slots.ensures c.next-h.result c.next-h.ensures
            w.if-past_slots.true),
      )
      | else-past_slots w ↦ (
        omega arith,
        rw (q, w.blocks-is, w.b-is, w.met-is)
            (walk_slot _ _ _ _ _ _ _ c.loop.invariant.1 (omega arith) c.eq.result c.eq.ensures c.if-eq.false c.number-k.result
            c.number-k.ensures c.if-k.false c.if-g.false c.past_slots.result c.past_slots.ensures c.next-h.result c.next-h.ensures
            w.if-past_slots.false),
      )
    ]

pub returns : goal.returns
returns c = walk_out _ _ _ _ _ _ _ c.loop.invariant.1 (omega arith) ∙ walk_all _ _ _ _ c.unmarked-h.ensures c.unmarked-t.ensures
