use Prim.Native.Nat.{ℕ, ◌+◌, ◌-◌, ◌*◌, ◌/◌, ◌%◌, ◌<◌}
use mathlib.Core.Path.{◌≡◌, refl, sym, ap, ◌∙◌}
use native.Mathlib.Omega.{arith}
use borrow.Author.Tests.{eqb-false}
use lib.ListN.{get_or, length-set}
use mathlib.Core.Bool.{Bool, false}
use Rattle.unbounded_words.specs.declared.Index.{Index}
use Rattle.unbounded_words.specs.Words.{sizes, same, offset_of, past_slots}
use Rattle.unbounded_machine.specs.Machine.{slot}
use Rattle.unbounded.proofs.Items.{on_block, pass_gap, pass_slot, written_on, within_all, fits_buffer, listed, begins, told_all, turned_6, turned_4, turned_10, ends_within}
use Rattle.unbounded.proofs.contents.Goals as goal
use Rattle.unbounded.proofs.contents.Goals.{then-past_slots, else-past_slots}
use lib.Dec.{eqb}

eq_same : (a b : Index) (s : Bool) → s ≡ eqb a.0 b.0 → s ≡ same a b
unfolding same
eq_same a b s e = e

slot_below : (h : Index) (p : Bool) (o : ℕ) → p ≡ past_slots sizes h → p ≡ false → o ≡ offset_of sizes h → o < 31
unfolding past_slots
slot_below h p o e f g =
    let n : h.0 / 2 % 32 ≡ 31 → ⊥ = eqb-false (h.0 / 2 % 32) 31 (sym e ∙ f) in
    let q : o ≡ h.0 / 2 % 32 = g in omega arith

pub returns-then-broken : goal.returns-then-broken
returns-then-broken c = record { answer = (turned_6 _ _ c.broken.result c.broken.ensures c.if-broken.true).0; lent = (turned_6 _ _ c.broken.result c.broken.ensures c.if-broken.true).1 }

pub returns-then-not-all_idle : goal.returns-then-not-all_idle
returns-then-not-all_idle c = record {
  answer = (turned_4 _ _ c.broken.result c.broken.ensures
      c.if-broken.false c.all_idle.result c.all_idle.ensures c.if-not-all_idle.true).0;
  lent = (turned_4 _ _ c.broken.result c.broken.ensures
      c.if-broken.false c.all_idle.result c.all_idle.ensures c.if-not-all_idle.true).1;
}

pub returns-then-buffer-n : goal.returns-then-buffer-n
returns-then-buffer-n c = record {
  answer = (turned_10 c.args.m
      c.args.buffer.now
      c.broken.result
      c.broken.ensures
      c.if-broken.false c.all_idle.result
      c.all_idle.ensures c.if-not-all_idle.false c.walk-walked.result
      c.walk-walked.ensures c.if-buffer-n.true).0;
  lent = (turned_10 c.args.m
      c.args.buffer.now
      c.broken.result
      c.broken.ensures
      c.if-broken.false c.all_idle.result
      c.all_idle.ensures c.if-not-all_idle.false c.walk-walked.result
      c.walk-walked.ensures c.if-buffer-n.true).1;
}

pub loop-init : goal.loop-init
loop-init c = (
  begins c.args.m
      c.args.buffer.now
      c.broken.result
      c.broken.ensures
      c.if-broken.false
      c.all_idle.result
      c.all_idle.ensures
      c.if-not-all_idle.false c.walk-walked.result
      c.walk-walked.ensures _ _ c.unmarked-h.ensures c.unmarked-t.ensures,
  refl,
  c.if-buffer-n.false,
  refl,
  omega arith,
)

pub returns-then-eq : goal.returns-then-eq
returns-then-eq c = let z = listed _ _ _ _ _ _ _ _ _ c.loop.invariant.0 _ _ c.loop.invariant.1
    c.loop.invariant.2 c.loop.invariant.3 (sym (eq_same _ _ _ c.eq.ensures) ∙ c.if-eq.true)
    c.loop.invariant.4 in record {
      answer = (told_all c.args.m c.args.buffer.now c.broken.result c.broken.ensures c.if-broken.false c.all_idle.result
          c.all_idle.ensures
          c.if-not-all_idle.false
          c.walk-walked.result
          c.walk-walked.ensures _ _ _ c.unmarked-h.ensures
          c.unmarked-t.ensures c.if-buffer-n.false z.0 z.1).0;
      lent = (told_all c.args.m c.args.buffer.now c.broken.result c.broken.ensures c.if-broken.false c.all_idle.result
          c.all_idle.ensures
          c.if-not-all_idle.false
          c.walk-walked.result
          c.walk-walked.ensures _ _ _ c.unmarked-h.ensures
          c.unmarked-t.ensures c.if-buffer-n.false z.0 z.1).1;
    }

pub offset_bounds-blocks-k : goal.offset_bounds-blocks-k
offset_bounds-blocks-k c = let k = on_block _ _ _ _ _ _ _ c.loop.invariant.0.walk
    (omega arith)
    (sym (eq_same _ _ _ c.eq.ensures) ∙ c.if-eq.false) c.number-k.result
    c.number-k.ensures in omega arith

pub bounds-blocks-k : goal.bounds-blocks-k
bounds-blocks-k c = on_block _ _ _ _ _ _ _ c.loop.invariant.0.walk
    (omega arith)
    (sym (eq_same _ _ _ c.eq.ensures) ∙ c.if-eq.false) c.number-k.result
    c.number-k.ensures

pub offset_bounds-blocks-k-then-past_slots : goal.offset_bounds-blocks-k-then-past_slots
offset_bounds-blocks-k-then-past_slots c = let k = on_block _ _ _ _ _ _ _ c.loop.invariant.0.walk
    (omega arith)
    (sym (eq_same _ _ _ c.eq.ensures) ∙ c.if-eq.false)
    c.number-k.result c.number-k.ensures in omega arith

pub bounds-blocks-k-then-past_slots : goal.bounds-blocks-k-then-past_slots
bounds-blocks-k-then-past_slots c = on_block _ _ _ _ _ _ _ c.loop.invariant.0.walk
    (omega arith)
    (sym (eq_same _ _ _ c.eq.ensures) ∙ c.if-eq.false)
    c.number-k.result c.number-k.ensures

pub overflow_mul-s : goal.overflow_mul-s
overflow_mul-s c = let k = on_block _ _ _ _ _ _ _ c.loop.invariant.0.walk
    (omega arith)
    (sym (eq_same _ _ _ c.eq.ensures) ∙ c.if-eq.false) c.number-k.result
    c.number-k.ensures in omega arith

pub overflow_add-s : goal.overflow_add-s
overflow_add-s c = let k = on_block _ _ _ _ _ _ _ c.loop.invariant.0.walk
    (omega arith)
    (sym (eq_same _ _ _ c.eq.ensures) ∙ c.if-eq.false)
    c.number-k.result c.number-k.ensures in let o = c.offset.ensures in omega arith

pub offset_bounds-slots-k : goal.offset_bounds-slots-k
offset_bounds-slots-k c = let k = on_block _ _ _ _ _ _ _ c.loop.invariant.0.walk
    (omega arith)
    (sym (eq_same _ _ _ c.eq.ensures) ∙ c.if-eq.false)
    c.number-k.result c.number-k.ensures in let o = slot_below _ _ _ c.past_slots.ensures c.if-past_slots.false c.offset.ensures in omega arith

pub bounds-slots-k : goal.bounds-slots-k
bounds-slots-k c = let k = on_block _ _ _ _ _ _ _ c.loop.invariant.0.walk
    (omega arith)
    (sym (eq_same _ _ _ c.eq.ensures) ∙ c.if-eq.false)
    c.number-k.result c.number-k.ensures in let o = slot_below _ _ _ c.past_slots.ensures c.if-past_slots.false c.offset.ensures in omega arith

pub offset_bounds-buffer-met : goal.offset_bounds-buffer-met
offset_bounds-buffer-met c = let f = fits_buffer _ _ _ _ _ _ _ _ _ c.loop.invariant.0 _ _
    c.loop.invariant.1
    c.loop.invariant.2
    c.loop.invariant.3
    (omega arith)
    (sym (eq_same _ _ _ c.eq.ensures) ∙ c.if-eq.false)
    c.past_slots.result c.past_slots.ensures _ refl c.number-k.result
    c.number-k.ensures c.if-past_slots.false _ (ap (λ (i : ℕ). (get_or c.args.m.slots (c.number-k.result * 31 + i) (slot 0 0)).value) c.offset.ensures) in omega arith

pub bounds-buffer-met : goal.bounds-buffer-met
bounds-buffer-met c = fits_buffer _ _ _ _ _ _ _ _ _ c.loop.invariant.0 _ _
    c.loop.invariant.1
    c.loop.invariant.2
    c.loop.invariant.3
    (omega arith)
    (sym (eq_same _ _ _ c.eq.ensures) ∙ c.if-eq.false)
    c.past_slots.result c.past_slots.ensures _ refl c.number-k.result
    c.number-k.ensures c.if-past_slots.false _ (ap (λ (i : ℕ). (get_or c.args.m.slots (c.number-k.result * 31 + i) (slot 0 0)).value) c.offset.ensures)

pub loop-preserved : goal.loop-preserved
loop-preserved c =
    let q : 2080 - (c.loop.counter + 1) ≡ 2080 - c.loop.counter - 1 = omega arith in
    elim c.if-past_slots.branch [
      | then-past_slots w ↦ rw (q, w.blocks-is, w.b-is, w.met-is, w.buffer-is) (
        pass_gap _ _ _ _ _ _ _ _ _ c.loop.invariant.0 _ _
            c.loop.invariant.1
            c.loop.invariant.2
            c.loop.invariant.3
            (omega arith)
            (sym (eq_same _ _ _ c.eq.ensures) ∙ c.if-eq.false)
            c.past_slots.result c.past_slots.ensures c.next-h.result c.next-h.ensures
            c.number-k.result c.number-k.ensures w.if-past_slots.true,
        c.loop.invariant.1,
        c.loop.invariant.2,
        c.loop.invariant.3,
        c.loop.invariant.4,
      )
      | else-past_slots w ↦ rw (q, w.blocks-is, w.b-is, w.met-is, w.buffer-is) (
        pass_slot _ _ _ _ _ _ _ _ _ c.loop.invariant.0 _ _
            c.loop.invariant.1
            c.loop.invariant.2
            c.loop.invariant.3
            (omega arith)
            (sym (eq_same _ _ _ c.eq.ensures) ∙ c.if-eq.false)
            c.past_slots.result c.past_slots.ensures c.next-h.result c.next-h.ensures
            c.number-k.result c.number-k.ensures
            w.if-past_slots.false _ (ap (λ (i : ℕ). (get_or c.args.m.slots (c.number-k.result * 31 + i) (slot 0 0)).value)
            w.offset.ensures),
        simp length-set c.loop.invariant.1,
        c.loop.invariant.2,
        written_on _ _ _ _ _ _ _ _ _ c.loop.invariant.0 _ _
            c.loop.invariant.1
            c.loop.invariant.2
            c.loop.invariant.3
            (omega arith)
            (sym (eq_same _ _ _ c.eq.ensures) ∙ c.if-eq.false)
            c.past_slots.result c.past_slots.ensures c.next-h.result c.next-h.ensures
            c.number-k.result c.number-k.ensures
            w.if-past_slots.false _ (ap (λ (i : ℕ). (get_or c.args.m.slots (c.number-k.result * 31 + i) (slot 0 0)).value)
            w.offset.ensures),
        within_all _ _ _ _ _ _ _ _ _ c.loop.invariant.0 _ _
            c.loop.invariant.1
            c.loop.invariant.2
            c.loop.invariant.3
            (omega arith)
            (sym (eq_same _ _ _ c.eq.ensures) ∙ c.if-eq.false)
            c.past_slots.result c.past_slots.ensures c.next-h.result c.next-h.ensures
            c.number-k.result c.number-k.ensures
            w.if-past_slots.false _ (ap (λ (i : ℕ). (get_or c.args.m.slots (c.number-k.result * 31 + i) (slot 0 0)).value)
            w.offset.ensures),
      )
    ]

pub returns : goal.returns
returns c = absurd (ends_within _ _ _ _ _ _ _ _ _ c.loop.invariant.0 (omega arith))
