-- What a stamp load finds in a slot that is in nobody's hand: with the word of its end it decides, and a full or an empty ring is one.
use mathlib.Core.Path.{◌≡◌, refl, sym, ap, ◌∙◌}
use mathlib.Core.Bool.{Bool, true, false, cond, true≢false}
use Prim.Native.Nat.{ℕ, ◌+◌, ◌*◌, ◌%◌, ◌≤◌, ◌<◌}
use native.Mathlib.Omega.{arith}
use native.Mathlib.Nat.{add-mod_right}
use borrow.Author.Tests.{eqb-true, eqb-false, eq-eqb}
use Rattle.bounded_words.specs.declared.Stamp.{Stamp}
use Rattle.bounded_words.specs.declared.Fixed.{Fixed}
use Rattle.bounded_words.specs.declared.Width.{Width}
use Rattle.bounded_words.specs.Words.{unmarked_of, minus, same, one_past, lap_behind, lap_behind_one_past}
use Rattle.bounded_places.specs.declared.Slot.{Slot}
use Rattle.bounded_places.specs.declared.Ends.{Ends}
use Rattle.bounded_proof_invariant.proofs.Width.{Near, near_one, turn_long}
use Rattle.bounded_proof_invariant.proofs.Ring.{Cell, Await, Hold, Hand, Mine, Shared, CellOk, Inv}
use Rattle.bounded_proof_invariant.proofs.Effects.{Loose}
use Rattle.bounded_proof_each_act.proofs.Stamps
use Rattle.bounded_proof_each_act.proofs.Stamps.{Ground, fixed, W, tail_word}
use Rattle.bounded_proof_each_act.proofs.Sight.{ends_of_ring, slot_of_ring}

pub record SeesTail (bits : Width) (f : Fixed) (e : Ends) (s : Slot) (t : Stamp) : Type 0 where
  pub decides : e.tail ≡ t → same s.stamp t ≡ false → lap_behind_one_past bits f s.stamp t ≡ false → ⊥
  pub full : lap_behind_one_past bits f s.stamp t ≡ true → (lap_behind bits f e.head t ≡ true) × (same e.head (minus bits t f.lap) ≡ true)

pub record SeesHead (bits : Width) (f : Fixed) (e : Ends) (s : Slot) (h : Stamp) : Type 0 where
  pub decides : e.head ≡ h → one_past bits s.stamp h ≡ false → same s.stamp h ≡ false → ⊥
  pub empty : same s.stamp h ≡ true → same (unmarked_of f e.tail) h ≡ true

pub loose_of : (x : Cell) → ((v : ℕ) → Mine v x → ⊥) → Loose x
loose_of (Await k) free = tt
loose_of (Hold k) free = tt
loose_of (Hand st k w) free = free w refl

pub same_self : (a b : Stamp) → a ≡ b → same a b ≡ true
unfolding same
same_self a b e = eq-eqb a.0 b.0 (ap (λ (z : Stamp). z.0) e)

clash : {A : Type 0} (b : Bool) → b ≡ true → b ≡ false → A
clash b p q = absurd (true≢false (sym p ∙ q))

unmarked : (b t : Bool) → cond b false t ≡ true → t ≡ true
unmarked true t h = absurd (true≢false (sym h))
unmarked false t h = h

module _ (bits : Width) (c mark n ed : ℕ) (g : Ground bits c mark n) (s : Shared) (inv : Inv c s) (i m v : ℕ) (b : Bool) (at : m % c ≡ i) where
  abbrev f : Fixed
  f = fixed c mark ed

  abbrev Word : ℕ → Stamp
  Word k = W c mark n k

  turn : 3 * c ≤ n * c
  turn = turn_long c mark n g.laws

  some : 0 < c
  some = g.laws.some

  -- a word of tail: no older than a turn less one capacity
  module _ (le : m ≤ s.tail) (late : s.tail + c < m + n * c) where
    tail_is : tail_word c mark n s.tail b ≡ Word m → s.tail ≡ m
    tail_is e =
        let r : Near (n * c) s.tail m = omega (arith, turn) in
        eqb-true _ _ (unmarked b _ (sym (Stamps.same_tail bits c mark n g s.tail m b r) ∙ same_self _ _ e))

    pub sees_tail : (x : Cell) → CellOk c s i x → Loose x → SeesTail bits f (ends_of_ring c mark n s b) (slot_of_ring c mark n x v) (Word m)
    sees_tail (Await k) o l =
        let r : Near (n * c) k m = omega (arith, turn, inv.low, inv.high, o.1, o.2) in
        record {
          decides =
              λ q h d.
              let e : s.tail ≡ m = tail_is q in
              let z : k % c ≡ s.tail % c = o.0 ∙ sym at ∙ ap (λ (y : ℕ). y % c) (sym e) in
              let w : k ≡ s.tail = near_one c s.tail k some o.1 (omega (arith, inv.low, o.2)) z in
              eqb-false k m (sym (Stamps.stamp_same bits c mark n g false k m (o.0 ∙ sym at) r) ∙ h) (w ∙ e);
          full = λ d. clash _ d (Stamps.stamp_behind bits c mark n g ed false k m (o.0 ∙ sym at) (λ e. absurd (true≢false (sym e))));
        }
    sees_tail (Hold k) o l =
        let r' : Near (n * c) (k + c) m = omega (arith, turn, inv.low, inv.high, o.1, o.2) in
        let past = Stamps.stamp_behind bits c mark n g ed true k m (o.0 ∙ sym at) (λ e. r') in
        record {
          decides =
              λ q h d.
              let e : s.tail ≡ m = tail_is q in
              let z : (k + c) % c ≡ s.tail % c = add-mod_right k c ∙ o.0 ∙ sym at ∙ ap (λ (y : ℕ). y % c) (sym e) in
              let w : k + c ≡ s.tail = near_one c s.tail (k + c) some (omega (arith, inv.high, o.1)) (omega (arith, o.2)) z in
              eqb-false (k + c) m (sym past ∙ d) (w ∙ e);
          full =
              λ d.
              let w : k + c ≡ m = eqb-true (k + c) m (sym past ∙ d) in
              let e : s.head ≡ k = omega (arith, inv.high, o.1) in
              let near : Near (n * c) (s.head + c) m = omega (arith, turn) in
              let near' : Near (n * c) s.head k = omega (arith, turn) in (
                Stamps.behind_is bits c mark n g ed s.head m near ∙ eq-eqb (s.head + c) m (omega arith),
                ap (λ (y : ℕ). same (Word s.head) (minus bits (Word y) (2 * mark))) (sym w) ∙ Stamps.before_is bits c mark n g s.head k near' ∙ eq-eqb s.head k e,
              );
        }
    sees_tail (Hand _ _ _) o l = elim l [ ]

  -- a word of head
  module _ (le : m ≤ s.head) (late : s.head + c < m + n * c) where
    head_is : Word s.head ≡ Word m → s.head ≡ m
    head_is e =
        let r : Near (n * c) s.head m = omega (arith, turn) in
        eqb-true _ _ (sym (Stamps.same_is bits c mark n g s.head m r) ∙ same_self _ _ e)

    pub sees_head : (x : Cell) → CellOk c s i x → Loose x → SeesHead bits f (ends_of_ring c mark n s b) (slot_of_ring c mark n x v) (Word m)
    sees_head (Await k) o l =
        let r : Near (n * c) k m = omega (arith, turn, inv.low, inv.high, o.1, o.2) in
        let here = Stamps.stamp_same bits c mark n g false k m (o.0 ∙ sym at) r in
        record {
          decides =
              λ q p d.
              let e : s.head ≡ m = head_is q in
              let z : k % c ≡ s.head % c = o.0 ∙ sym at ∙ ap (λ (y : ℕ). y % c) (sym e) in
              let w : k ≡ s.head = near_one c s.head k some (omega (arith, inv.low, o.1)) o.2 z in
              eqb-false k m (sym here ∙ d) (w ∙ e);
          empty =
              λ d.
              let w : k ≡ m = eqb-true k m (sym here ∙ d) in
              let e : s.tail ≡ m = omega (arith, inv.low, o.1) in
              same_self _ _ (Stamps.unmarked_tail bits c mark n g ed s.tail b ∙ ap Word e);
        }
    sees_head (Hold k) o l =
        let r : Near (n * c) k m = omega (arith, turn, inv.low, inv.high, o.1, o.2) in
        record {
          decides =
              λ q p d.
              let e : s.head ≡ m = head_is q in
              let z : k % c ≡ s.head % c = o.0 ∙ sym at ∙ ap (λ (y : ℕ). y % c) (sym e) in
              let w : k ≡ s.head = near_one c s.head k some o.1 (omega (arith, inv.high, o.2)) z in
              eqb-false k m (sym (Stamps.stamp_past bits c mark n g true k m (o.0 ∙ sym at) r) ∙ p) (w ∙ e);
          empty = λ d. clash _ d (Stamps.stamp_same bits c mark n g true k m (o.0 ∙ sym at) r);
        }
    sees_head (Hand _ _ _) o l = elim l [ ]
