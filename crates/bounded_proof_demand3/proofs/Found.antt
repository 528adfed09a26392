-- What a stamp load finds when no slot is in another's hand: a fresh load decides, and a word that is out of date is seen.
use mathlib.Core.Path.{◌≡◌, refl, sym, ap, ◌∙◌, subst}
use mathlib.Core.Bool.{Bool, true, false, cond, true≢false}
use Prim.Native.Nat.{ℕ, ◌+◌, ◌*◌, ◌%◌, ◌≤◌, ◌<◌}
use native.Mathlib.Omega.{arith}
use native.Mathlib.Nat.{add-mod_right, mod-lt}
use lib.Dec.{eqb}
use borrow.Author.Tests.{eqb-true, eqb-false, eq-eqb, ne_eqb}
use Rattle.bounded_words.specs.declared.Stamp.{Stamp}
use Rattle.bounded_words.specs.declared.Fixed.{Fixed}
use Rattle.bounded_words.specs.declared.Width.{Width}
use Rattle.bounded_words.specs.Words.{index_of, marked_of, unmarked_of, minus, same, lap_behind}
use Rattle.bounded_places.specs.declared.Kind.{Kind}
use Rattle.bounded_places.specs.declared.Place.{Place}
use Rattle.bounded_places.specs.declared.Place.TheVariants.{Idle, P1, P2, P3, P4, P5, P6, F6, F7, F8, F9, O1, O2, O3, O4, O5, O6, Len1, Len2, Len3, Empty1, Empty2, Full1, Full2, Close1, IsClosed1}
use Rattle.bounded_places.specs.Places.{view_of}
use Rattle.bounded_machine.specs.Turn.{spot_of}
use Rattle.bounded_demands.specs.Notions.{InHand, hand_p4, hand_p5, hand_f7, hand_f8, hand_f9, hand_o4, hand_o5}
use Rattle.bounded_proof_invariant.proofs.Width.{Near, near_one, turn_long}
use Rattle.bounded_proof_invariant.proofs.Ring.{Stage, Fill, Filled, Take, Grab, Swap, Swapped, taking, Cell, Await, Hold, Hand, Mine, Shared, HandOk, CellOk, ViewOk, Awaits, Holds, Inv}
use Rattle.bounded_proof_invariant.proofs.Effects.{Loose}
use Rattle.bounded_proof_each_act.proofs.Stamps
use Rattle.bounded_proof_each_act.proofs.Stamps.{Ground, fixed, W, tail_word, slot_word, word_slot, lap_slot}
use Rattle.bounded_proof_each_act.proofs.Sight.{Age, look, HandAt, ends_of_ring, slot_of_ring, Stands, Recent}
use Rattle.bounded_proof_demand3.proofs.Falls.{Finds, FindsTail, FindsHead, Loads}

-- a hand of the ring is one of document 01, on the same slot
pub hand_of : (c mark i : ℕ) (p : Place) → HandAt mark (look c p) i → (t : Stamp) × InHand p t × (t.0 % mark ≡ i)
hand_of c mark i (Idle a) h = absurd h
hand_of c mark i (P1 k x) h = absurd h
hand_of c mark i (P2 k t x) h = absurd (true≢false (sym h.0))
hand_of c mark i (P3 k t x) h = absurd (true≢false (sym h.0))
hand_of c mark i (P4 t x) h = (t, hand_p4, h.1)
hand_of c mark i (P5 t) h = (t, hand_p5, h.1)
hand_of c mark i (P6 t x) h = absurd (true≢false (sym h.0))
hand_of c mark i (F6 t x) h = absurd (true≢false (sym h.0))
hand_of c mark i (F7 t x) h = (t, hand_f7, h.1)
hand_of c mark i (F8 t x) h = (t, hand_f8, h.1)
hand_of c mark i (F9 t old) h = (t, hand_f9, h.1)
hand_of c mark i O1 h = absurd h
hand_of c mark i (O2 w) h = absurd (true≢false (sym h.0))
hand_of c mark i (O3 w) h = absurd (true≢false (sym h.0))
hand_of c mark i (O4 w) h = (w, hand_o4, h.1)
hand_of c mark i (O5 w v) h = (w, hand_o5, h.1)
hand_of c mark i (O6 w) h = absurd (true≢false (sym h.0))
hand_of c mark i Len1 h = absurd h
hand_of c mark i (Len2 t) h = absurd h
hand_of c mark i (Len3 t w) h = absurd h
hand_of c mark i Empty1 h = absurd h
hand_of c mark i (Empty2 w) h = absurd (true≢false (sym h.0))
hand_of c mark i Full1 h = absurd h
hand_of c mark i (Full2 t) h = absurd h
hand_of c mark i Close1 h = absurd h
hand_of c mark i IsClosed1 h = absurd h

pub loose_of : (x : Cell) → ((v : ℕ) → Mine v x → ⊥) → Loose x
loose_of (Await k) free = tt
loose_of (Hold k) free = tt
loose_of (Hand st k w) free = free w refl

clash : {A : Type 0} (b : Bool) → b ≡ true → b ≡ false → A
clash b p q = absurd (true≢false (sym p ∙ q))

unless : (b t : Bool) → cond b false t ≡ true → (b ≡ false) × (t ≡ true)
unless true t h = absurd (true≢false (sym h))
unless false t h = (refl, h)

module _ (bits : Width) (c mark n ed : ℕ) (g : Ground bits c mark n) (s : Shared) (inv : Inv c s) where
  abbrev f : Fixed
  f = fixed c mark ed

  abbrev Word : ℕ → Stamp
  Word k = W c mark n k

  turn : 3 * c ≤ n * c
  turn = turn_long c mark n g.laws

  -- the tests of the ends, in claims
  pub tail_is : (b : Bool) (m : ℕ) → m ≤ s.tail → s.tail < m + n * c → same (unmarked_of f (tail_word c mark n s.tail b)) (Word m) ≡ eqb s.tail m
  tail_is b m le late =
      let r : Near (n * c) s.tail m = omega (arith, turn) in
      rw (Stamps.unmarked_tail bits c mark n g ed s.tail b) (Stamps.same_is bits c mark n g s.tail m r)

  head_is : (m : ℕ) → m ≤ s.head → s.head < m + n * c → same (Word s.head) (Word m) ≡ eqb s.head m
  head_is m le late =
      let r : Near (n * c) s.head m = omega (arith, turn, inv.low) in
      Stamps.same_is bits c mark n g s.head m r

  pub behind_is : (m : ℕ) → m ≤ s.tail → s.head + c < m + n * c → lap_behind bits f (Word s.head) (Word m) ≡ eqb (s.head + c) m
  behind_is m le late =
      let r : Near (n * c) (s.head + c) m = omega (arith, turn, inv.low, inv.high) in
      Stamps.behind_is bits c mark n g ed s.head m r

  before_is : (m : ℕ) → m ≤ s.head → s.head < m + n * c → same (Word s.head) (minus bits (Word (m + c)) (2 * mark)) ≡ eqb s.head m
  before_is m le late =
      let r : Near (n * c) s.head m = omega (arith, turn, inv.low) in
      Stamps.before_is bits c mark n g s.head m r

  module _ (i m v : ℕ) (b : Bool) (at : m % c ≡ i) where
    some : 0 < c
    some = g.laws.some

    lapped : m ≤ s.tail → s.tail + c < m + n * c → lap_behind bits f (Word s.head) (Word m) ≡ true → same (unmarked_of f (tail_word c mark n s.tail b)) (Word m) ≡ true
    lapped le late h =
        let q : s.head + c ≡ m = eqb-true _ _ (sym (behind_is m le (omega (arith, inv.low))) ∙ h) in
        let e : s.tail ≡ m = omega (arith, inv.high) in
        tail_is b m le (omega arith) ∙ eq-eqb _ _ e

    pub finds_tail : m ≤ s.tail → s.tail + c < m + n * c → (x : Cell) → CellOk c s i x → Loose x → FindsTail bits f (ends_of_ring c mark n s b) (slot_of_ring c mark n x v) (Word m)
    finds_tail le late (Await k) o l =
        let r : Near (n * c) k m = omega (arith, turn, inv.low, inv.high, o.1, o.2) in
        let here = Stamps.stamp_same bits c mark n g false k m (o.0 ∙ sym at) r in
        let past = Stamps.stamp_behind bits c mark n g ed false k m (o.0 ∙ sym at) (λ e. absurd (true≢false (sym e))) in
        record {
          decides =
              λ q h d.
              let e : s.tail ≡ m = eqb-true _ _ (sym (tail_is b m le (omega arith)) ∙ q) in
              let z : k % c ≡ s.tail % c = o.0 ∙ sym at ∙ ap (λ (y : ℕ). y % c) (sym e) in
              let w : k ≡ s.tail = near_one c s.tail k some o.1 (omega (arith, inv.low, o.2)) z in
              eqb-false k m (sym here ∙ h) (w ∙ e);
          full = λ d. clash _ d past;
          free =
              λ h.
              let w : k ≡ m = eqb-true k m (sym here ∙ h) in
              behind_is m le (omega (arith, inv.low)) ∙ ne_eqb (s.head + c) m (λ q. omega (arith, o.2));
          lapped = lapped le late;
        }
    finds_tail le late (Hold k) o l =
        let r : Near (n * c) k m = omega (arith, turn, inv.low, inv.high, o.1, o.2) in
        let r' : Near (n * c) (k + c) m = omega (arith, turn, inv.low, inv.high, o.1, o.2) in
        let here = Stamps.stamp_same bits c mark n g true k m (o.0 ∙ sym at) r in
        let past = Stamps.stamp_behind bits c mark n g ed true k m (o.0 ∙ sym at) (λ e. r') in
        record {
          decides =
              λ q h d.
              let e : s.tail ≡ m = eqb-true _ _ (sym (tail_is b m le (omega arith)) ∙ q) in
              let z : (k + c) % c ≡ s.tail % c = add-mod_right k c ∙ o.0 ∙ sym at ∙ ap (λ (y : ℕ). y % c) (sym e) in
              let w : k + c ≡ s.tail = near_one c s.tail (k + c) some (omega (arith, inv.high, o.1)) (omega (arith, o.2)) z in
              eqb-false (k + c) m (sym past ∙ d) (w ∙ e);
          full =
              λ d.
              let w : k + c ≡ m = eqb-true (k + c) m (sym past ∙ d) in
              let e : s.head ≡ k = omega (arith, inv.high, o.1) in (
                behind_is m le (omega (arith, inv.low)) ∙ eq-eqb (s.head + c) m (omega arith),
                ap (λ (y : ℕ). same (Word s.head) (minus bits (Word y) (2 * mark))) (sym w) ∙ before_is k (omega arith) (omega (arith, turn, some)) ∙ eq-eqb s.head k e,
              );
          free = λ h. clash _ h here;
          lapped = lapped le late;
        }
    finds_tail le late (Hand _ _ _) o l = elim l [ ]

    pub finds_head : m ≤ s.head → s.head + c < m + n * c → (x : Cell) → CellOk c s i x → Loose x → FindsHead bits f (ends_of_ring c mark n s b) (slot_of_ring c mark n x v) (Word m)
    finds_head le late (Await k) o l =
        let r : Near (n * c) k m = omega (arith, turn, inv.low, inv.high, o.1, o.2) in
        let here = Stamps.stamp_same bits c mark n g false k m (o.0 ∙ sym at) r in
        record {
          decides =
              λ q p d.
              let e : s.head ≡ m = eqb-true _ _ (sym (head_is m le (omega arith)) ∙ q) in
              let z : k % c ≡ s.head % c = o.0 ∙ sym at ∙ ap (λ (y : ℕ). y % c) (sym e) in
              let w : k ≡ s.head = near_one c s.head k some (omega (arith, inv.low, o.1)) o.2 z in
              eqb-false k m (sym here ∙ d) (w ∙ e);
          empty =
              λ d.
              let w : k ≡ m = eqb-true k m (sym here ∙ d) in
              tail_is b m (omega (arith, inv.low)) (omega (arith, inv.high)) ∙ eq-eqb s.tail m (omega (arith, inv.low, o.1));
        }
    finds_head le late (Hold k) o l =
        let r : Near (n * c) k m = omega (arith, turn, inv.low, inv.high, o.1, o.2) in
        let here = Stamps.stamp_same bits c mark n g true k m (o.0 ∙ sym at) r in
        let past = Stamps.stamp_past bits c mark n g true k m (o.0 ∙ sym at) r in
        record {
          decides =
              λ q p d.
              let e : s.head ≡ m = eqb-true _ _ (sym (head_is m le (omega arith)) ∙ q) in
              let z : k % c ≡ s.head % c = o.0 ∙ sym at ∙ ap (λ (y : ℕ). y % c) (sym e) in
              let w : k ≡ s.head = near_one c s.head k some o.1 (omega (arith, inv.high, o.2)) z in
              eqb-false k m (sym past ∙ p) (w ∙ e);
          empty = λ d. clash _ d here;
        }
    finds_head le late (Hand _ _ _) o l = elim l [ ]

    -- A slot in hand whose stamp says that it is free at m waits for a claim that is not before head's.
    hand_free : m ≤ s.head → s.head + c < m + n * c → (st : Stage) (k : ℕ) → k % c ≡ i → HandOk c s i st k → same (slot_word c mark n (taking st) k) (Word m) ≡ true → s.head ≡ m
    hand_free le late Fill k a o h =
        let r : Near (n * c) k m = omega (arith, turn, some, inv.low, inv.high, o.0, o.1) in
        let e : k ≡ m = eqb-true k m (sym (Stamps.stamp_same bits c mark n g false k m (a ∙ sym at) r) ∙ h) in
        omega (arith, o.0)
    hand_free le late Filled k a o h =
        let r : Near (n * c) k m = omega (arith, turn, some, inv.low, inv.high, o.0, o.1) in
        let e : k ≡ m = eqb-true k m (sym (Stamps.stamp_same bits c mark n g false k m (a ∙ sym at) r) ∙ h) in
        omega (arith, o.0)
    hand_free le late Take k a o h =
        let r : Near (n * c) k m = omega (arith, turn, some, inv.low, inv.high, o.0, o.1) in
        clash _ h (Stamps.stamp_same bits c mark n g true k m (a ∙ sym at) r)
    hand_free le late Grab k a o h =
        let r : Near (n * c) k m = omega (arith, turn, some, inv.low, inv.high, o.0, o.1) in
        clash _ h (Stamps.stamp_same bits c mark n g true k m (a ∙ sym at) r)
    hand_free le late Swap k a o h =
        let r : Near (n * c) k m = omega (arith, turn, some, inv.low, inv.high, o.0, o.1) in
        clash _ h (Stamps.stamp_same bits c mark n g true k m (a ∙ sym at) r)
    hand_free le late Swapped k a o h =
        let r : Near (n * c) k m = omega (arith, turn, some, inv.low, inv.high, o.0, o.1) in
        clash _ h (Stamps.stamp_same bits c mark n g true k m (a ∙ sym at) r)

    -- of a slot that is in nobody's hand if the word is head's
    finds_head_beside : m ≤ s.head → s.head + c < m + n * c → (x : Cell) → CellOk c s i x → (s.head ≡ m → Loose x) → FindsHead bits f (ends_of_ring c mark n s b) (slot_of_ring c mark n x v) (Word m)
    finds_head_beside le late (Await k) o l = finds_head le late (Await k) o tt
    finds_head_beside le late (Hold k) o l = finds_head le late (Hold k) o tt
    finds_head_beside le late (Hand st k w) o l =
        record {
          decides = λ q p d. l (eqb-true _ _ (sym (head_is m le (omega arith)) ∙ q));
          empty = λ d. absurd (l (hand_free le late st k o.0 o.1 d));
        }

  cell_at : (k : ℕ) (x : Cell) → s.cell (k % c) ≡ x → CellOk c s (k % c) x
  cell_at k x e = rw e at (inv.cells (k % c) (mod-lt k g.laws.some))

  -- an exchange that is won: tail is unmarked and not a lap after head; head is not tail
  won_tail : (b : Bool) (m w : ℕ) → s.tail < m + n * c → ViewOk c s w (Awaits m) → same (tail_word c mark n s.tail b) (Word m) ≡ true
      → (marked_of f (tail_word c mark n s.tail b) ≡ false) × (lap_behind bits f (Word s.head) (unmarked_of f (tail_word c mark n s.tail b)) ≡ false)
  won_tail b m w late o h =
      let r : Near (n * c) s.tail m = omega (arith, turn, o.0) in
      let q = unless b _ (sym (Stamps.same_tail bits c mark n g s.tail m b r) ∙ h) in
      let e : s.tail ≡ m = eqb-true _ _ q.1 in
      let k = cell_at m (Await m) (o.1 e) in (
        Stamps.marked_tail bits c mark n g ed s.tail b ∙ q.0,
        rw (Stamps.unmarked_tail bits c mark n g ed s.tail b)
            (behind_is s.tail (omega arith) (omega (arith, turn, inv.low, g.laws.some)) ∙ ne_eqb (s.head + c) s.tail (λ z. omega (arith, k.2))),
      )

  won_head : (b : Bool) (m w : ℕ) → s.head < m + n * c → ViewOk c s w (Holds m) → same (Word s.head) (Word m) ≡ true
      → same (unmarked_of f (tail_word c mark n s.tail b)) (Word s.head) ≡ false
  won_head b m w late o h =
      let e : s.head ≡ m = eqb-true _ _ (sym (head_is m o.0 late) ∙ h) in
      let k = cell_at m (Hold m) (o.1 e) in
      tail_is b s.head inv.low (omega (arith, turn, inv.high, g.laws.some)) ∙ ne_eqb s.tail s.head (λ (z : s.tail ≡ s.head). omega (arith, k.2))

  last_load : (b : Bool) (m : ℕ) → m ≤ s.head → s.head + c < m + n * c → same (unmarked_of f (tail_word c mark n s.tail b)) (Word m) ≡ true
      → same (unmarked_of f (tail_word c mark n s.tail b)) (Word s.head) ≡ true
  last_load b m le late h =
      let e : s.tail ≡ m = eqb-true _ _ (sym (tail_is b m (omega (arith, inv.low)) (omega (arith, inv.high))) ∙ h) in
      tail_is b s.head inv.low (omega (arith, turn, inv.high, g.laws.some)) ∙ eq-eqb s.tail s.head (omega (arith, inv.low))

  same_index : (m : ℕ) (t : Stamp) → t ≡ Word (m + c) → m ≤ s.head → s.head < m + n * c → same (Word s.head) (minus bits (Word (m + c)) (2 * mark)) ≡ true
      → index_of f t ≡ index_of f (Word s.head)
  same_index m t q le late h =
      let e : s.head ≡ m = eqb-true _ _ (sym (before_is m le late) ∙ h) in
      lap_slot bits c mark n g t m q ∙ ap (λ (y : ℕ). y % c) (sym e) ∙ sym (word_slot bits c mark n g (Word s.head) s.head refl)

  pub finds : (w i : ℕ) (age : Age) (b : Bool) (p : Place) → i < c → i ≡ spot_of f (view_of p).held → Stands c mark n s w age (look c p)
      → Recent c mark n s age (look c p) → ((HandAt mark (look c p) i → ⊥) → Loose (s.cell i))
      → Finds bits f (ends_of_ring c mark n s b) (slot_of_ring c mark n (s.cell i) (s.val i)) p
  finds w i age b (Idle a) small at o y loose = tt
  finds w i age b (P1 k x) small at o y loose = tt
  finds w i age b (P2 k t x) small at o y loose =
      rw o.1 (finds_tail i o.0 (s.val i) b (sym (word_slot bits c mark n g t o.0 o.1) ∙ sym at) o.2 (omega (arith, o.3, y refl)) (s.cell i)
      (inv.cells i small) (loose (λ h. true≢false (sym h.0))))
  finds w i age b (P3 k t x) small at o y loose = rw o.1 (won_tail b o.0 w (omega (arith, o.3, y refl)) o.2)
  finds w i age b (P4 t x) small at o y loose = tt
  finds w i age b (P5 t) small at o y loose = tt
  finds w i age b (P6 t x) small at o y loose = tt
  finds w i age b (F6 t x) small at o y loose = λ h. same_index o.0 t o.1 o.2.0 (omega (arith, o.3, y refl, inv.low)) (rw o.1 at h)
  finds w i age b (F7 t x) small at o y loose = tt
  finds w i age b (F8 t x) small at o y loose = tt
  finds w i age b (F9 t old) small at o y loose = tt
  finds w i age b O1 small at o y loose = tt
  finds w i age b (O2 h) small at o y loose =
      rw o.1 (finds_head i o.0 (s.val i) b (sym (word_slot bits c mark n g h o.0 o.1) ∙ sym at) o.2 (omega (arith, o.3, y refl)) (s.cell i)
      (inv.cells i small) (loose (λ z. true≢false (sym z.0))))
  finds w i age b (O3 h) small at o y loose = rw o.1 (won_head b o.0 w (omega (arith, o.3, y refl)) o.2)
  finds w i age b (O4 h) small at o y loose = tt
  finds w i age b (O5 h v) small at o y loose = tt
  finds w i age b (O6 h) small at o y loose = rw o.1 (last_load b o.0 o.2.0 (omega (arith, o.3, y refl)))
  finds w i age b Len1 small at o y loose = tt
  finds w i age b (Len2 t) small at o y loose = tt
  finds w i age b (Len3 t h) small at o y loose = tt
  finds w i age b Empty1 small at o y loose = tt
  finds w i age b (Empty2 h) small at o y loose = tt
  finds w i age b Full1 small at o y loose = tt
  finds w i age b (Full2 t) small at o y loose = tt
  finds w i age b Close1 small at o y loose = tt
  finds w i age b IsClosed1 small at o y loose = tt

  -- The same beside others' hands, if the slot at its own end is in none.
  module _ (w i : ℕ) (age : Age) (b : Bool) (small : i < c) where
    tail_beside : (k : Kind) (t : Stamp) (x : ℕ) → i ≡ spot_of f (view_of (P2 k t x)).held → Stands c mark n s w age (look c (P2 k t x)) → Recent c mark n s age (look c (P2 k t x))
        → same (unmarked_of f (tail_word c mark n s.tail b)) t ≡ true → (s.tail % c ≡ i → Loose (s.cell i)) → FindsTail bits f (ends_of_ring c mark n s b) (slot_of_ring c mark n (s.cell i) (s.val i)) t
    tail_beside k t x at o y in_date free =
        let here : o.0 % c ≡ i = sym (word_slot bits c mark n g t o.0 o.1) ∙ sym at in
        let e : s.tail ≡ o.0 = eqb-true _ _ (sym (tail_is b o.0 o.2 (omega (arith, o.3, y refl))) ∙ (rw o.1 at in_date)) in
        rw o.1 (finds_tail i o.0 (s.val i) b here o.2 (omega (arith, o.3, y refl)) (s.cell i) (inv.cells i small) (free (ap (λ (z : ℕ). z % c) e ∙ here)))

    head_beside : (h : Stamp) → i ≡ spot_of f (view_of (O2 h)).held → Stands c mark n s w age (look c (O2 h)) → Recent c mark n s age (look c (O2 h))
        → (s.head % c ≡ i → Loose (s.cell i)) → FindsHead bits f (ends_of_ring c mark n s b) (slot_of_ring c mark n (s.cell i) (s.val i)) h
    head_beside h at o y free =
        let here : o.0 % c ≡ i = sym (word_slot bits c mark n g h o.0 o.1) ∙ sym at in
        rw o.1 (finds_head_beside i o.0 (s.val i) b here o.2 (omega (arith, o.3, y refl)) (s.cell i) (inv.cells i small) (λ e. free (ap (λ (z : ℕ). z % c) e ∙ here)))

    pub loads_beside : (p : Place) → i ≡ spot_of f (view_of p).held → Stands c mark n s w age (look c p) → Recent c mark n s age (look c p)
        → ((k : Kind) (t : Stamp) (x : ℕ) → p ≡ P2 k t x → s.tail % c ≡ i → Loose (s.cell i)) → ((h : Stamp) → p ≡ O2 h → s.head % c ≡ i → Loose (s.cell i))
        → Loads 1 bits f (ends_of_ring c mark n s b) (slot_of_ring c mark n (s.cell i) (s.val i)) p
    loads_beside p at o y tails heads =
        record {
          tail =
              λ k t x q in_date.
              tail_beside k t x (subst (λ (z : Place). i ≡ spot_of f (view_of z).held) q at) (subst (λ (z : Place). Stands c mark n s w age (look c z)) q o)
              (subst (λ (z : Place). Recent c mark n s age (look c z)) q y) (in_date (omega arith)) (tails k t x q);
          head =
              λ h q.
              head_beside h (subst (λ (z : Place). i ≡ spot_of f (view_of z).held) q at) (subst (λ (z : Place). Stands c mark n s w age (look c z)) q o)
              (subst (λ (z : Place). Recent c mark n s age (look c z)) q y) (heads h q);
        }
