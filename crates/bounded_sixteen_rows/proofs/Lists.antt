-- Words of sixteen bits that stand for a ring and records: read, stored, and one to one.
use Prim.Native.Nat.{ℕ, zero, suc, ◌%◌, ◌<◌}
use mathlib.Core.Path.{◌≡◌, refl, sym, ap, ◌∙◌}
use mathlib.Core.Bool.{true}
use mathlib.Core.List.{List, [], ◌∷◌}
use native.Mathlib.Omega.{arith}
use lib.Dec.{eqb}
use lib.ListN.{length, get_or, set, length-set}
use lib.Seq.{get_or-set_same, get_or-set_other}
use borrow.Author.Tests.{eq-eqb, eqb-true}
use Rattle.queue_entries.proofs.Pick.{both_left, both_right}
use Rattle.bounded_words.specs.Words.{stamp}
use Rattle.bounded_places.specs.declared.Ends.{Ends}
use Rattle.bounded_places.specs.declared.Slot.{Slot}
use Rattle.bounded_places.specs.declared.Worker.{Worker}
use Rattle.bounded_machine.specs.Machine.{slot}
use Rattle.bounded_lent.specs.Lent.{Lent, lent}
use Rattle.bounded_rows.specs.Rows.{fixed_in, ends_in, records_in, placed, with_record}
use Rattle.bounded_rows.proofs.Lists.{whole_records, still_placed, long_record}
use Rattle.bounded_sixteen_rows.specs.SixteenRows.{Shorts, shorts, layout, head_of, stamps_of, values_of, shorts_of, slots_in, metered_in, shaped_for, stand, with_ends, after, after_of}

-- ---- slots
pub long_slots : (ss vs : List ℕ) → length ss ≡ length vs → length (slots_in ss vs) ≡ length ss
unfolding slots_in
long_slots [] vs e = refl
long_slots (s ∷ ss) [] e = absurd (omega (arith, e))
long_slots (s ∷ ss) (v ∷ vs) e = ap suc (long_slots ss vs (omega (arith, e)))

pub get_slot : (ss vs : List ℕ) (k : ℕ) → k < length ss → k < length vs → get_or (slots_in ss vs) k (slot 0 0) ≡ slot (get_or ss k 0) (get_or vs k 0)
unfolding slots_in
get_slot [] vs k l g = absurd (omega (arith, l))
get_slot (s ∷ ss) [] k l g = absurd (omega (arith, g))
get_slot (s ∷ ss) (v ∷ vs) zero l g = refl
get_slot (s ∷ ss) (v ∷ vs) (suc k) l g = get_slot ss vs k (omega (arith, l)) (omega (arith, g))

pub put_slot : (ss vs : List ℕ) (k : ℕ) (x : Slot) → slots_in (set ss k x.stamp.0) (set vs k x.value) ≡ set (slots_in ss vs) k x
unfolding slots_in
put_slot [] vs k x = refl
put_slot (s ∷ ss) [] zero x = refl
put_slot (s ∷ ss) [] (suc k) x = refl
put_slot (s ∷ ss) (v ∷ vs) zero x = refl
put_slot (s ∷ ss) (v ∷ vs) (suc k) x = ap (λ (l : List Slot). slot s v ∷ l) (put_slot ss vs k x)

pub slot_read : (ss vs : List ℕ) (k a : ℕ) → a ≡ get_or ss k 0 → slot a (get_or vs k 0) ≡ slot (get_or ss k 0) (get_or vs k 0)
slot_read ss vs k a e = ap (λ (x : ℕ). slot x (get_or vs k 0)) e

whole_stamps : (ss vs : List ℕ) → length ss ≡ length vs → stamps_of (slots_in ss vs) ≡ ss
unfolding slots_in stamps_of
whole_stamps [] vs e = refl
whole_stamps (s ∷ ss) [] e = absurd (omega (arith, e))
whole_stamps (s ∷ ss) (v ∷ vs) e = ap (λ (l : List ℕ). s ∷ l) (whole_stamps ss vs (omega (arith, e)))

whole_values : (ss vs : List ℕ) → length ss ≡ length vs → values_of (slots_in ss vs) ≡ vs
unfolding slots_in values_of
whole_values [] [] e = refl
whole_values [] (v ∷ vs) e = absurd (omega (arith, e))
whole_values (s ∷ ss) [] e = absurd (omega (arith, e))
whole_values (s ∷ ss) (v ∷ vs) e = ap (λ (l : List ℕ). v ∷ l) (whole_values ss vs (omega (arith, e)))

-- ---- the seven words
pub fixed_read : (h : List ℕ) (a b c d : ℕ) → a ≡ get_or h 0 0 → b ≡ get_or h 1 0 → c ≡ get_or h 2 0 → d ≡ get_or h 3 0 → record { mark = a; lap = b; capacity = c; edition = d } ≡ fixed_in h
unfolding fixed_in
fixed_read h a b c d ea eb ec ed = λ i. record { mark = ea i; lap = eb i; capacity = ec i; edition = ed i }

pub ends_read : (h : List ℕ) (a b : ℕ) → a ≡ get_or h 4 0 → b ≡ get_or h 5 0 → record { head = stamp a; tail = stamp b } ≡ ends_in h
unfolding ends_in
ends_read h a b ea eb = λ i. record { head = stamp (ea i); tail = stamp (eb i) }

pub whole_head : (h : List ℕ) (m : ℕ) (ss vs rs : List ℕ) → length h ≡ 7 → get_or h 6 0 ≡ layout → head_of (metered_in (shorts h m ss vs rs)) ≡ h
unfolding head_of fixed_in ends_in
whole_head [] m ss vs rs n e = absurd (omega (arith, n))
whole_head (a ∷ []) m ss vs rs n e = absurd (omega (arith, n))
whole_head (a ∷ b ∷ []) m ss vs rs n e = absurd (omega (arith, n))
whole_head (a ∷ b ∷ c ∷ []) m ss vs rs n e = absurd (omega (arith, n))
whole_head (a ∷ b ∷ c ∷ d ∷ []) m ss vs rs n e = absurd (omega (arith, n))
whole_head (a ∷ b ∷ c ∷ d ∷ x ∷ []) m ss vs rs n e = absurd (omega (arith, n))
whole_head (a ∷ b ∷ c ∷ d ∷ x ∷ y ∷ []) m ss vs rs n e = absurd (omega (arith, n))
whole_head (a ∷ b ∷ c ∷ d ∷ x ∷ y ∷ l ∷ []) m ss vs rs n e = ap (λ (z : ℕ). a ∷ b ∷ c ∷ d ∷ x ∷ y ∷ z ∷ []) (sym e)
whole_head (a ∷ b ∷ c ∷ d ∷ x ∷ y ∷ l ∷ more ∷ rest) m ss vs rs n e = absurd (omega (arith, n))

module _ (h : List ℕ) (e : Ends) where
  kept : (i : ℕ) → (i ≡ 4 → ⊥) → (i ≡ 5 → ⊥) → get_or (with_ends h e) i 0 ≡ get_or h i 0
  unfolding with_ends
  kept i a b = get_or-set_other (set h 4 e.head.0) 5 i e.tail.0 0 b ∙ get_or-set_other h 4 i e.head.0 0 a

  long_head : length (with_ends h e) ≡ length h
  unfolding with_ends
  long_head = simp length-set

  pub same_fixed : fixed_in (with_ends h e) ≡ fixed_in h
  unfolding fixed_in
  same_fixed = λ k. record {
    mark = kept 0 (λ z. omega (arith, z)) (λ z. omega (arith, z)) k;
    lap = kept 1 (λ z. omega (arith, z)) (λ z. omega (arith, z)) k;
    capacity = kept 2 (λ z. omega (arith, z)) (λ z. omega (arith, z)) k;
    edition = kept 3 (λ z. omega (arith, z)) (λ z. omega (arith, z)) k;
  }

  module _ (n : length h ≡ 7) where
    new_head : get_or (with_ends h e) 4 0 ≡ e.head.0
    unfolding with_ends
    new_head = get_or-set_other (set h 4 e.head.0) 5 4 e.tail.0 0 (λ z. omega (arith, z)) ∙ get_or-set_same h 4 e.head.0 0 (omega (arith, n))

    new_tail : get_or (with_ends h e) 5 0 ≡ e.tail.0
    unfolding with_ends
    new_tail = get_or-set_same (set h 4 e.head.0) 5 e.tail.0 0 (omega (arith, n, length-set h 4 e.head.0))

    pub new_ends : ends_in (with_ends h e) ≡ e
    unfolding ends_in
    new_ends = λ k. record { head = stamp (new_head k); tail = stamp (new_tail k) }

-- ---- what is known of words that stand
pub record Standing (w : Shorts) : Type 0 where
  pub seven : length w.head ≡ 7
  pub all_stamps : length w.stamps ≡ get_or w.head 2 0
  pub all_values : length w.values ≡ get_or w.head 2 0
  pub fives : length w.records % 5 ≡ 0
  pub laid : get_or w.head 6 0 ≡ layout
  pub places : placed w.records ≡ true

pub shaped_all : (c : ℕ) (w : Shorts) → shaped_for c w ≡ true → (length w.head ≡ 7) × (length w.stamps ≡ c) × (length w.values ≡ c) × (length w.records % 5 ≡ 0)
unfolding shaped_for
shaped_all c w t =
    let rest = both_right (eqb (length w.head) 7) _ t in
    let last = both_right (eqb (length w.stamps) c) _ rest in (
      eqb-true (length w.head) 7 (both_left (eqb (length w.head) 7) _ t),
      eqb-true (length w.stamps) c (both_left (eqb (length w.stamps) c) _ rest),
      eqb-true (length w.values) c (both_left (eqb (length w.values) c) _ last),
      eqb-true (length w.records % 5) 0 (both_right (eqb (length w.values) c) _ last),
    )

module _ (w : Shorts) where
  pub standing : stand w ≡ true → Standing w
  unfolding stand
  standing t =
      let shape = shaped_all (get_or w.head 2 0) w (both_left (shaped_for (get_or w.head 2 0) w) _ t) in
      let rest = both_right (shaped_for (get_or w.head 2 0) w) _ t in
      record {
        seven = shape.0;
        all_stamps = shape.1;
        all_values = shape.2;
        fives = shape.3;
        laid = eqb-true (get_or w.head 6 0) layout (both_left (eqb (get_or w.head 6 0) layout) _ rest);
        places = both_right (eqb (get_or w.head 6 0) layout) _ rest;
      }

  pub stands : Standing w → stand w ≡ true
  unfolding stand shaped_for
  stands s =
      rw (
        eq-eqb (length w.head) 7 s.seven,
        eq-eqb (length w.stamps) (get_or w.head 2 0) s.all_stamps,
        eq-eqb (length w.values) (get_or w.head 2 0) s.all_values,
        eq-eqb (length w.records % 5) 0 s.fives,
        eq-eqb (get_or w.head 6 0) layout s.laid,
      ) s.places

  -- read, and written back
  pub same_words : Standing w → shorts_of (metered_in w) (records_in w.records) ≡ w
  unfolding shorts_of
  same_words s =
      let alike = s.all_stamps ∙ sym s.all_values in
      λ i. shorts (whole_head w.head w.meter w.stamps w.values w.records s.seven s.laid i) w.meter
      (whole_stamps w.stamps w.values alike i) (whole_values w.stamps w.values alike i) (whole_records w.records s.places i)

-- ---- what a turn stores leaves words that stand
module _ (h : List ℕ) (m : ℕ) (ss vs rs : List ℕ) (s : Standing (shorts h m ss vs rs)) (e : Ends) (m' k : ℕ) (x : Slot) (i : ℕ) (r : Worker) (low : i < length (records_in rs)) where
  pub still_standing : Standing (shorts (with_ends h e) m' (set ss k x.stamp.0) (set vs k x.value) (with_record rs i r))
  still_standing =
      let capacity = kept h e 2 (λ z. omega (arith, z)) (λ z. omega (arith, z)) in
      record {
        seven = long_head h e ∙ s.seven;
        all_stamps = length-set ss k x.stamp.0 ∙ s.all_stamps ∙ sym capacity;
        all_values = length-set vs k x.value ∙ s.all_values ∙ sym capacity;
        fives = ap (λ (n : ℕ). n % 5) (long_record rs i r) ∙ s.fives;
        laid = kept h e 6 (λ z. omega (arith, z)) (λ z. omega (arith, z)) ∙ s.laid;
        places = still_placed rs i r low s.places;
      }

-- an answer with what the words stand for is an answer with the words
pub as_words : (r : ℕ) (w : Shorts) → Standing w → (x : Lent) → lent r (metered_in w) (records_in w.records) ≡ x → after r w ≡ after_of x
as_words r w s x e = ap (after r) (sym (same_words w s)) ∙ ap after_of e
