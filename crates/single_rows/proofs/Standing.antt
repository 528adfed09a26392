-- Words and machines are one to one; shapes.
use Prim.Native.Nat.{ℕ, ◌*◌, ◌<◌}
use mathlib.Core.Path.{◌≡◌, refl, sym, ap, ◌∙◌}
use mathlib.Core.Bool.{Bool, true, false, cond, true≢false}
use mathlib.Core.List.{List, [], ◌∷◌}
use native.Mathlib.Omega.{arith}
use lib.Dec.{eqb}
use lib.ListN.{length, get_or, set}
use borrow.Author.Tests.{eq-eqb, ne_eqb, eqb-true}
use Rattle.queue_entries.specs.Limits.{workers_most}
use Rattle.queue_entries.proofs.Pick.{both_left, both_right}
use Rattle.single_words.specs.Words.{state}
use Rattle.single_places.specs.declared.Worker.{Worker}
use Rattle.single_machine.specs.declared.Machine.{Machine}
use Rattle.single_machine.specs.Machine.{machine_of}
use Rattle.single_codes.specs.declared.Coded.{Coded}
use Rattle.single_codes.specs.Codes.{triple, stands_for}
use Rattle.single_codes.proofs.Codes.{read_back}
use Rattle.single_codes.proofs.Standing.{written_stands, written_back}
use Rattle.single_rows.specs.Rows.{Words, words, layout, head_of, records_of, words_of, records_in, machine_in, shaped, placed, stand}
use Rattle.single_rows.proofs.Lists.{still_in}

whole_records : (ws : List ℕ) → placed ws ≡ true → records_of (records_in ws) ≡ ws
unfolding placed records_in records_of triple
whole_records [] p = refl
whole_records (c ∷ []) p = absurd (true≢false (sym p))
whole_records (c ∷ a ∷ []) p = absurd (true≢false (sym p))
whole_records (c ∷ a ∷ b ∷ ws) p =
    ap (λ (x : Coded). x.code ∷ x.first ∷ x.second ∷ records_of (records_in ws)) (written_back c a b (both_left (stands_for c a b) _ p))
    ∙ ap (λ (l : List ℕ). c ∷ a ∷ b ∷ l) (whole_records ws (both_right (stands_for c a b) _ p))

records_back : (ys : List Worker) → records_in (records_of ys) ≡ ys
unfolding records_of records_in
records_back [] = refl
records_back (y ∷ rest) = λ i. record { place = read_back y.place i } ∷ records_back rest i

records_placed : (ys : List Worker) → placed (records_of ys) ≡ true
unfolding records_of placed
records_placed [] = refl
records_placed (y ∷ rest) = ap (λ (b : Bool). cond b (placed (records_of rest)) false) (written_stands y.place) ∙ records_placed rest

records_long : (ys : List Worker) → length (records_of ys) ≡ length ys * 3
unfolding records_of
records_long [] = refl
records_long (y ∷ rest) = omega (arith, records_long rest)

-- ---- five words
five : (P : List ℕ → Type 0) → ((a b c d e : ℕ) → P (a ∷ b ∷ c ∷ d ∷ e ∷ [])) → (h : List ℕ) → length h ≡ 5 → P h
five P f [] n = absurd (omega (arith, n))
five P f (a ∷ []) n = absurd (omega (arith, n))
five P f (a ∷ b ∷ []) n = absurd (omega (arith, n))
five P f (a ∷ b ∷ c ∷ []) n = absurd (omega (arith, n))
five P f (a ∷ b ∷ c ∷ d ∷ []) n = absurd (omega (arith, n))
five P f (a ∷ b ∷ c ∷ d ∷ e ∷ []) n = f a b c d e
five P f (a ∷ b ∷ c ∷ d ∷ e ∷ more ∷ rest) n = absurd (omega (arith, n))

pub after_four : (h : List ℕ) (a b c d : ℕ) → length h ≡ 5 → 4 < length (set (set (set (set h 0 a) 1 b) 2 c) 3 d)
after_four h a b c d n =
    still_in (set (set (set h 0 a) 1 b) 2 c) 4 3 d (still_in (set (set h 0 a) 1 b) 4 2 c (still_in (set h 0 a) 4 1 b (still_in h 4 0 a (omega (arith, n)))))

pub head_put : (h : List ℕ) (m : Machine) → length h ≡ 5 → set (set (set (set (set h 0 m.single.state.0) 1 m.single.value) 2 m.count) 3 m.meter) 4 layout ≡ head_of m
unfolding head_of
head_put h m n = five (λ (h : List ℕ). set (set (set (set (set h 0 m.single.state.0) 1 m.single.value) 2 m.count) 3 m.meter) 4 layout ≡ head_of m) (λ a b c d e. refl) h n

whole_head : (h rs : List ℕ) → length h ≡ 5 → get_or h 4 0 ≡ layout → head_of (machine_in (words h rs)) ≡ h
unfolding head_of machine_in
whole_head h rs n =
    five (λ (h : List ℕ). get_or h 4 0 ≡ layout → head_of (machine_in (words h rs)) ≡ h) (λ a b c d e l. ap (λ (z : ℕ). a ∷ b ∷ c ∷ d ∷ z ∷ []) (sym l)) h n

pub machine_read : (h rs : List ℕ) (all : List Worker) → all ≡ records_in rs
    → machine_of (record { state = state (get_or h 0 0); value = get_or h 1 0 }) all (get_or h 2 0) (get_or h 3 0) ≡ machine_in (words h rs)
unfolding machine_in
machine_read h rs all e = ap (λ (ys : List Worker). machine_of (record { state = state (get_or h 0 0); value = get_or h 1 0 }) ys (get_or h 2 0) (get_or h 3 0)) e

-- ---- shapes
module _ (h rs : List ℕ) where
  pub shape_1 : (length h ≡ 5 → ⊥) → false ≡ shaped (words h rs)
  unfolding shaped
  shape_1 a = sym (rw (ne_eqb (length h) 5 a) refl)

  pub shape_2 : length h ≡ 5 → eqb (length rs) 48 ≡ shaped (words h rs)
  unfolding shaped
  shape_2 a = sym (rw (eq-eqb (length h) 5 a) refl)

  module _ (s : Bool) (es : s ≡ shaped (words h rs)) where
    pub no_shape : s ≡ false → false ≡ stand (words h rs)
    unfolding stand
    no_shape f = sym (rw (sym es ∙ f) refl)

    module _ (hs : s ≡ true) where
      pub five_words : length h ≡ 5
      unfolding shaped
      five_words = eqb-true (length h) 5 (both_left (eqb (length h) 5) _ (sym es ∙ hs))

      pub all_words : length rs ≡ 48
      unfolding shaped
      all_words = eqb-true (length rs) 48 (both_right (eqb (length h) 5) _ (sym es ∙ hs))

      pub fourth : 4 < length h
      fourth = omega (arith, five_words)

      pub no_layout : (get_or h 4 0 ≡ layout → ⊥) → false ≡ stand (words h rs)
      unfolding stand
      no_layout ne = sym (rw (sym es ∙ hs, ne_eqb (get_or h 4 0) layout ne) refl)

      pub by_places : get_or h 4 0 ≡ layout → (r : Bool) → r ≡ placed rs → r ≡ stand (words h rs)
      unfolding stand
      by_places l r e = e ∙ sym (rw (sym es ∙ hs, eq-eqb (get_or h 4 0) layout l) refl)

-- ---- one to one
pub record Standing (w : Words) : Type 0 where
  pub five_words : length w.head ≡ 5
  pub all_words : length w.records ≡ 48
  pub laid_out : get_or w.head 4 0 ≡ layout
  pub all_placed : placed w.records ≡ true

pub standing : (w : Words) → stand w ≡ true → Standing w
unfolding stand shaped
standing w s =
    let shape = both_left (shaped w) _ s in
    let rest = both_right (shaped w) _ s in
    record {
      five_words = eqb-true (length w.head) 5 (both_left (eqb (length w.head) 5) _ shape);
      all_words = eqb-true (length w.records) 48 (both_right (eqb (length w.head) 5) _ shape);
      laid_out = eqb-true (get_or w.head 4 0) layout (both_left (eqb (get_or w.head 4 0) layout) _ rest);
      all_placed = both_right (eqb (get_or w.head 4 0) layout) _ rest;
    }

-- what stands for a machine is written as it was
pub same_words : (w : Words) → stand w ≡ true → words_of (machine_in w) ≡ w
unfolding machine_in
same_words w s = let x = standing w s in λ i. words (whole_head w.head w.records x.five_words x.laid_out i) (whole_records w.records x.all_placed i)

-- a machine of sixteen records is written as words that stand for it, and read as it was
pub written_stand : (m : Machine) → length m.workers ≡ workers_most → stand (words_of m) ≡ true
unfolding stand shaped head_of
written_stand m n = rw (eq-eqb (length (records_of m.workers)) 48 (records_long m.workers ∙ omega (arith, n)), records_placed m.workers) refl

pub same_machine : (m : Machine) → machine_in (words_of m) ≡ m
unfolding machine_in head_of
same_machine m = λ i. record { single = m.single; workers = records_back m.workers i; count = m.count; meter = m.meter }
