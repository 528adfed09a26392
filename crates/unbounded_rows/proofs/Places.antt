-- What each word of the layout is, by where it stands.
use Prim.Native.Nat.{ℕ, ◌+◌, ◌/◌, ◌%◌, ◌<◌, ◌≤◌}
use mathlib.Core.Path.{◌≡◌, refl, sym, ap, ◌∙◌}
use mathlib.Core.List.{List}
use native.Mathlib.Omega.{arith}
use lib.ListN.{get_or}
use borrow.Author.Tests.{eq-eqb, ne_eqb, lt-ltb, le-ltb}
use Rattle.unbounded_words.specs.Words.{sizes, number_of}
use Rattle.unbounded_places.specs.declared.Slot.{Slot}
use Rattle.unbounded_places.specs.declared.Block.{Block}
use Rattle.unbounded_places.specs.declared.Worker.{Worker}
use Rattle.unbounded_machine.specs.Machine.{slot, block_at, place_of}
use Rattle.unbounded_codes.specs.Codes.{code_of}
use Rattle.unbounded_rows.specs.Rows.{bit, slot_of_word, slot_place, header_word, slot_word, pooled, word_of, record_word}

module _ (a b : ℕ → ℕ) (p : ℕ) where
  pub head_part : p % 64 < 2 → a p ≡ pooled a b p
  unfolding pooled
  head_part h = sym (rw (lt-ltb (p % 64) 2 h) refl)

  pub slot_part : 2 ≤ p % 64 → b p ≡ pooled a b p
  unfolding pooled
  slot_part h = sym (rw (le-ltb (p % 64) 2 h) refl)

module _ (gs : List Block) (b : ℕ → ℕ) where
  pub next_at : (p k : ℕ) → p % 64 ≡ 0 → p / 64 ≡ k → number_of sizes (block_at gs k).next ≡ pooled (header_word gs) b p
  unfolding header_word
  next_at p k r q = ap (λ (j : ℕ). number_of sizes (block_at gs j).next) (sym q) ∙ sym (rw (eq-eqb (p % 64) 0 r) refl) ∙ head_part (header_word gs) b p (omega (arith, r))

  pub free_at : (p k : ℕ) → p % 64 ≡ 1 → p / 64 ≡ k → bit (block_at gs k).free ≡ pooled (header_word gs) b p
  unfolding header_word
  free_at p k r q =
      let other : p % 64 ≡ 0 → ⊥ = λ h. omega (arith, h, r) in
      ap (λ (j : ℕ). bit (block_at gs j).free) (sym q) ∙ sym (rw (ne_eqb (p % 64) 0 other) refl) ∙ head_part (header_word gs) b p (omega (arith, r))

module _ (a : ℕ → ℕ) (ss : List Slot) (p j : ℕ) (from : 2 ≤ p % 64) (is : slot_of_word p ≡ j) where
  pub state_at : p % 2 ≡ 0 → (get_or ss j (slot 0 0)).state ≡ pooled a (slot_word ss) p
  unfolding slot_word
  state_at r = ap (λ (i : ℕ). (get_or ss i (slot 0 0)).state) (sym is) ∙ sym (rw (eq-eqb (p % 2) 0 r) refl) ∙ slot_part a (slot_word ss) p from

  pub value_at : p % 2 ≡ 1 → (get_or ss j (slot 0 0)).value ≡ pooled a (slot_word ss) p
  unfolding slot_word
  value_at r =
      let odd : p % 2 ≡ 0 → ⊥ = λ h. omega (arith, h, r) in
      ap (λ (i : ℕ). (get_or ss i (slot 0 0)).value) (sym is) ∙ sym (rw (ne_eqb (p % 2) 0 odd) refl) ∙ slot_part a (slot_word ss) p from

pub word_at_lem : (ys : List Worker) (p i t : ℕ) → p / 5 ≡ i → p % 5 ≡ t → word_of (code_of (place_of ys i)) t ≡ record_word ys p
unfolding record_word
word_at_lem ys p i t q r = λ k. word_of (code_of (place_of ys (sym q k))) (sym r k)

-- ---- where a slot's words stand
module _ (j : ℕ) where
  pub place_slot : slot_of_word (slot_place j) ≡ j
  place_slot = omega arith

  pub place_slot_next : slot_of_word (slot_place j + 1) ≡ j
  place_slot_next = omega arith

  pub place_past : 2 ≤ slot_place j % 64
  place_past = omega arith

  pub place_past_next : 2 ≤ (slot_place j + 1) % 64
  place_past_next = omega arith

  pub place_even : slot_place j % 2 ≡ 0
  place_even = omega arith

  pub place_odd : (slot_place j + 1) % 2 ≡ 1
  place_odd = omega arith

  pub place_in_lem : j < 1984 → slot_place j + 1 < 4096
  place_in_lem l = omega (arith, l)

module _ (p : ℕ) (from : 2 ≤ p % 64) where
  pub slot_even : p % 2 ≡ 0 → slot_place (slot_of_word p) ≡ p
  slot_even r = omega (arith, from, r)

  pub slot_odd : p % 2 ≡ 1 → slot_place (slot_of_word p) + 1 ≡ p
  slot_odd r = omega (arith, from, r)

  pub slot_in_lem : p < 4096 → slot_of_word p < 1984
  slot_in_lem l = omega (arith, from, l)
