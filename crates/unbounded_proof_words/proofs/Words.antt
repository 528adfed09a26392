-- The word of a position, and what the table's tests say of it.
use Prim.Native.Nat.{ℕ, ◌+◌, ◌*◌, ◌/◌, ◌%◌, ◌<◌}
use mathlib.Core.Path.{◌≡◌, refl, ap, ◌∙◌}
use mathlib.Core.Bool.{Bool, true, false}
use native.Mathlib.Omega.{arith}
use native.Mathlib.Nat.{mod-eq_of_lt}
use lib.Dec.{eqb}
use borrow.Author.Tests.{eq-eqb, ne_eqb, eqb-true}
use Rattle.unbounded_words.specs.declared.Index.{Index}
use Rattle.unbounded_words.specs.Words.{sizes, wide, index, offset_of, past_slots, last_slot, marked_of, unmarked_of, with_mark, later, same, same_position, same_block}

abbrev pub bit : Bool → ℕ
bit true = 1
bit false = 0

abbrev pub word : ℕ → Bool → Index
word p m = index (2 * p + bit m)

pub half : (p : ℕ) (m : Bool) → (2 * p + bit m) / 2 ≡ p
half p true = omega arith
half p false = omega arith

pub offset_word : (p : ℕ) (m : Bool) → offset_of sizes (word p m) ≡ p % 32
offset_word p m = ap (λ (k : ℕ). k % 32) (half p m)

pub past_word : (p : ℕ) (m : Bool) → past_slots sizes (word p m) ≡ eqb (p % 32) 31
unfolding past_slots
past_word p m = ap (λ (k : ℕ). eqb k 31) (offset_word p m)

pub last_word : (p : ℕ) (m : Bool) → last_slot sizes (word p m) ≡ eqb (p % 32 + 1) 31
unfolding last_slot
last_word p m = ap (λ (k : ℕ). eqb (k + 1) 31) (offset_word p m)

pub mark_word : (p : ℕ) (m : Bool) → marked_of (word p m) ≡ m
unfolding marked_of
mark_word p true = eq-eqb ((2 * p + 1) % 2) 1 (omega arith)
mark_word p false = ne_eqb ((2 * p + 0) % 2) 1 (λ e. omega arith)

pub unmarked_word : (p : ℕ) (m : Bool) → unmarked_of (word p m) ≡ word p false
unfolding unmarked_of
unmarked_word p true = ap index (omega arith)
unmarked_word p false = ap index (omega arith)

pub with_mark_word : (p : ℕ) (m : Bool) → with_mark (word p m) ≡ word p true
unfolding with_mark
with_mark_word p true = ap index (omega arith)
with_mark_word p false = ap index (omega arith)

pub later_word : (p : ℕ) (m : Bool) → 2 * p + 3 < wide → later (word p m) ≡ word (p + 1) m
unfolding later
later_word p true l = ap index (mod-eq_of_lt (omega arith) ∙ omega arith)
later_word p false l = ap index (mod-eq_of_lt (omega arith) ∙ omega arith)

pub same_yes : (p q : ℕ) (m k : Bool) → same (word p m) (word q k) ≡ true → (p ≡ q) × (m ≡ k)
unfolding same
same_yes p q true true e = let z : 2 * p + 1 ≡ 2 * q + 1 = eqb-true (2 * p + 1) (2 * q + 1) e in (omega arith, refl)
same_yes p q false false e = let z : 2 * p + 0 ≡ 2 * q + 0 = eqb-true (2 * p + 0) (2 * q + 0) e in (omega arith, refl)
same_yes p q true false e = let z : 2 * p + 1 ≡ 2 * q + 0 = eqb-true (2 * p + 1) (2 * q + 0) e in absurd (omega arith)
same_yes p q false true e = let z : 2 * p + 0 ≡ 2 * q + 1 = eqb-true (2 * p + 0) (2 * q + 1) e in absurd (omega arith)

pub position_word : (p q : ℕ) (m k : Bool) → same_position (word p m) (word q k) ≡ eqb p q
unfolding same_position
position_word p q m k = ap (λ (i : ℕ). eqb i ((word q k).0 / 2)) (half p m) ∙ ap (eqb p) (half q k)

pub block_word : (p q : ℕ) (m k : Bool) → same_block sizes (word p m) (word q k) ≡ eqb (p / 32) (q / 32)
unfolding same_block
block_word p q m k = ap (λ (i : ℕ). eqb (i / 32) ((word q k).0 / 2 / 32)) (half p m) ∙ ap (λ (i : ℕ). eqb (p / 32) (i / 32)) (half q k)
