-- What len counts between two words, and what a step of tail's index leaves of its mark.
use Prim.Native.Nat.{ℕ, ◌+◌, ◌*◌, ◌-◌, ◌/◌, ◌%◌, ◌≤◌, ◌<◌}
use native.Mathlib.Omega.{arith}
use native.Mathlib.Nat.{mod-eq_of_lt}
use native.Mathlib.Decide.{dec_lt}
use mathlib.Core.Path.{◌≡◌, refl, sym, ap, ◌∙◌}
use mathlib.Core.Bool.{Bool, true, false, cond}
use lib.Dec.{eqb}
use borrow.Author.Tests.{eq-eqb, eqb-true, eqb-false}
use Rattle.unbounded_words.specs.declared.Index.{Index}
use Rattle.unbounded_words.specs.Words.{sizes, wide, past_slots, marked_of, with_mark, later, minus, settled, behind, count_of}
use Rattle.unbounded_proof_words.proofs.Words.{word, half, past_word, unmarked_word, later_word}
use Rattle.unbounded_proof_each_act.proofs.Step.{counted}

minus_less : (a b : ℕ) → b ≤ a → a < wide → minus a b ≡ a - b
unfolding minus
minus_less a b l k = omega arith

-- a position that is no slot is counted as the one behind it
abbrev settled_at : ℕ → ℕ
settled_at p = cond (eqb (p % 32) 31) (p + 1) p

settled_word : (p : ℕ) (m : Bool) → 2 * p + 3 < wide → settled sizes (word p m) ≡ word (settled_at p) false
unfolding settled
settled_word p m l =
    ap (λ (x : Index). cond (past_slots sizes x) (later x) x) (unmarked_word p m)
    ∙ ap (λ (b : Bool). cond b (later (word p false)) (word p false)) (past_word p false)
    ∙ go (eqb (p % 32) 31)
  where
    go : (b : Bool) → cond b (later (word p false)) (word p false) ≡ word (cond b (p + 1) p) false
    go true = later_word p false l
    go false = refl

settled_near : (p : ℕ) → (counted (settled_at p) ≡ counted p) × (p ≤ settled_at p) × (settled_at p ≤ p + 1)
settled_near p = go (eqb (p % 32) 31) refl
  where
    go : (b : Bool) → eqb (p % 32) 31 ≡ b → (counted (cond b (p + 1) p) ≡ counted p) × (p ≤ cond b (p + 1) p) × (cond b (p + 1) p ≤ p + 1)
    go true e = let z = eqb-true (p % 32) 31 e in (omega arith, omega arith, omega arith)
    go false e = (refl, omega arith, omega arith)

-- both words with head's block as the first
rotated : (p b : ℕ) → 32 * b ≤ p → 2 * p < wide → minus (2 * p + 0) (b * 32 * 2) / 2 ≡ p - 32 * b
rotated p b l k = let a : minus (2 * p + 0) (b * 32 * 2) ≡ 2 * p + 0 - b * 32 * 2 = minus_less (2 * p + 0) (b * 32 * 2) (omega arith) (omega arith) in omega arith

blocks_off : (p b : ℕ) → 32 * b ≤ p → (p - 32 * b) / 32 ≡ p / 32 - b
blocks_off p b l = omega arith

block_of : (q b : ℕ) → 32 * b ≤ q → q < 32 * b + 32 → q / 32 ≡ b
block_of q b l k = omega arith

behind_at : (p q b : ℕ) → 32 * b ≤ q → q < 32 * b + 32 → q ≤ p → 2 * p < wide → behind sizes (p - 32 * b) (q - 32 * b) ≡ counted p - counted q
unfolding behind
behind_at p q b low high l k =
    ap (λ (y : ℕ). minus y ((p - 32 * b) / 32)) (minus_less (p - 32 * b) (q - 32 * b) (omega arith) (omega arith))
    ∙ ap (minus (p - 32 * b - (q - 32 * b))) (blocks_off p b (omega arith))
    ∙ minus_less (p - 32 * b - (q - 32 * b)) (p / 32 - b) (few p q b low high l) (omega arith)
    ∙ ap (λ (y : ℕ). p - 32 * b - (q - 32 * b) - (p / 32 - y)) (sym (block_of q b low high)) ∙ same p q b low high l
  where
    few : (p q b : ℕ) → 32 * b ≤ q → q < 32 * b + 32 → q ≤ p → p / 32 - b ≤ p - 32 * b - (q - 32 * b)
    few p q b low high l = omega arith

    apart : (p q i j : ℕ) → q ≤ p → j ≤ i → i ≤ p → j ≤ q → p - q - (i - j) ≡ p - i - (q - j)
    apart p q i j a b c d = omega arith

    same : (p q b : ℕ) → 32 * b ≤ q → q < 32 * b + 32 → q ≤ p → p - 32 * b - (q - 32 * b) - (p / 32 - q / 32) ≡ counted p - counted q
    same p q b low high l =
        let near : p - 32 * b - (q - 32 * b) ≡ p - q = omega arith in
        ap (λ (n : ℕ). n - (p / 32 - q / 32)) near ∙ apart p q (p / 32) (q / 32) l (omega arith) (omega arith) (omega arith)

behind_is : (p q : ℕ) → q ≤ p → 2 * p < wide
    → behind sizes (minus (word p false).0 ((word q false).0 / 2 / 32 * 32 * 2) / 2) (minus (word q false).0 ((word q false).0 / 2 / 32 * 32 * 2) / 2) ≡ counted p - counted q
behind_is p q l k =
    ap (λ (x : ℕ). behind sizes (minus (2 * p + 0) (x / 32 * 32 * 2) / 2) (minus (2 * q + 0) (x / 32 * 32 * 2) / 2)) (half q false)
    ∙ ap (λ (x : ℕ). behind sizes x (minus (2 * q + 0) (q / 32 * 32 * 2) / 2)) (rotated p (q / 32) (omega arith) k)
    ∙ ap (behind sizes (p - 32 * (q / 32))) (rotated q (q / 32) (omega arith) (omega arith))
    ∙ behind_at p q (q / 32) (omega arith) (omega arith) l k

pub count_word : (p q : ℕ) (m k : Bool) → q ≤ p → 2 * p + 5 < wide → count_of sizes (word p m) (word q k) ≡ counted p - counted q
unfolding count_of
count_word p q m k l s =
    let a = settled_word p m (omega arith) in
    let b = settled_word q k (omega arith) in
    let x = settled_near p in
    let y = settled_near q in
    ap (λ (t : Index). behind sizes (minus t.0 ((settled sizes (word q k)).0 / 2 / 32 * 32 * 2) / 2) (minus (settled sizes (word q k)).0 ((settled sizes (word q k)).0 / 2 / 32 * 32 * 2) / 2)) a
    ∙ ap (λ (h : Index). behind sizes (minus (word (settled_at p) false).0 (h.0 / 2 / 32 * 32 * 2) / 2) (minus h.0 (h.0 / 2 / 32 * 32 * 2) / 2)) b
    ∙ behind_is (settled_at p) (settled_at q) (order (eqb (p % 32) 31) (eqb (q % 32) 31) refl refl) (omega arith) ∙ omega arith
  where
    order : (a b : Bool) → eqb (p % 32) 31 ≡ a → eqb (q % 32) 31 ≡ b → cond b (q + 1) q ≤ cond a (p + 1) p
    order true true d e = omega arith
    order true false d e = omega arith
    order false true d e = go (dec_lt q p)
      where
        go : Dec (q < p) → q + 1 ≤ p
        go (yes i) = omega arith
        go (no i) = let same : q ≡ p = omega arith in absurd (eqb-false (p % 32) 31 d (ap (λ (n : ℕ). n % 32) (sym same) ∙ eqb-true (q % 32) 31 e))
    order false false d e = l

-- ---- the mark
pub mark_later : (x : Index) → x.0 + 2 < wide → marked_of (later x) ≡ marked_of x
unfolding marked_of later
mark_later x l =
    let z : (x.0 + 2) % wide ≡ x.0 + 2 = mod-eq_of_lt (omega arith) in
    let same : (x.0 + 2) % wide % 2 ≡ x.0 % 2 = omega arith in
    ap (λ (n : ℕ). eqb n 1) same

pub later_up : (x : Index) → x.0 + 2 < wide → x.0 ≤ (later x).0
unfolding later
later_up x l = let z : (x.0 + 2) % wide ≡ x.0 + 2 = mod-eq_of_lt (omega arith) in omega arith

pub mark_marked : (x : Index) → marked_of (with_mark x) ≡ true
unfolding marked_of with_mark
mark_marked x = eq-eqb ((x.0 - x.0 % 2 + 1) % 2) 1 (omega arith)

pub marked_up : (x : Index) → x.0 ≤ (with_mark x).0
unfolding with_mark
marked_up x = omega arith
