-- Numbers and records within limits.
use Prim.Native.Nat.{ℕ, zero, suc, ◌+◌, ◌<◌, ◌≤◌, ◌-◌}
use mathlib.Core.Path.{◌≡◌, sym, ◌∙◌}
use mathlib.Core.Bool.{Bool, true, false, cond, true≢false}
use native.Mathlib.Omega.{arith}
use lib.Dec.{leb, eqb}
use borrow.Author.Tests.{leb-true}
use Rattle.queue_entries.specs.Limits.{all, in_limits}

-- every test from the i-th on: one more passed, one failed, none left
module _ (test : ℕ → Bool) (n i : ℕ) (b : Bool) (back : all (n - i) i test ≡ b) where
  pub all_more : (t : Bool) → i < n → t ≡ test i → t ≡ true → all (n - (i + 1)) (i + 1) test ≡ b
  unfolding all
  all_more t l e h = let left : n - i ≡ suc (n - (i + 1)) = omega arith in sym (simp (sym e ∙ h)) ∙ (rw left at back)

  pub all_failed : (t : Bool) → i < n → t ≡ test i → t ≡ false → false ≡ b
  unfolding all
  all_failed t l e h = let left : n - i ≡ suc (n - (i + 1)) = omega arith in sym (simp (sym e ∙ h)) ∙ (rw left at back)

  pub all_passed : n ≤ i → true ≡ b
  unfolding all
  all_passed h = let z : n - i ≡ 0 = omega arith in rw z at back

-- from the tests to the facts
pub limit_some : (n most : ℕ) (b : Bool) → b ≡ in_limits n most → b ≡ true → 0 < n
unfolding in_limits
limit_some zero most b e h = absurd (true≢false (sym h ∙ e))
limit_some (suc n) most b e h = omega arith

pub limit_most : (n most : ℕ) (b : Bool) → b ≡ in_limits n most → b ≡ true → n ≤ most
unfolding in_limits
limit_most n most b e h = leb-true n most (both_other (eqb n 0) (leb n most) (sym e ∙ h))
  where
    both_other : (x y : Bool) → cond x false y ≡ true → y ≡ true
    both_other true y k = absurd (true≢false (sym k))
    both_other false y k = k
