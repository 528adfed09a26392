-- Rows of records: every test of a range, and a record that was set.
use Prim.Native.Nat.{ℕ, zero, suc, ◌+◌, ◌<◌, ◌≤◌}
use mathlib.Core.Path.{◌≡◌, refl, ap, subst}
use mathlib.Core.Bool.{Bool, true, false, cond}
use mathlib.Core.List.{List, [], ◌∷◌}
use native.Mathlib.Omega.{arith}
use native.Mathlib.Decide.{dec_lt}
use lib.ListN.{get_or, set}
use Rattle.queue_entries.specs.Limits.{all}
use Rattle.queue_entries.proofs.Pick.{both_left, both_right}

pub both : (a b : Bool) → a ≡ true → b ≡ true → cond a b false ≡ true
both a b p q = rw (p, q)

pub every : (n i : ℕ) (test : ℕ → Bool) → all n i test ≡ true → (k : ℕ) → i ≤ k → k < i + n → test k ≡ true
unfolding all
every zero i test h k l g = absurd (omega arith)
every (suc n) i test h k l g =
    go (λ (m : i < k). every n (i + 1) test (both_right (test i) (all n (i + 1) test) h) k (omega arith) (omega arith)) (dec_lt i k)
  where
    go : (i < k → test k ≡ true) → Dec (i < k) → test k ≡ true
    go later (yes m) = later m
    go later (no m) = let e : i ≡ k = omega arith in subst (λ (j : ℕ). test j ≡ true) e (both_left (test i) (all n (i + 1) test) h)

pub all_of : (n i : ℕ) (test : ℕ → Bool) → ((k : ℕ) → i ≤ k → k < i + n → test k ≡ true) → all n i test ≡ true
unfolding all
all_of zero i test h = refl
all_of (suc n) i test h =
    both (test i) (all n (i + 1) test) (h i (omega arith) (omega arith)) (all_of n (i + 1) test (λ k l g. h k (omega arith) (omega arith)))

-- what is said of a list's elements, after one was set
pub placed : {A : Type 0} (xs : List A) (w i : ℕ) (x d : A) (P : A → Type 0) → (i ≡ w → P x) → P (get_or xs i d) → P (get_or (set xs w x) i d)
placed [] w i x d P p q = q
placed (y ∷ ys) zero zero x d P p q = p refl
placed (y ∷ ys) zero (suc i) x d P p q = q
placed (y ∷ ys) (suc w) zero x d P p q = q
placed (y ∷ ys) (suc w) (suc i) x d P p q = placed ys w i x d P (λ e. p (ap suc e)) q
