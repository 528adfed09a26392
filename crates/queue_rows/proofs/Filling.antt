-- A row that is filled from its start with another.
use Prim.Native.Nat.{ℕ, zero, suc, ◌+◌, ◌<◌}
use mathlib.Core.Path.{◌≡◌, refl, sym, ap, ◌∙◌}
use mathlib.Core.List.{List, [], ◌∷◌}
use native.Mathlib.Numerals.{add-one}
use native.Mathlib.Omega.{arith}
use lib.ListN.{length, get_or, set}

-- the first so many of ys, and the rest of xs
pub filled : {A : Type 0} → ℕ → List A → List A → List A
filled zero ys xs = xs
filled (suc i) [] xs = xs
filled (suc i) (y ∷ ys) [] = []
filled (suc i) (y ∷ ys) (x ∷ xs) = y ∷ filled i ys xs

module _ {A : Type 0} (d : A) where
  pub none_yet : (ys xs : List A) → filled 0 ys xs ≡ xs
  unfolding filled
  none_yet ys xs = refl

  one : (i : ℕ) (ys xs : List A) → i < length ys → i < length xs → set (filled i ys xs) i (get_or ys i d) ≡ filled (suc i) ys xs
  unfolding filled
  one i [] xs l g = absurd (omega (arith, l))
  one i (y ∷ ys) [] l g = absurd (omega (arith, g))
  one zero (y ∷ ys) (x ∷ xs) l g = refl
  one (suc i) (y ∷ ys) (x ∷ xs) l g = ap (λ (zs : List A). y ∷ zs) (one i ys xs (omega (arith, l)) (omega (arith, g)))

  pub one_more : (i : ℕ) (ys xs zs : List A) (y : A) → i < length ys → i < length xs → zs ≡ filled i ys xs → y ≡ get_or ys i d → set zs i y ≡ filled (i + 1) ys xs
  one_more i ys xs zs y l g e h = ap (λ (r : List A). set r i y) e ∙ ap (set (filled i ys xs) i) h ∙ one i ys xs l g ∙ ap (λ (k : ℕ). filled k ys xs) (sym (add-one i))

  whole : (ys xs : List A) → length ys ≡ length xs → filled (length ys) ys xs ≡ ys
  unfolding filled
  whole [] [] e = refl
  whole [] (x ∷ xs) e = absurd (omega (arith, e))
  whole (y ∷ ys) [] e = absurd (omega (arith, e))
  whole (y ∷ ys) (x ∷ xs) e = ap (λ (zs : List A). y ∷ zs) (whole ys xs (omega (arith, e)))

  pub all_filled : (i : ℕ) (ys xs zs : List A) → length ys ≡ length xs → i ≡ length ys → zs ≡ filled i ys xs → zs ≡ ys
  all_filled i ys xs zs e h is = is ∙ ap (λ (k : ℕ). filled k ys xs) h ∙ whole ys xs e

  pub long_filled : (i : ℕ) (ys xs : List A) → length (filled i ys xs) ≡ length xs
  unfolding filled
  long_filled zero ys xs = refl
  long_filled (suc i) [] xs = refl
  long_filled (suc i) (y ∷ ys) [] = refl
  long_filled (suc i) (y ∷ ys) (x ∷ xs) = ap suc (long_filled i ys xs)
