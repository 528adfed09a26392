-- What the answers of the functions that keep the moments are given.
use Rattle.std.proofs.Common.{◌≡◌, ℕ, zero, suc, ◌+◌, ◌<◌, ◌≤◌, List, [], ◌∷◌, map, length, get_or, set, refl, ap, ◌∙◌, add-one, arith}
use Rattle.bounded_places.specs.declared.Moved.{Moved}
use Rattle.bounded_moments.specs.declared.Moment.{Moment}
use Rattle.bounded_moments.specs.declared.OfWorker.{OfWorker}
use Rattle.bounded_moments.specs.Moments.{heard_of, of_worker, heard_by_all}

-- ---- lists

-- a list whose first so many elements went through f
unfoldable pub mapped_to : {A : Type 0} → ℕ → (A → A) → List A → List A
mapped_to zero f xs = xs
mapped_to (suc n) f [] = []
mapped_to (suc n) f (x ∷ xs) = f x ∷ mapped_to n f xs

module _ {A : Type 0} (f : A → A) where
  mapped_next : (n : ℕ) (xs : List A) (d : A) → n < length xs → set (mapped_to n f xs) n (f (get_or xs n d)) ≡ mapped_to (suc n) f xs
  unfolding mapped_to
  mapped_next n [] d l = absurd (omega arith)
  mapped_next zero (x ∷ xs) d l = refl
  mapped_next (suc n) (x ∷ xs) d l = ap (λ (ys : List A). f x ∷ ys) (mapped_next n xs d (omega arith))

  mapped_whole : (n : ℕ) (xs : List A) → length xs ≤ n → mapped_to n f xs ≡ map f xs
  unfolding mapped_to
  mapped_whole zero [] l = refl
  mapped_whole (suc n) [] l = refl
  mapped_whole zero (x ∷ xs) l = absurd (omega arith)
  mapped_whole (suc n) (x ∷ xs) l = ap (λ (ys : List A). f x ∷ ys) (mapped_whole n xs (omega arith))

pub set_over : {A : Type 0} (xs : List A) (w : ℕ) (x : A) → length xs ≤ w → xs ≡ set xs w x
set_over [] w x l = refl
set_over (y ∷ xs) zero x l = absurd (omega arith)
set_over {A} (y ∷ xs) (suc w) x l = ap (λ (ys : List A). y ∷ ys) (set_over xs w x (omega arith))

-- ---- the loop over all workers: one more, and all

abbrev pub hears : Moved → ℕ → OfWorker → OfWorker
hears m place x = of_worker (heard_of m place x.moment)

pub heard_more : (m : Moved) (place n : ℕ) (xs now : List OfWorker) (d : OfWorker) (y : Moment) → n < length xs → now ≡ mapped_to n (hears m place) xs
    → y ≡ heard_of m place (get_or xs n d).moment → set now n (of_worker y) ≡ mapped_to (n + 1) (hears m place) xs
heard_more m place n xs now d y l e f = rw (add-one, e, f) (mapped_next (hears m place) n xs d l)

pub heard_all : (m : Moved) (place n : ℕ) (xs now : List OfWorker) → length xs ≤ n → now ≡ mapped_to n (hears m place) xs → now ≡ heard_by_all m place xs
unfolding heard_by_all
heard_all m place n xs now l e = e ∙ mapped_whole (hears m place) n xs l
