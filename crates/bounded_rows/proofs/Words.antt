-- Words that are stored one after the other.
use Prim.Native.Nat.{ℕ, ◌+◌, ◌*◌, ◌<◌}
use mathlib.Core.Path.{◌≡◌, sym, ap, subst}
use mathlib.Core.Bool.{Bool}
use mathlib.Core.List.{List}
use native.Mathlib.Omega.{arith}
use lib.ListN.{length, get_or, set, length-set}
use Rattle.bounded_places.specs.declared.Place.{Place}
use Rattle.bounded_places.specs.declared.Worker.{Worker}
use Rattle.bounded_codes.specs.declared.Coded.{Coded}
use Rattle.bounded_codes.specs.Codes.{code_of, place_in, stands_for}
use Rattle.bounded_rows.specs.Rows.{record_at, placed_at, five, with_record}

pub still_in : (l : List ℕ) (j i a : ℕ) → j < length l → j < length (set l i a)
still_in l j i a = subst (λ (n : ℕ). j < n) (sym (length-set l i a))

pub record_read : (ws : List ℕ) (i : ℕ) (p : Place) → p ≡ place_in (get_or ws (i * 5) 0) (get_or ws (i * 5 + 1) 0) (get_or ws (i * 5 + 2) 0)
    → record { place = p; differed = get_or ws (i * 5 + 3) 0; failed = get_or ws (i * 5 + 4) 0 } ≡ record_at ws i
unfolding record_at
record_read ws i p e = λ k. record { place = e k; differed = get_or ws (i * 5 + 3) 0; failed = get_or ws (i * 5 + 4) 0 }

pub placed_read : (ws : List ℕ) (i : ℕ) (b : Bool) → b ≡ stands_for (get_or ws (i * 5) 0) (get_or ws (i * 5 + 1) 0) (get_or ws (i * 5 + 2) 0) → b ≡ placed_at ws i
unfolding placed_at
placed_read ws i b e = e

pub record_put : (ws : List ℕ) (i : ℕ) (r : Worker) (c : Coded) → c ≡ code_of r.place → five ws (i * 5) c r.differed r.failed ≡ with_record ws i r
unfolding with_record
record_put ws i r c e = ap (λ (x : Coded). five ws (i * 5) x r.differed r.failed) e

module _ (ws : List ℕ) (k : ℕ) where
  pub after_stamp : (x : ℕ) → k * 2 + 1 < length ws → k * 2 + 1 < length (set ws (k * 2) x)
  after_stamp x h = still_in ws (k * 2 + 1) (k * 2) x h

module _ (ws : List ℕ) (i : ℕ) where
  pub after_one : (x : ℕ) → i * 5 + 4 < length ws → i * 5 + 1 < length (set ws (i * 5) x)
  after_one x h = still_in ws (i * 5 + 1) (i * 5) x (omega (arith, h))

  pub after_two : (x y : ℕ) → i * 5 + 4 < length ws → i * 5 + 2 < length (set (set ws (i * 5) x) (i * 5 + 1) y)
  after_two x y h = still_in (set ws (i * 5) x) (i * 5 + 2) (i * 5 + 1) y (still_in ws (i * 5 + 2) (i * 5) x (omega (arith, h)))

  pub after_three : (x y z : ℕ) → i * 5 + 4 < length ws → i * 5 + 3 < length (set (set (set ws (i * 5) x) (i * 5 + 1) y) (i * 5 + 2) z)
  after_three x y z h = still_in (set (set ws (i * 5) x) (i * 5 + 1) y) (i * 5 + 3) (i * 5 + 2) z
      (still_in (set ws (i * 5) x) (i * 5 + 3) (i * 5 + 1) y (still_in ws (i * 5 + 3) (i * 5) x (omega (arith, h))))
