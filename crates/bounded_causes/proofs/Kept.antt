-- What the answers of the functions that keep the causes are given.
use Prim.Native.Nat.{ℕ, ◌+◌, ◌≤◌}
use mathlib.Core.Path.{◌≡◌, ◌∙◌}
use mathlib.Core.Bool.{Bool, true, false, cond, not}
use borrow.Author.Rules.{rules}
use mathlib.Core.List.{List}
use native.Mathlib.Omega.{arith}
use native.Mathlib.Numerals.{add-one}
use lib.Dec.{eqb}
use lib.ListN.{set}
use Rattle.bounded_causes.specs.declared.Deed.{Deed}
use Rattle.bounded_causes.specs.declared.Watch.{Watch}
use Rattle.bounded_causes.specs.Causes.{watched_most, watch_with}
use Rattle.bounded_causes.specs.Causes.{watch_of, others_hold, watched_to, watched_of}

-- The loop over all workers: one more, and all.
pub watched_more : (n w : ℕ) (others : Bool) (d : Deed) (xs now : List Watch) (x : Watch) → now ≡ watched_to n w others d xs
    → x ≡ watch_with (eqb n w) others d (watch_of xs n) → set now n x ≡ watched_to (n + 1) w others d xs
unfolding watched_to
watched_more n w others d xs now x e f = rw (add-one, e, f)

pub watched_all : (n w : ℕ) (others : Bool) (d : Deed) (xs now : List Watch) → n ≤ watched_most → watched_most ≤ n → others ≡ others_hold xs w
    → now ≡ watched_to n w others d xs → now ≡ watched_of w d xs
unfolding watched_of
watched_all n w others d xs now l g e f =
    let q : n ≡ watched_most = omega arith in
    f ∙ rw (q, e)

-- a worker that a test over all the others passes, and one that it stops at
pub passed_free : (i w : ℕ) (h : Bool) → h ≡ false → cond (eqb i w) true (not h) ≡ true
passed_free i w h e = search rules

pub passed_own : (i w : ℕ) (h : Bool) → i ≡ w → cond (eqb i w) true (not h) ≡ true
passed_own i w h e = grind arith

pub stopped : (i w : ℕ) (h : Bool) → (i ≡ w → ⊥) → h ≡ true → cond (eqb i w) true (not h) ≡ false
stopped i w h e f = grind arith
