-- How many are lent, test by test.
use Prim.Native.Nat.{ℕ, ◌≤◌, ◌<◌, min}
use mathlib.Core.Path.{◌≡◌, refl, sym, ◌∙◌}
use mathlib.Core.Bool.{Bool, true, false}
use native.Mathlib.Omega.{arith}
use lib.Dec.{leb}
use borrow.Author.Tests.{le-leb, lt-leb, leb-true, leb-false}
use Rattle.bounded_machine.proofs.Kept.{either}
use Rattle.bounded_orders.specs.Orders.{records_most}
use Rattle.bounded_lent_by_value.specs.Lends.{at_most_of}

as_many : (count : ℕ) → count ≤ 64 → count ≡ at_most_of count
unfolding at_most_of
as_many count h = sym (rw (le-leb count records_most h) refl)

no_more : (count : ℕ) → 64 < count → 64 ≡ at_most_of count
unfolding at_most_of
no_more count h = sym (rw (lt-leb count records_most h) refl)

pub the_lesser : (count r : ℕ) → r ≡ min count 64 → r ≡ at_most_of count
the_lesser count r e = by (leb count 64) refl
  where
    by : (t : Bool) → leb count 64 ≡ t → r ≡ at_most_of count
    by true h = let few : count ≤ 64 = leb-true count 64 h in let k : r ≡ count = omega arith in k ∙ as_many count few
    by false h = let many : 64 < count = leb-false count 64 h in let k : r ≡ 64 = omega arith in k ∙ no_more count many

pub none_over : (count : ℕ) → at_most_of count ≤ 64
unfolding at_most_of
none_over count = either (λ (k : ℕ). k ≤ 64) (leb count records_most) count 64 (λ e. leb-true count 64 e) (λ e. omega arith)
