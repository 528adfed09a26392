-- Answers that are enums, and their numbers and values, both ways.
use Prim.Native.Nat.{ℕ}
use mathlib.Core.Path.{◌≡◌, refl, ap}
use borrow.Author.Tests.{ne_eqb}
use native.Mathlib.Decide.{ℕ_discrete}
use Rattle.queue_numbers.proofs.Answers.{both_ways, told_both_ways}
use Rattle.std.specs.Prelude.{Result, Ok, Err}
use Rattle.queue_walks.specs.declared.Walked.{Walked}
use Rattle.queue_walks.specs.Listed.{walked}
use Rattle.bounded_walks.specs.Walks.{size_of}
use Rattle.bounded_demands.specs.Answers.{sized_number, sized_values, sized_of}
use Rattle.bounded_demands.specs.Demands.{EnumsBothWays}

sized_back : (a : Result Walked ℕ) → (a ≡ Err 0 → ⊥) → sized_of (sized_number a) (sized_values a) ≡ a
sized_back (Ok found) ne = refl
sized_back (Err n) ne = go (ℕ_discrete n 0)
  where
    go : Dec (n ≡ 0) → sized_of n (0, 0) ≡ Err n
    go (yes e) = absurd (ne (ap Err e))
    go (no other) = simp (ne_eqb n 0 other)

pub enums_both_ways : EnumsBothWays
unfolding size_of
enums_both_ways =
    record {
      numbers = told_both_ways;
      sizes = both_ways Err (λ (v : ℕ × ℕ). Ok (walked v.0 v.1)) sized_number sized_values (λ v. refl) (λ v. refl) (λ n. refl) sized_back;
      size = λ m depth. refl;
    }
