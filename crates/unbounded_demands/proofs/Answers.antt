-- Answers that are enums, and their numbers and values, both ways.
use mathlib.Core.Path.{◌≡◌, refl, ap}
use mathlib.Core.Bool.{Bool, true, false, cond}
use borrow.Author.Tests.{ne_eqb}
use native.Mathlib.Decide.{ℕ_discrete}
use Rattle.queue_numbers.proofs.Answers.{both_ways, told_both_ways}
use Rattle.unbounded_words.specs.Words.{sizes}
use Rattle.unbounded_machine.specs.Broken.{broken_of}
use Rattle.std.specs.Prelude.{ℕ, Result, Ok, Err}
use Rattle.unbounded.specs.Unbounded.{capacity_of}
use Rattle.unbounded_demands.specs.Demands.{EnumsBothWays, bound_number, bound_of}

bound_back : (a : Result (Unit {0}) ℕ) → (a ≡ Err 0 → ⊥) → bound_of (bound_number a) tt ≡ a
bound_back (Ok value) ne = refl
bound_back (Err n) ne = go (ℕ_discrete n 0)
  where
    go : Dec (n ≡ 0) → bound_of n tt ≡ Err n
    go (yes e) = absurd (ne (ap Err e))
    go (no other) = simp (ne_eqb n 0 other)

told_by : (b : Bool) → cond {A = Result (Unit {0}) ℕ} b (Err 6) (Ok tt) ≡ bound_of (cond b 6 0) tt
told_by true = refl
told_by false = refl

pub enums_both_ways : EnumsBothWays
unfolding capacity_of
enums_both_ways =
    record {
      numbers_back = told_both_ways;
      bounds_back = both_ways Err (λ (v : Unit {0}). Ok v) bound_number (λ (b : Result (Unit {0}) ℕ). tt) (λ v. refl) (λ v. refl) (λ n. refl) bound_back;
      bound_is = λ m. told_by (broken_of sizes m);
    }
