-- An answer that is an enum and its number and values, both ways.
use Prim.Native.Nat.{ℕ}
use mathlib.Core.Path.{◌≡◌, refl, sym, ap, ◌∙◌}
use mathlib.Core.Bool.{cond}
use lib.Dec.{eqb}
use borrow.Author.Tests.{eqb-true, ne_eqb}
use native.Mathlib.Decide.{ℕ_discrete}
use Rattle.std.specs.Prelude.{Result, Ok, Err}
use Rattle.queue_entries.specs.Told.{told}
use Rattle.queue_schedules.proofs.Schedules.{either}
use Rattle.queue_numbers.specs.Answers.{BothWays, number_in, value_in}

-- Of any enum with a case of no refusal, `plain`, and one of refusals: the way back is a test of the number.
module _ {A B : Type 0} (refused : ℕ → A) (plain : B → A) (number : A → ℕ) (values : A → B) where
  abbrev pub back_by : ℕ → B → A
  back_by n v = cond (eqb n 0) (plain v) (refused n)

  pub both_ways : ((v : B) → number (plain v) ≡ 0) → ((v : B) → values (plain v) ≡ v) → ((n : ℕ) → number (refused n) ≡ n)
      → ((a : A) → (a ≡ refused 0 → ⊥) → back_by (number a) (values a) ≡ a) → BothWays refused number values back_by
  both_ways zero_of value_of_lem number_of_lem answer =
      record {
        answer = answer;
        number_kept = λ n v. either (λ (a : A). number a ≡ n) (eqb n 0) (plain v) (refused n) (λ e. zero_of v ∙ sym (eqb-true n 0 e)) (λ e. number_of_lem n);
        values_kept = value_of_lem;
        refused_only = λ n v ne. simp (ne_eqb n 0 ne);
      }

pub told_both_ways : BothWays Err number_in value_in told
unfolding told
told_both_ways = both_ways Err Ok number_in value_in (λ v. refl) (λ v. refl) (λ n. refl) answer
  where
    answer : (a : Result ℕ ℕ) → (a ≡ Err 0 → ⊥) → cond (eqb (number_in a) 0) (Ok (value_in a)) (Err (number_in a)) ≡ a
    answer (Ok value) ne = refl
    answer (Err n) ne = go (ℕ_discrete n 0)
      where
        go : Dec (n ≡ 0) → cond (eqb n 0) (Ok (value_in (Err n))) (Err n) ≡ Err n
        go (yes e) = absurd (ne (ap Err e))
        go (no ne') = simp (ne_eqb n 0 ne')
