-- Where an answer is an enum: document 01's number of each case, 0 where it is no refusal, and its values; and the case of a number and values.
use Rattle.std.specs.Prelude.{ℕ, ◌≡◌, Result, Ok, Err}

-- Of an answer that is a number or a refusal. The way back, which the promises use, is `told` of crate queue_entries.
abbrev pub number_in : Result ℕ ℕ → ℕ
number_in (Ok value) = 0
number_in (Err number) = number

abbrev pub value_in : Result ℕ ℕ → ℕ
value_in (Ok value) = value
value_in (Err number) = 0

-- Both ways, of answers A with values B: they are inverse to each other. A refusal by 0 is none, and no function gives it.
pub record BothWays {A B : Type 0} (refused : ℕ → A) (number : A → ℕ) (values : A → B) (back : ℕ → B → A) : Type 0 where
  -- the number and the values of an answer give that answer back
  pub answer : (a : A) → (a ≡ refused 0 → ⊥) → back (number a) (values a) ≡ a
  -- the answer of a number and values has that number, and where it is no refusal those values; a refusal says nothing but its number
  pub number_kept : (n : ℕ) (v : B) → number (back n v) ≡ n
  pub values_kept : (v : B) → values (back 0 v) ≡ v
  pub refused_only : (n : ℕ) (v : B) → (n ≡ 0 → ⊥) → back n v ≡ refused n
