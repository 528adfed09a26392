-- Where an answer is a number or a refusal.
use Rattle.std.specs.Prelude.{ℕ, cond, eqb, Result, Ok, Err}

-- The answer that this paper's number and value stand for: refusal 0 is none.
unfoldable pub told : ℕ → ℕ → Result ℕ ℕ
told number value = cond (eqb number 0) (Ok value) (Err number)
