-- The answer of `size` (crate bounded_walks) by document 01's number, 0 where it is no refusal, and its values: sequences and bytes.
use Rattle.std.specs.Prelude.{ℕ, cond, eqb, Result, Ok, Err}
use Rattle.queue_walks.specs.declared.Walked.{Walked}
use Rattle.queue_walks.specs.Listed.{walked}

abbrev pub sized_number : Result Walked ℕ → ℕ
sized_number (Ok found) = 0
sized_number (Err number) = number

abbrev pub sized_values : Result Walked ℕ → ℕ × ℕ
sized_values (Ok found) = (found.sequences, found.bytes)
sized_values (Err number) = (0, 0)

-- and back
abbrev pub sized_of : ℕ → ℕ × ℕ → Result Walked ℕ
sized_of number values = cond (eqb number 0) (Ok (walked values.0 values.1)) (Err number)
