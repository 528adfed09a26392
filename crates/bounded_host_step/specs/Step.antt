-- What one entry of a host's answers, and the words as they are then, as the host's face says it of the others (bounded_host/specs/Host.antt).
use Rattle.std.specs.Prelude.{ℕ, cond}
use Rattle.bounded_lent.specs.Lent.{step_lent}
use Rattle.bounded_rows.specs.Rows.{Words, records_in, metered_in, stand, After, after, after_of}

unfoldable pub step_words_of : Words → ℕ → ℕ → After
step_words_of w first second = cond (stand w) (after_of (step_lent (metered_in w) (records_in w.records) first second)) (after 6 w)
