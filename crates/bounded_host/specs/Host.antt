-- What each function of the host's face answers, and the words as they are then: the words are read as a ring and records, document 02's item 11 says what comes of these, and that is written as words.
-- Words that stand for no ring and records are refusal 6; a refused call changes no word. One entry by itself: crate bounded_host_step.
use Rattle.std.specs.Prelude.{ℕ, cond, List, eqb, Result, Ok, Err}
use Rattle.bounded_orders.specs.Orders.{Filled}
use Rattle.bounded_lent.specs.Lent.{Lent, Gone, run_lent, make_lent, capacity_lent, contents_lent}
use Rattle.bounded_rows.specs.Rows.{Words, records_in, metered_in, words_of, shaped, stand, After, after, after_of}
use Rattle.bounded_slices.specs.Slices.{broken_words}
use Rattle.bounded_host.specs.declared.Reply.{Reply}

abbrev pub reply : ℕ → ℕ → Reply
reply number value = record { refusal = number; number = value }

-- 6 or 0: what any call would be refused for
unfoldable pub broken_refusal : Words → ℕ
broken_refusal w = cond (broken_words w) 6 0

-- What the words were before does not matter to making, but for how many there are: that many words, or 6.
abbrev pub made_from : Words → Lent → After
made_from w x = cond (eqb x.answer 0) (after_of x) (after x.answer w)

unfoldable pub make_words : Words → ℕ → ℕ → After
make_words w capacity edition = cond (shaped w) (made_from w (make_lent (records_in w.records) capacity edition)) (after 6 w)

-- a schedule's refusal and the entry's place, or 0 and the count of its entries
pub record Ended : Type 0 where
  pub answer : Reply
  pub words : Words

abbrev pub ended : Reply → Words → Ended
ended r w = record { answer = r; words = w }

abbrev pub ended_of : Gone → Ended
ended_of g = ended (reply g.report.refusal g.report.place) (words_of g.ring g.records)

unfoldable pub run_words : Words → List ℕ → Ended
run_words w s = cond (stand w) (ended_of (run_lent (metered_in w) (records_in w.records) s)) (ended (reply 6 0) w)

-- a number, or a refusal and 0
abbrev pub reply_of : Result ℕ ℕ → Reply
reply_of (Ok n) = reply 0 n
reply_of (Err k) = reply k 0

unfoldable pub capacity_words : Words → Reply
capacity_words w = cond (stand w) (reply_of (capacity_lent (metered_in w) (records_in w.records))) (reply 6 0)

-- how many items, and the buffer with them at its start
pub record Listed : Type 0 where
  pub answer : Reply
  pub buffer : List ℕ

abbrev pub listed : Reply → List ℕ → Listed
listed r buffer = record { answer = r; buffer = buffer }

abbrev pub listed_of : Filled → Listed
listed_of x = listed (reply_of x.answer) x.buffer

unfoldable pub contents_words : Words → List ℕ → Listed
contents_words w buffer = cond (stand w) (listed_of (contents_lent (metered_in w) (records_in w.records) buffer)) (listed (reply 6 0) buffer)
