-- What each function of the host's face answers, and the words as they are then: the words are read as a machine, the one-slot queue's own definitions say what comes of it, and that is written
-- as words.
-- Words that stand for no machine are refusal 6; a refused call changes no word.
use Rattle.std.specs.Prelude.{ℕ, Bool, true, cond, List, eqb, length, Result, Ok, Err}
use Rattle.queue_entries.specs.Told.{told}
use Rattle.single_machine.specs.declared.Machine.{Machine}
use Rattle.single_machine.specs.declared.Did.{Did}
use Rattle.single_machine.specs.declared.Ran.{Ran}
use Rattle.single_machine.specs.Broken.{broken_of}
use Rattle.single_machine.specs.Contents.{count_in, contents_refusal, written}
use Rattle.single_machine.specs.Run.{run_of}
use Rattle.single.specs.Single.{make_of, step_of}
use Rattle.single_rows.specs.Rows.{Words, words_of, machine_in, shaped, stand}
use Rattle.single_host.specs.declared.Reply.{Reply}

abbrev pub reply : ℕ → ℕ → Reply
reply number value = record { refusal = number; number = value }

-- ---- an answer, with the words as they are then
pub record After : Type 0 where
  pub answer : ℕ
  pub words : Words

abbrev pub after : ℕ → Words → After
after r w = record { answer = r; words = w }

abbrev pub after_of : Did → After
after_of d = after d.refusal (words_of d.machine)

-- every call would be refused for what is lent
unfoldable pub broken_words : Words → Bool
broken_words w = cond (stand w) (broken_of (machine_in w)) true

unfoldable pub broken_refusal : Words → ℕ
broken_refusal w = cond (broken_words w) 6 0

-- What the words were before does not matter to making, but for how many there are: that many words, or 6.
abbrev pub made_from : Words → Did → After
made_from w d = cond (eqb d.refusal 0) (after_of d) (after d.refusal w)

unfoldable pub make_words : Words → ℕ → After
make_words w workers = cond (shaped w) (made_from w (make_of workers)) (after 6 w)

unfoldable pub step_words_of : Words → ℕ → ℕ → After
step_words_of w first second = cond (stand w) (after_of (step_of (machine_in w) first second)) (after 6 w)

-- a schedule's refusal and the entry's place, or 0 and the count of its entries
pub record Ended : Type 0 where
  pub answer : Reply
  pub words : Words

abbrev pub ended : Reply → Words → Ended
ended r w = record { answer = r; words = w }

abbrev pub ended_of : Ran → Ended
ended_of r = ended (reply r.refusal r.place) (words_of r.machine)

unfoldable pub run_words : Words → List ℕ → Ended
run_words w s = cond (stand w) (ended_of (run_of (machine_in w) s)) (ended (reply 6 0) w)

-- a number, or a refusal and 0
abbrev pub reply_of : Result ℕ ℕ → Reply
reply_of (Ok n) = reply 0 n
reply_of (Err k) = reply k 0

-- how many items, and the buffer with them at its start
pub record Listed : Type 0 where
  pub answer : Reply
  pub buffer : List ℕ

abbrev pub listed : Reply → List ℕ → Listed
listed r buffer = record { answer = r; buffer = buffer }

abbrev pub contents_in : Machine → List ℕ → Listed
contents_in m buffer = listed (reply_of (told (contents_refusal m (length buffer)) (count_in m))) (written m buffer)

unfoldable pub contents_words : Words → List ℕ → Listed
contents_words w buffer = cond (stand w) (contents_in (machine_in w) buffer) (listed (reply 6 0) buffer)
