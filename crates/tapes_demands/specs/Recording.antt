-- A tape recorded entry by entry is the tape of the whole (crate tapes_host).
use Rattle.std.specs.Prelude.{ℕ, cond, List, [], ◌∷◌, ◌++◌, ◌≡◌, eqb, length}
use Rattle.tapes_host.specs.Host.{Written, write_tape}
use Rattle.tapes_host.specs.Recorder.{Recorded, recorded, begin_tape, append_tape, end_tape}
use Rattle.tapes_demands.specs.Notions.{OneOf}

-- The three functions. What is asked is said of any, so that it can be said of some with a slip.
pub record RecorderFace : Type 0 where
  pub begin : ℕ → ℕ → ℕ → List ℕ → List ℕ → Recorded
  pub append : List ℕ → ℕ → ℕ → List ℕ → Recorded
  pub end : List ℕ → List ℕ → Written

-- Crate tapes_host's.
abbrev pub recorders : RecorderFace
recorders = record { begin = begin_tape; append = append_tape; end = end_tape }

-- What a host does with a recorder that was begun, in any order: an entry more, or an end.
pub data Use : Type 0 where
  entry : ℕ → ℕ → Use
  end : Use

abbrev pub ending : Recorded → Written → Recorded
ending r w = recorded w.answer r.recorder w.tape

abbrev pub used_by : RecorderFace → Use → Recorded → Recorded
used_by f (entry first item) r = f.append r.recorder first item r.tape
used_by f end r = ending r (f.end r.recorder r.tape)

abbrev pub uses_by : RecorderFace → List Use → Recorded → Recorded
uses_by f [] r = r
uses_by f (u ∷ us) r = uses_by f us (used_by f u r)

-- The schedule that is recorded so: an entry is taken where the writer takes the schedule with it, and is left out where it is refused.
abbrev pub taken_by : (List ℕ → Written) → List ℕ → Use → List ℕ
taken_by write words (entry first item) = cond (eqb (write (words ++ first ∷ item ∷ [])).answer.refusal 0) (words ++ first ∷ item ∷ []) words
taken_by write words end = words

abbrev pub taken_all : (List ℕ → Written) → List ℕ → List Use → List ℕ
taken_all write words [] = words
taken_all write words (u ∷ us) = taken_all write (taken_by write words u) us

-- The entries of a schedule, one by one.
abbrev pub entries_in : List ℕ → List Use
entries_in [] = []
entries_in (first ∷ []) = []
entries_in (first ∷ item ∷ rest) = entry first item ∷ entries_in rest

-- Of a writer of schedules into a buffer as it was, and of what a begin over that buffer left.
pub record AsWritten (f : RecorderFace) (write : List ℕ → Written) (begun : Recorded) : Type 0 where
  -- A begin answers as the writer does of no entries, and leaves the buffer as that does.
  pub begins : (begun.answer ≡ (write []).answer) × (begun.tape ≡ (write []).tape)
  -- Whatever was done since, an entry more is answered as the writer answers the schedule with it: 0 and its length, 17 and this entry's place, 16 and the length that it would take.
  pub appends : begun.answer.refusal ≡ 0 → (us : List Use) (first item : ℕ)
      → (used_by f (entry first item) (uses_by f us begun)).answer ≡ (write (taken_all write [] us ++ first ∷ item ∷ [])).answer
  -- And an end gives the writer's answer, and every byte of the buffer as the writer leaves it.
  pub ends : begun.answer.refusal ≡ 0 → (us : List Use) → f.end (uses_by f us begun).recorder (uses_by f us begun).tape ≡ write (taken_all write [] us)
  -- So a schedule that the writer takes, recorded entry by entry and ended, is the writer's tape of the whole.
  pub whole : (words : List ℕ) → (write words).answer.refusal ≡ 0
      → f.end (uses_by f (entries_in words) begun).recorder (uses_by f (entries_in words) begun).tape ≡ write words

abbrev pub RecordsAsWrittenBy : RecorderFace → Type 0
RecordsAsWrittenBy f =
    (name capacity workers : ℕ) (recorder tape : List ℕ) → length recorder ≡ 3
    → AsWritten f (λ words. write_tape name capacity workers words tape) (f.begin name capacity workers recorder tape)

abbrev pub RecordsAsWritten : Type 0
RecordsAsWritten = RecordsAsWrittenBy recorders

-- Any words and any buffer get an answer or one of these refusals; what is refused changes nothing.
pub record RefusesBy (f : RecorderFace) : Type 0 where
  pub begin : (name capacity workers : ℕ) (recorder tape : List ℕ)
      → OneOf (f.begin name capacity workers recorder tape).answer.refusal (0 ∷ 6 ∷ 13 ∷ 17 ∷ 16 ∷ [])
  pub append : (recorder : List ℕ) (first item : ℕ) (tape : List ℕ) → OneOf (f.append recorder first item tape).answer.refusal (0 ∷ 6 ∷ 17 ∷ 16 ∷ [])
  pub end : (recorder tape : List ℕ) → OneOf (f.end recorder tape).answer.refusal (0 ∷ 6 ∷ [])
  pub begin_unchanged : (name capacity workers : ℕ) (recorder tape : List ℕ) → ((f.begin name capacity workers recorder tape).answer.refusal ≡ 0 → ⊥)
      → ((f.begin name capacity workers recorder tape).recorder ≡ recorder) × ((f.begin name capacity workers recorder tape).tape ≡ tape)
  pub append_unchanged : (recorder : List ℕ) (first item : ℕ) (tape : List ℕ) → ((f.append recorder first item tape).answer.refusal ≡ 0 → ⊥)
      → ((f.append recorder first item tape).recorder ≡ recorder) × ((f.append recorder first item tape).tape ≡ tape)
  pub end_unchanged : (recorder tape : List ℕ) → ((f.end recorder tape).answer.refusal ≡ 0 → ⊥) → (f.end recorder tape).tape ≡ tape

abbrev pub Refuses : Type 0
Refuses = RefusesBy recorders
