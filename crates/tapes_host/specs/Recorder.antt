-- A tape entry by entry: what a recorder's functions answer, and every lent slice as it is then.
use Rattle.std.specs.Prelude.{ℕ, ◌+◌, ◌*◌, ◌-◌, ◌/◌, ◌%◌, Bool, false, cond, List, [], ◌∷◌, ◌++◌, eqb, leb, ltb, length, get_or, take, drop}
use Rattle.tapes_numbers.specs.declared.Variant.{Variant}
use Rattle.tapes_numbers.specs.declared.Variant.TheVariants.{BigEndian, LittleEndian}
use Rattle.tapes_fields.specs.Fields.{entry_field_of, end_of, size_of, over}
use Rattle.tapes_fields.specs.Judged.{carried}
use Rattle.tapes_host.specs.declared.Reply.{Reply}
use Rattle.tapes_host.specs.declared.Recorder.{Recorder}
use Rattle.tapes_host.specs.declared.Recorder.TheVariants.{Broken, At}
use Rattle.tapes_host.specs.Host.{reply, name_of, Written, written, write_tape}

pub record Recorded : Type 0 where
  pub answer : Reply
  pub recorder : List ℕ
  pub tape : List ℕ

abbrev pub recorded : Reply → List ℕ → List ℕ → Recorded
recorded r recorder tape = record { answer = r; recorder = recorder; tape = tape }

-- ---- the words: the variant's name, the bytes so far but for the last field, the entries so far

abbrev pub recorder_of : ℕ → ℕ → ℕ → List ℕ
recorder_of name long count = name ∷ long ∷ count ∷ []

-- So many bytes can be those of so many entries: 4 each, and 8 more for each item.
unfoldable pub entries_can : ℕ → ℕ → Bool
entries_can bytes count =
    cond (ltb bytes (4 * count)) false
    (cond (eqb ((bytes - 4 * count) % 8) 0) (leb ((bytes - 4 * count) / 8) count) false)

-- the first field has 7 bytes, and the last one's 3 have room
unfoldable pub stands : ℕ → ℕ → ℕ → Bool
stands room long count = cond (ltb long 7) false (cond (ltb room (long + 3)) false (entries_can (long - 7) count))

unfoldable pub stands_by : ℕ → ℕ → ℕ → Recorder
stands_by name long count =
    cond (eqb name (name_of BigEndian)) (At BigEndian long count)
    (cond (eqb name (name_of LittleEndian)) (At LittleEndian long count) Broken)

-- The recorder that three words are, of a buffer with so much room.
unfoldable pub recorder_by : ℕ → ℕ → ℕ → ℕ → Recorder
recorder_by room name long count = cond (stands room long count) (stands_by name long count) Broken

unfoldable pub recorder_in : ℕ → List ℕ → Recorder
recorder_in room words = cond (eqb (length words) 3) (recorder_by room (get_or words 0 0) (get_or words 1 0) (get_or words 2 0)) Broken

-- ---- the functions; 6 for words that are no recorder's, as for all words that stand for nothing

-- The tape of no entries, and its recorder.
unfoldable pub begun_by : ℕ → List ℕ → Written → Recorded
begun_by name recorder w = recorded w.answer (cond (eqb w.answer.refusal 0) (recorder_of name 7 0) recorder) w.tape

unfoldable pub begin_tape : ℕ → ℕ → ℕ → List ℕ → List ℕ → Recorded
begin_tape name capacity workers recorder tape =
    cond (eqb (length recorder) 3) (begun_by name recorder (write_tape name capacity workers [] tape)) (recorded (reply 6 0) recorder tape)

-- A field written at a place of the buffer.
unfoldable pub put_at : ℕ → List ℕ → List ℕ → List ℕ
put_at at field tape = take at tape ++ over field (drop at tape)

-- One entry more, in so many bytes but for the last field: 17 and 16 as the writer of the whole has them.
unfoldable pub append_at : Variant → ℕ → ℕ → List ℕ → ℕ → ℕ → List ℕ → Recorded
append_at v long count recorder first item tape =
    cond (carried first item)
    (cond (ltb (length tape) (long + size_of first + 3)) (recorded (reply 16 (long + size_of first + 3)) recorder tape)
    (recorded (reply 0 (long + size_of first + 3)) (recorder_of (name_of v) (long + size_of first) (count + 1)) (put_at long (entry_field_of v first item) tape)))
    (recorded (reply 17 count) recorder tape)

unfoldable pub append_by : Recorder → List ℕ → ℕ → ℕ → List ℕ → Recorded
append_by Broken recorder first item tape = recorded (reply 6 0) recorder tape
append_by (At v long count) recorder first item tape = append_at v long count recorder first item tape

unfoldable pub append_tape : List ℕ → ℕ → ℕ → List ℕ → Recorded
append_tape recorder first item tape = append_by (recorder_in (length tape) recorder) recorder first item tape

-- The last field, which always has room; the recorder stays, so that more entries may follow over it.
unfoldable pub end_at : Variant → ℕ → List ℕ → Written
end_at v long tape = written (reply 0 (long + 3)) (put_at long (end_of v) tape)

unfoldable pub end_by : Recorder → List ℕ → Written
end_by Broken tape = written (reply 6 0) tape
end_by (At v long count) tape = end_at v long tape

unfoldable pub end_tape : List ℕ → List ℕ → Written
end_tape recorder tape = end_by (recorder_in (length tape) recorder) tape
