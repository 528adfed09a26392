-- The reader of tapes with a slip at one point, all else as it is; and both functions with one.
use Rattle.std.specs.Prelude.{ℕ, ◌+◌, cond, List, ◌++◌, ◌≡◌, eqb, ltb, take, drop}
use Rattle.tapes.specs.declared.Reading.{Reading}
use Rattle.tapes.specs.declared.Reading.TheVariants.{Refused, Schedule}
use Rattle.tapes.specs.declared.Writing.{Writing}
use Rattle.tapes.specs.declared.Writing.TheVariants as writing
use Rattle.tapes_fields.specs.Fields.{over}
use Rattle.tapes.specs.Written.{tape_of, write_of, written_of}
use Rattle.tapes.specs.Heard.{read_of, read_into}
use Rattle.tapes_host.specs.Host.{reply, Written, written}
use Rattle.tapes_host.specs.Recorder.{Recorded, recorded, recorder_of, begin_tape, append_tape, end_tape}
use Rattle.tapes_demands.specs.Demands.{TapeFace}
use Rattle.tapes_demands.specs.Recording.{RecorderFace}

abbrev pub none : ℕ
none = 0

-- a code out of place is reported only where no later field has a fault
abbrev pub codes_last : ℕ
codes_last = 1

-- a first field that is cut, or of another tag, is reported at the byte after its tag
abbrev pub after_its_tag : ℕ
after_its_tag = 2

-- bytes after the end are passed over
abbrev pub end_is_enough : ℕ
end_is_enough = 3

-- a tape that asks for more words than there is room for is refused by 16, whatever else is wrong with it
abbrev pub room_first : ℕ
room_first = 4

-- What is read where the field of 4 bytes at this one is left out.
abbrev without : ℕ → List ℕ → List ℕ
without byte s = take byte s ++ drop (byte + 4) s

-- The fault found, but for one further on.
abbrev or_later : Reading → Reading → Reading
or_later found (Refused number byte) = Refused number (byte + 4)
or_later found (Schedule v capacity workers count) = found

-- With slip number n, where document 02's reader answers this.
abbrev pub amiss : ℕ → List ℕ → ℕ → Reading → Reading
amiss n s room (Refused number value) =
    cond (eqb n codes_last) (cond (eqb number 14) (or_later (Refused number value) (read_of (without value s) room)) (Refused number value))
    (cond (eqb n after_its_tag) (cond (eqb value 0) (Refused number 1) (Refused number value))
    (cond (eqb n end_is_enough) (cond (eqb number 15) (read_of (take value s) room) (Refused number value))
    (cond (eqb n room_first) (cond (ltb room 1) (Refused 16 1) (Refused number value))
    (Refused number value))))
amiss n s room (Schedule v capacity workers count) = Schedule v capacity workers count

abbrev pub read_with : ℕ → List ℕ → ℕ → Reading
read_with n s room = amiss n s room (read_of s room)

-- ---- the writer and the reader with a slip

-- the tape is written although it is refused
abbrev pub refused_writes : ℕ
refused_writes = 5

-- a schedule with half an entry at its end is refused by 12
abbrev pub odd_by_twelve : ℕ
odd_by_twelve = 6

-- one byte more is reported than the tape has
abbrev pub one_more_act : ℕ
one_more_act = 7

-- the reader takes capacity and workers for each other
abbrev pub workers_first : ℕ
workers_first = 8

-- every tape is one of one worker
abbrev pub teamless : ℕ
teamless = 9

-- writer and reader refuse everything
abbrev pub refuses_all : ℕ
refuses_all = 10

abbrev pub reported : ℕ → Writing → Writing
reported n (writing.Refused number value) = cond (eqb n odd_by_twelve) (cond (eqb number 11) (writing.Refused 12 value) (writing.Refused number value)) (writing.Refused number value)
reported n (writing.Tape count) = cond (eqb n one_more_act) (writing.Tape (count + 1)) (cond (eqb n refuses_all) (writing.Refused 17 0) (writing.Tape count))

abbrev pub turned : ℕ → Reading → Reading
turned n (Refused number value) = Refused number value
turned n (Schedule v capacity workers count) =
    cond (eqb n workers_first) (Schedule v workers capacity count) (cond (eqb n refuses_all) (Refused 12 0) (Schedule v capacity workers count))

abbrev pub face_with : ℕ → TapeFace
face_with n =
    record {
      write = λ capacity workers words room. reported n (write_of capacity workers words room);
      written = λ v capacity workers words buffer. cond (eqb n refused_writes) (over (tape_of v capacity workers words) buffer) (written_of v capacity workers words buffer);
      tape = λ v capacity workers words. cond (eqb n teamless) (tape_of v capacity 1 words) (tape_of v capacity workers words);
      read = λ s room. turned n (read_of s room);
      into = read_into;
    }

-- ---- a recorder with a slip

-- a begin leaves the buffer as it was
abbrev pub unbegun : ℕ
unbegun = 11

-- every entry that is refused is said to be the first
abbrev pub placeless : ℕ
placeless = 12

-- an end is answered and not written
abbrev pub endless : ℕ
endless = 13

-- an entry more is not counted, so that the recorder's words are none's
abbrev pub uncounted : ℕ
uncounted = 14

-- a begin that is refused leaves the words of a recorder
abbrev pub words_first : ℕ
words_first = 15

-- words that are no recorder's are refused by 12
abbrev pub broken_by_twelve : ℕ
broken_by_twelve = 16

abbrev pub begun_with : ℕ → ℕ → List ℕ → Recorded → Recorded
begun_with n name tape r =
    cond (eqb n unbegun) (recorded r.answer r.recorder tape)
    (cond (eqb n words_first) (recorded r.answer (recorder_of name 7 0) r.tape) r)

abbrev pub appended_with : ℕ → List ℕ → Recorded → Recorded
appended_with n before r =
    cond (eqb n placeless) (recorded (cond (eqb r.answer.refusal 17) (reply 17 0) r.answer) r.recorder r.tape)
    (cond (eqb n uncounted) (recorded r.answer (take 2 r.recorder ++ drop 2 before) r.tape) r)

abbrev pub ended_with : ℕ → List ℕ → Written → Written
ended_with n tape w =
    cond (eqb n endless) (written w.answer tape)
    (cond (eqb n broken_by_twelve) (written (cond (eqb w.answer.refusal 6) (reply 12 0) w.answer) w.tape) w)

abbrev pub recorder_with : ℕ → RecorderFace
recorder_with n =
    record {
      begin = λ name capacity workers recorder tape. begun_with n name tape (begin_tape name capacity workers recorder tape);
      append = λ recorder first item tape. appended_with n recorder (append_tape recorder first item tape);
      end = λ recorder tape. ended_with n tape (end_tape recorder tape);
    }

-- With none they are document 02's.
pub record Faithful : Type 0 where
  pub read : (s : List ℕ) (room : ℕ) → read_with none s room ≡ read_of s room
  pub face : (capacity workers : ℕ) (words : List ℕ) (room : ℕ) → (face_with none).write capacity workers words room ≡ write_of capacity workers words room
  pub face_read : (s : List ℕ) (room : ℕ) → (face_with none).read s room ≡ read_of s room
  pub begin : (name capacity workers : ℕ) (recorder tape : List ℕ) → (recorder_with none).begin name capacity workers recorder tape ≡ begin_tape name capacity workers recorder tape
  pub append : (recorder : List ℕ) (first item : ℕ) (tape : List ℕ) → (recorder_with none).append recorder first item tape ≡ append_tape recorder first item tape
  pub end : (recorder tape : List ℕ) → (recorder_with none).end recorder tape ≡ end_tape recorder tape
