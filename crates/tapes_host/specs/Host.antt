-- What the functions for tapes of the host's face answer, and every lent slice as it is then: item 5's definitions, their answers as two numbers.
use Rattle.std.specs.Prelude.{ℕ, cond, List, [], ◌∷◌, eqb, length}
use Rattle.tapes_numbers.specs.declared.Variant.{Variant}
use Rattle.tapes_numbers.specs.declared.Variant.TheVariants.{BigEndian, LittleEndian}
use Rattle.tapes_numbers.specs.Numbers.{tag_of}
use Rattle.tapes.specs.declared.Writing.{Writing}
use Rattle.tapes.specs.declared.Reading.{Reading}
use Rattle.tapes.specs.declared.Reading.TheVariants.{Refused, Schedule}
use Rattle.tapes.specs.Written as writer
use Rattle.tapes.specs.Written.{write_of, written_of}
use Rattle.tapes.specs.Heard as reader
use Rattle.tapes.specs.Heard.{read_of, read_into}
use Rattle.tapes_host.specs.declared.Reply.{Reply}

abbrev pub reply : ℕ → ℕ → Reply
reply refused value = record { refusal = refused; number = value }

-- A variant's name: the tag of its first field, with which a tape begins.
abbrev pub name_of : Variant → ℕ
name_of v = tag_of v 1

-- ---- the writer: its answer, and the buffer
pub record Written : Type 0 where
  pub answer : Reply
  pub tape : List ℕ

abbrev pub written : Reply → List ℕ → Written
written r tape = record { answer = r; tape = tape }

abbrev pub writing_reply : Writing → Reply
writing_reply w = reply (writer.number_in w) (writer.value_in w)

abbrev pub written_by : Variant → ℕ → ℕ → List ℕ → List ℕ → Written
written_by v capacity workers words tape =
    written (writing_reply (write_of capacity workers words (length tape))) (written_of v capacity workers words tape)

-- 13, "unknown tag": no tape begins so
unfoldable pub write_tape : ℕ → ℕ → ℕ → List ℕ → List ℕ → Written
write_tape name capacity workers words tape =
    cond (eqb name (name_of BigEndian)) (written_by BigEndian capacity workers words tape)
    (cond (eqb name (name_of LittleEndian)) (written_by LittleEndian capacity workers words tape)
    (written (reply 13 0) tape))

-- ---- the reader: its answer, what the tape is about, and the buffer
pub record ReadOut : Type 0 where
  pub answer : Reply
  pub about : List ℕ
  pub schedule : List ℕ

abbrev pub read_out_of : Reply → List ℕ → List ℕ → ReadOut
read_out_of r about schedule = record { answer = r; about = about; schedule = schedule }

abbrev pub reading_reply : Reading → Reply
reading_reply r = reply (reader.number_in r) (reader.value_in r)

abbrev pub about_of : Variant → ℕ → ℕ → List ℕ
about_of v capacity workers = name_of v ∷ capacity ∷ workers ∷ []

abbrev pub about_after : Reading → List ℕ → List ℕ
about_after (Refused number value) about = about
about_after (Schedule v capacity workers count) about = about_of v capacity workers

-- 6 for three words that are not three, as for every slice of a wrong length
unfoldable pub read_tape : List ℕ → List ℕ → List ℕ → ReadOut
read_tape tape about schedule =
    cond (eqb (length about) 3)
    (read_out_of (reading_reply (read_of tape (length schedule))) (about_after (read_of tape (length schedule)) about) (read_into tape schedule))
    (read_out_of (reply 6 0) about schedule)
