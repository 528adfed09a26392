-- Item 5: what the reader answers and writes.
use Rattle.std.specs.Prelude.{ℕ, zero, suc, ◌+◌, cond, List, [], ◌∷◌, ltb, eqb, length, drop}
use Rattle.tapes_numbers.specs.declared.Variant.{Variant}
use Rattle.tapes_fields.specs.declared.Head.{Head}
use Rattle.tapes_fields.specs.declared.Head.TheVariants as head
use Rattle.tapes_fields.specs.declared.Field.{Field}
use Rattle.tapes_fields.specs.declared.Field.TheVariants as field
use Rattle.tapes_fields.specs.Fields.{size_of, over}
use Rattle.tapes_fields.specs.Judged.{head_in, field_in}
use Rattle.tapes.specs.declared.Scan.{Scan}
use Rattle.tapes.specs.declared.Scan.TheVariants as scan
use Rattle.tapes.specs.declared.Reading.{Reading}
use Rattle.tapes.specs.declared.Reading.TheVariants.{Refused, Schedule}

-- The words of a tape's entries; or the number of the first fault, and the byte at which its field begins.
pub data Heard : Type 0 where
  stopped : ℕ → ℕ → Heard
  heard : List ℕ → Heard

-- An entry's two words, and what is heard after it.
unfoldable pub joined : ℕ → ℕ → Heard → Heard
joined first item (stopped number at) = stopped number at
joined first item (heard words) = heard (first ∷ item ∷ words)

-- How many bytes a field has.
unfoldable pub long_of : Field → ℕ
long_of (field.Fault number) = 0
long_of field.End = 3
long_of (field.Entry first item) = size_of first

-- What is heard where this field stands at the start of s, with what is heard after it. 15: "bytes after the end".
unfoldable pub heard_by : ℕ → List ℕ → Field → Heard → Heard
heard_by at s (field.Fault number) after = stopped number at
heard_by at s field.End after = cond (eqb (length s) 3) (heard []) (stopped 15 (at + 3))
heard_by at s (field.Entry first item) after = joined first item after

-- "The reader goes left to right and gives the first fault": so many fields at the most, the first of them at this byte.
unfoldable pub hear_from : ℕ → Variant → ℕ → List ℕ → Heard
hear_from zero v at s = stopped 12 at
hear_from (suc more) v at s =
    heard_by at s (field_in v s) (hear_from more v (at + long_of (field_in v s)) (drop (long_of (field_in v s)) s))

-- After the first field, of 7 bytes.
unfoldable pub hear_in : Variant → List ℕ → Heard
hear_in v s = hear_from (length s) v 7 (drop 7 s)

-- What is heard, as the code has it: its count, and the words themselves.
unfoldable pub count_in : Heard → Scan
count_in (stopped number at) = scan.Fault number at
count_in (heard words) = scan.Words (length words)

unfoldable pub words_in : Heard → List ℕ
words_in (stopped number at) = []
words_in (heard words) = words

-- "the reader gives 16 only for a tape with no other fault"; its value is the count that there would be.
unfoldable pub read_by : ℕ → Variant → ℕ → ℕ → Scan → Reading
read_by room v capacity workers (scan.Fault number at) = Refused number at
read_by room v capacity workers (scan.Words count) = cond (ltb room count) (Refused 16 count) (Schedule v capacity workers count)

unfoldable pub read_after : List ℕ → ℕ → Head → Reading
read_after s room (head.Fault number) = Refused number 0
read_after s room (head.Makes v capacity workers) = read_by room v capacity workers (count_in (hear_in v s))

unfoldable pub read_of : List ℕ → ℕ → Reading
read_of s room = read_after s room (head_in s)

-- "A refusal writes nothing to the output buffer."
unfoldable pub taken : Reading → List ℕ → List ℕ
taken (Refused number value) s = []
taken (Schedule v capacity workers count) s = words_in (hear_in v s)

unfoldable pub read_into : List ℕ → List ℕ → List ℕ
read_into s buffer = over (taken (read_of s (length buffer)) s) buffer

-- The paper's number of an answer, 0 for none, and its value: the byte, or the count of words.
unfoldable pub number_in : Reading → ℕ
number_in (Refused number value) = number
number_in (Schedule v capacity workers count) = 0

unfoldable pub value_in : Reading → ℕ
value_in (Refused number value) = value
value_in (Schedule v capacity workers count) = count
