-- Item 5: the tape of a schedule, and what the writer answers and writes.
use Rattle.std.specs.Prelude.{ℕ, ◌+◌, ◌%◌, cond, List, [], ◌∷◌, ◌++◌, ltb, eqb, length}
use Rattle.tapes_numbers.specs.declared.Variant.{Variant}
use Rattle.tapes_fields.specs.Fields.{head_of, entry_field_of, size_of, end_of, over}
use Rattle.tapes_fields.specs.Judged.{carried}
use Rattle.tapes.specs.declared.Load.{Load}
use Rattle.tapes.specs.declared.Load.TheVariants.{Unfit, Bytes}
use Rattle.tapes.specs.declared.Writing.{Writing}
use Rattle.tapes.specs.declared.Writing.TheVariants.{Refused, Tape}

-- An entry is two words (document 01, "Schedules").
unfoldable pub entries_of : Variant → List ℕ → List ℕ
entries_of v [] = []
entries_of v (first ∷ []) = []
entries_of v (first ∷ item ∷ rest) = entry_field_of v first item ++ entries_of v rest

-- Tag 1 "first and once", tag 4 "and nothing after it"; "a tape keeps one variant throughout".
unfoldable pub tape_of : Variant → ℕ → ℕ → List ℕ → List ℕ
tape_of v capacity workers words = head_of v capacity workers ++ entries_of v words ++ end_of v

-- The length of the entries' fields, added to what is there; or the place, from 0, of the first entry that "the tape can't carry".
unfoldable pub load_from : ℕ → ℕ → List ℕ → Load
load_from place long [] = Bytes long
load_from place long (first ∷ []) = Bytes long
load_from place long (first ∷ item ∷ rest) =
    cond (carried first item) (load_from (place + 1) (long + size_of first) rest) (Unfit place)

-- what two bytes hold: "a capacity or worker count above 65,535"
abbrev pub most : ℕ
most = 65535

-- 16: "output buffer too short"; its value is the length that there would be.
unfoldable pub fitted : ℕ → Load → Writing
fitted room (Unfit place) = Refused 17 place
fitted room (Bytes long) = cond (ltb room long) (Refused 16 long) (Tape long)

-- "The writer checks 11, 17, 16 in that order." Of the whole schedule: place 0. First and last field have 7 and 3 bytes.
unfoldable pub write_of : ℕ → ℕ → List ℕ → ℕ → Writing
write_of capacity workers words room =
    cond (eqb (length words % 2) 1) (Refused 11 0)
    (cond (ltb most capacity) (Refused 17 0)
    (cond (ltb most workers) (Refused 17 0)
    (fitted room (load_from 0 10 words))))

-- "A refusal writes nothing to the output buffer."
unfoldable pub accepted : Writing → List ℕ → List ℕ
accepted (Refused number value) tape = []
accepted (Tape count) tape = tape

unfoldable pub written_of : Variant → ℕ → ℕ → List ℕ → List ℕ → List ℕ
written_of v capacity workers words buffer =
    over (accepted (write_of capacity workers words (length buffer)) (tape_of v capacity workers words)) buffer

-- The paper's number of an answer, 0 for none, and its value: the entry's place, or the count of bytes.
unfoldable pub number_in : Writing → ℕ
number_in (Refused number value) = number
number_in (Tape count) = 0

unfoldable pub value_in : Writing → ℕ
value_in (Refused number value) = value
value_in (Tape count) = count
