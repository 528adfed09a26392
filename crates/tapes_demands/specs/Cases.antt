-- The worked example of item 5 in both variants, and tapes and schedules for each refusal, as one table.
use Rattle.std.specs.Prelude.{ℕ, List, [], ◌∷◌, ◌++◌, map, ◌≡◌, replicate}
use Rattle.tapes_numbers.specs.declared.Variant.{Variant}
use Rattle.tapes_numbers.specs.declared.Variant.TheVariants.{BigEndian, LittleEndian}
use Rattle.tapes.specs.declared.Writing.{Writing}
use Rattle.tapes.specs.declared.Writing.TheVariants as writing
use Rattle.tapes.specs.declared.Reading.{Reading}
use Rattle.tapes.specs.declared.Reading.TheVariants as reading
use Rattle.tapes.specs.Written.{write_of, written_of}
use Rattle.tapes.specs.Heard.{read_of, read_into}

-- "01 00 04 00 02 00 01, 02 00 09 00 00 00 00 00 00 00 00 05, 03 00 01 80, 04 00 00 is capacity 2, one worker, push 5, one act."
abbrev pub example : Variant → List ℕ
example BigEndian =
    0x01 ∷ 0x00 ∷ 0x04 ∷ 0x00 ∷ 0x02 ∷ 0x00 ∷ 0x01
    ∷ 0x02 ∷ 0x00 ∷ 0x09 ∷ 0x00 ∷ 0x00 ∷ 0x00 ∷ 0x00 ∷ 0x00 ∷ 0x00 ∷ 0x00 ∷ 0x00 ∷ 0x05
    ∷ 0x03 ∷ 0x00 ∷ 0x01 ∷ 0x80
    ∷ 0x04 ∷ 0x00 ∷ 0x00 ∷ []
example LittleEndian =
    0x81 ∷ 0x04 ∷ 0x00 ∷ 0x02 ∷ 0x00 ∷ 0x01 ∷ 0x00
    ∷ 0x82 ∷ 0x09 ∷ 0x00 ∷ 0x00 ∷ 0x05 ∷ 0x00 ∷ 0x00 ∷ 0x00 ∷ 0x00 ∷ 0x00 ∷ 0x00 ∷ 0x00
    ∷ 0x83 ∷ 0x01 ∷ 0x00 ∷ 0x80
    ∷ 0x84 ∷ 0x00 ∷ 0x00 ∷ []

abbrev pub example_words : List ℕ
example_words = 0 ∷ 5 ∷ 8 ∷ 0 ∷ []

pub record Example (v : Variant) : Type 0 where
  pub answer : write_of 2 1 example_words 30 ≡ writing.Tape 26
  pub written : written_of v 2 1 example_words (replicate 30 255) ≡ example v ++ replicate 4 255
  pub read : read_of (example v) 6 ≡ reading.Schedule v 2 1 4
  pub words : read_into (example v) (replicate 6 9) ≡ example_words ++ replicate 2 9

-- ---- The table: a tape, the buffer's room and what the reader answers; a schedule, the room and what the writer answers.
pub data Case : Type 0 where
  reads : List ℕ → ℕ → Reading → Case
  -- capacity, workers, words, room
  writes : ℕ → ℕ → List ℕ → ℕ → Writing → Case

-- The same case as the definitions have it.
unfoldable pub found : Case → Case
found (reads tape room answer) = reads tape room (read_of tape room)
found (writes capacity workers words room answer) = writes capacity workers words room (write_of capacity workers words room)

abbrev pub first : List ℕ
first = 0x01 ∷ 0x00 ∷ 0x04 ∷ 0x00 ∷ 0x02 ∷ 0x00 ∷ 0x01 ∷ []

abbrev pub act : List ℕ
act = 0x03 ∷ 0x00 ∷ 0x01 ∷ 0x80 ∷ []

abbrev pub end : List ℕ
end = 0x04 ∷ 0x00 ∷ 0x00 ∷ []

abbrev pub refused : List ℕ → ℕ → ℕ → Case
refused tape number byte = reads tape 2 (reading.Refused number byte)

unfoldable pub table : List Case
table =
    -- 12: an empty tape, one cut in its length, in the body of its first field, and one without its end
    refused [] 12 0
    ∷ refused (0x01 ∷ 0x00 ∷ []) 12 0
    ∷ refused (0x01 ∷ 0x00 ∷ 0x04 ∷ 0x00 ∷ []) 12 0
    ∷ refused first 12 7
    ∷ refused (first ++ act) 12 11
    -- 13 precedes a cut body: a wrong length; tags out of place first, tag 1 a second time, an unknown tag
    ∷ refused (0x01 ∷ 0x00 ∷ 0x05 ∷ []) 13 0
    ∷ refused end 13 0
    ∷ refused (act ++ end) 13 0
    ∷ refused (first ++ first ++ end) 13 7
    ∷ refused (first ++ 0x05 ∷ 0x00 ∷ 0x00 ∷ []) 13 7
    ∷ refused (0x00 ∷ 0x00 ∷ 0x00 ∷ []) 13 0
    -- 13: a field of the other variant, a length in the other order, the first field in a mixture of both
    ∷ refused (first ++ 0x84 ∷ 0x00 ∷ 0x00 ∷ []) 13 7
    ∷ refused (first ++ 0x03 ∷ 0x01 ∷ 0x00 ∷ 0x80 ∷ end) 13 7
    ∷ refused (0x81 ∷ 0x00 ∷ 0x04 ∷ 0x00 ∷ 0x02 ∷ 0x00 ∷ 0x01 ∷ end) 13 0
    -- 12 precedes 14: code 2 under tag 2, its item cut and whole; codes 1 and 10 under tag 3
    ∷ refused (first ++ 0x02 ∷ 0x00 ∷ 0x09 ∷ 0x20 ∷ []) 12 7
    ∷ refused (first ++ 0x02 ∷ 0x00 ∷ 0x09 ∷ 0x20 ∷ replicate 8 0) 14 7
    ∷ refused (first ++ 0x03 ∷ 0x00 ∷ 0x01 ∷ 0x10 ∷ end) 14 7
    ∷ refused (first ++ act ++ 0x03 ∷ 0x00 ∷ 0x01 ∷ 0xa0 ∷ end) 14 11
    -- 15, and 16 only for a tape with no other fault
    ∷ refused (first ++ end ++ 0x00 ∷ []) 15 10
    ∷ refused (first ++ act ++ act ++ end ++ end) 15 18
    ∷ refused (first ++ act ++ act ++ end) 16 4
    -- the largest worker and code; capacity and workers are judged when the machine is made
    ∷ reads (first ++ 0x03 ∷ 0x00 ∷ 0x01 ∷ 0x9f ∷ end) 2 (reading.Schedule BigEndian 2 1 2)
    ∷ reads (0x81 ∷ 0x04 ∷ 0x00 ∷ 0x00 ∷ 0x00 ∷ 0xff ∷ 0xff ∷ 0x84 ∷ 0x00 ∷ 0x00 ∷ []) 0 (reading.Schedule LittleEndian 0 65535 0)
    -- the writer: 11, 17, 16
    ∷ writes 65536 1 (8 ∷ []) 0 (writing.Refused 11 0)
    ∷ writes 65536 1 [] 0 (writing.Refused 17 0)
    ∷ writes 1 65536 [] 0 (writing.Refused 17 0)
    ∷ writes 65535 65535 [] 9 (writing.Refused 16 10)
    ∷ writes 65535 65535 [] 10 (writing.Tape 10)
    -- 17: code 10, an item where none may be, worker 16
    ∷ writes 2 1 (8 ∷ 0 ∷ 10 ∷ 0 ∷ []) 0 (writing.Refused 17 1)
    ∷ writes 2 1 (2 ∷ 1 ∷ []) 0 (writing.Refused 17 0)
    ∷ writes 2 1 (8 ∷ 0 ∷ 8 ∷ 0 ∷ 264 ∷ 0 ∷ []) 0 (writing.Refused 17 2)
    ∷ writes 2 1 (248 ∷ 0 ∷ []) 13 (writing.Refused 16 14)
    ∷ writes 2 1 (248 ∷ 0 ∷ 1 ∷ 7 ∷ []) 26 (writing.Tape 26)
    ∷ []

abbrev pub Cases : Type 0
Cases = map found table ≡ table
