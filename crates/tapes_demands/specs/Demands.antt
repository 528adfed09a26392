-- What item 5 asks of tapes. Proved in proofs/ here and in crates/tapes_proof_round_trip, whose Headlines.antt has all together.
-- That anything handed in gets an answer is what `write` and `read` of crate tapes promise: neither has a `requires`, and answer and
-- buffer are each equal to a definition. What follows speaks of these definitions.
use Rattle.std.specs.Prelude.{ℕ, ◌+◌, ◌-◌, ◌/◌, ◌%◌, ◌<◌, ◌≤◌, ◌^◌, false, List, [], ◌∷◌, ◌++◌, ◌⊎◌, ◌≡◌, length, take, drop}
use Rattle.tapes_numbers.specs.declared.Variant.{Variant}
use Rattle.tapes.specs.declared.Writing.{Writing}
use Rattle.tapes.specs.declared.Writing.TheVariants.{Tape}
use Rattle.tapes.specs.declared.Writing.TheVariants as refusal
use Rattle.tapes.specs.declared.Reading.{Reading}
use Rattle.tapes.specs.declared.Reading.TheVariants as reading
use Rattle.tapes_fields.specs.declared.Head.TheVariants as head
use Rattle.tapes_fields.specs.declared.Field.TheVariants as field
use Rattle.tapes_fields.specs.Fields.{head_of, end_of}
use Rattle.tapes_fields.specs.Judged.{head_in, field_in, carried}
use Rattle.tapes.specs.Written.{most, entries_of, tape_of, write_of, written_of}
use Rattle.tapes.specs.Written as writing
use Rattle.tapes.specs.Heard.{read_of, read_into}
use Rattle.tapes.specs.Heard as heard
use Rattle.tapes_demands.specs.Notions.{Below, OneOf, entries_long, Carriable, writing_of, about_of, reading_of}

-- The functions: what the writer answers, what is in the buffer after it, and the tape; what the reader answers, and what is in the buffer after it. What is asked is said of any, so that it can be said of
-- some with a slip.
pub record TapeFace : Type 0 where
  pub write : ℕ → ℕ → List ℕ → ℕ → Writing
  pub written : Variant → ℕ → ℕ → List ℕ → List ℕ → List ℕ
  pub tape : Variant → ℕ → ℕ → List ℕ → List ℕ
  pub read : List ℕ → ℕ → Reading
  pub into : List ℕ → List ℕ → List ℕ

-- Crate tapes's.
abbrev pub item5 : TapeFace
item5 = record { write = write_of; written = written_of; tape = tape_of; read = read_of; into = read_into }

-- "A refusal writes nothing to the output buffer."
pub record RefusedUnchangedBy (f : TapeFace) : Type 0 where
  pub write : (v : Variant) (capacity workers : ℕ) (words buffer : List ℕ)
      → (writing.number_in (f.write capacity workers words (length buffer)) ≡ 0 → ⊥) → f.written v capacity workers words buffer ≡ buffer
  pub read : (s buffer : List ℕ) → (heard.number_in (f.read s (length buffer)) ≡ 0 → ⊥) → f.into s buffer ≡ buffer

abbrev pub RefusedUnchanged : Type 0
RefusedUnchanged = RefusedUnchangedBy item5

-- The refusals of the writer, and those of the reader.
pub record NumberedBy (f : TapeFace) : Type 0 where
  pub write : (capacity workers : ℕ) (words : List ℕ) (room : ℕ) → OneOf (writing.number_in (f.write capacity workers words room)) (0 ∷ 11 ∷ 17 ∷ 16 ∷ [])
  pub read : (s : List ℕ) (room : ℕ) → OneOf (heard.number_in (f.read s room)) (0 ∷ 12 ∷ 13 ∷ 14 ∷ 15 ∷ 16 ∷ [])

abbrev pub Numbered : Type 0
Numbered = NumberedBy item5

-- Only one answer and one buffer meet a promise.
pub record OnlyOne : Type 0 where
  pub write : (v : Variant) (capacity workers : ℕ) (words before : List ℕ) (x y : Writing) (a b : List ℕ)
      → (x ≡ write_of capacity workers words (length before)) × (a ≡ written_of v capacity workers words before)
      → (y ≡ write_of capacity workers words (length before)) × (b ≡ written_of v capacity workers words before) → (x ≡ y) × (a ≡ b)
  pub read : (s before : List ℕ) (x y : Reading) (a b : List ℕ)
      → (x ≡ read_of s (length before)) × (a ≡ read_into s before) → (y ≡ read_of s (length before)) × (b ≡ read_into s before) → (x ≡ y) × (a ≡ b)

-- "Where an answer is an enum, a definition gives this paper's number and values for each of the enum's cases": there and back, inverse to each other. (No answer is a refusal by 0.) Of any numbers
-- of the cases, so that it can be said of some with a slip; it is met by `number_in` of the writer's and the reader's answers.
pub record EnumsBothWays (number_written : Writing → ℕ) (number_read : Reading → ℕ) : Type 0 where
  pub write : (a : Writing) → ((value : ℕ) → a ≡ refusal.Refused 0 value → ⊥) → writing_of (number_written a) (writing.value_in a) ≡ a
  pub write_kept : (number value : ℕ) → (number_written (writing_of number value) ≡ number) × (writing.value_in (writing_of number value) ≡ value)
  pub read : (a : Reading) → ((value : ℕ) → a ≡ reading.Refused 0 value → ⊥) → reading_of (number_read a) (about_of a) (heard.value_in a) ≡ a
  pub read_kept : (number value : ℕ) (about : Variant × ℕ × ℕ) → (number_read (reading_of number about value) ≡ number) × (heard.value_in (reading_of number about value) ≡ value)
  pub about_kept : (value : ℕ) (about : Variant × ℕ × ℕ) → about_of (reading_of 0 about value) ≡ about

-- "The reader goes left to right and gives the first fault." Of any reader, so that it can be said of one with a slip; it is met by `read_of`.
pub record FirstFault (read : List ℕ → ℕ → Reading) : Type 0 where
  -- The first field's fault is the answer, at byte 0.
  pub first : (s : List ℕ) (room number : ℕ) → head_in s ≡ head.Fault number → read s room ≡ reading.Refused number 0
  -- Where the bytes before a place are a tape once an end is put behind them, the fault of the field there is the answer, at that place: whatever follows it, and whatever room there is.
  pub later : (s rest : List ℕ) (v : Variant) (capacity workers space n room number : ℕ) → Below 256 s → read (s ++ end_of v) space ≡ reading.Schedule v capacity workers n
      → field_in v rest ≡ field.Fault number → read (s ++ rest) room ≡ reading.Refused number (length s)
  -- The same of bytes after the end.
  pub past : (s more : List ℕ) (v : Variant) (capacity workers space n room b : ℕ) → Below 256 s → read (s ++ end_of v) space ≡ reading.Schedule v capacity workers n
      → read (s ++ (end_of v ++ b ∷ more)) room ≡ reading.Refused 15 (length s + 3)
  -- "the reader gives 16 only for a tape with no other fault"
  pub short : (s : List ℕ) (room count : ℕ) → read s room ≡ reading.Refused 16 count
      → (v : Variant) × (capacity : ℕ) × (workers : ℕ) × (read s count ≡ reading.Schedule v capacity workers count)

-- "The writer checks 11, 17, 16 in that order", each given exactly then, and what is left is written: so of no writer that refuses more. Of any writer; met by `item5`.
pub record WriterOrderBy (f : TapeFace) : Type 0 where
  pub odd : (capacity workers : ℕ) (words : List ℕ) (room : ℕ) → length words % 2 ≡ 1 → f.write capacity workers words room ≡ refusal.Refused 11 0
  pub large : (capacity workers : ℕ) (words : List ℕ) (room : ℕ) → length words % 2 ≡ 0 → (most < capacity) ⊎ (most < workers) → f.write capacity workers words room ≡ refusal.Refused 17 0
  -- the first entry that the tape can't carry
  pub uncarried : (capacity workers : ℕ) (words : List ℕ) (first item : ℕ) (rest : List ℕ) (room : ℕ) → Carriable capacity workers words → length rest % 2 ≡ 0 → carried first item ≡ false
      → f.write capacity workers (words ++ first ∷ item ∷ rest) room ≡ refusal.Refused 17 (length words / 2)
  pub short : (capacity workers : ℕ) (words : List ℕ) (room : ℕ) → Carriable capacity workers words → room < 10 + entries_long words
      → f.write capacity workers words room ≡ refusal.Refused 16 (10 + entries_long words)
  pub written : (capacity workers : ℕ) (words : List ℕ) (room : ℕ) → Carriable capacity workers words → 10 + entries_long words ≤ room
      → f.write capacity workers words room ≡ Tape (10 + entries_long words)

abbrev pub WriterOrder : Type 0
WriterOrder = WriterOrderBy item5

-- Every tape of a schedule that can be carried is read, as that schedule: so of no reader that refuses more.
abbrev pub EveryTapeReadBy : TapeFace → Type 0
EveryTapeReadBy f =
    (v : Variant) (capacity workers : ℕ) (words lent : List ℕ) → Carriable capacity workers words → Below (2 ^ 64) words → length words ≤ length lent
    → (f.read (f.tape v capacity workers words) (length lent) ≡ reading.Schedule v capacity workers (length words))
    × (take (length words) (f.into (f.tape v capacity workers words) lent) ≡ words)

abbrev pub EveryTapeRead : Type 0
EveryTapeRead = EveryTapeReadBy item5

-- An accepted tape is as long as its answer says and as its entries say, stands at the buffer's start, and past it nothing changes.
abbrev pub LengthBy : TapeFace → Type 0
LengthBy f =
    (v : Variant) (capacity workers : ℕ) (words buffer : List ℕ) (n : ℕ) → f.write capacity workers words (length buffer) ≡ Tape n
    → (n ≡ length (f.tape v capacity workers words)) × (n ≡ 10 + entries_long words) × (n ≤ length buffer)
    × (take n (f.written v capacity workers words buffer) ≡ f.tape v capacity workers words)
    × (drop n (f.written v capacity workers words buffer) ≡ drop n buffer)

abbrev pub Length : Type 0
Length = LengthBy item5

-- "Reading what was written gives the same entries, for both variants": and the same capacity and workers, or refusal 16.
pub record ReadBackBy (f : TapeFace) (v : Variant) (capacity workers : ℕ) (words buffer : List ℕ) (n : ℕ) : Type 0 where
  pub fits : (lent : List ℕ) → length words ≤ length lent
      → (f.read (take n (f.written v capacity workers words buffer)) (length lent) ≡ reading.Schedule v capacity workers (length words))
      × (take (length words) (f.into (take n (f.written v capacity workers words buffer)) lent) ≡ words)
      × (drop (length words) (f.into (take n (f.written v capacity workers words buffer)) lent) ≡ drop (length words) lent)
  pub short : (room : ℕ) → room < length words
      → f.read (take n (f.written v capacity workers words buffer)) room ≡ reading.Refused 16 (length words)

abbrev pub ReadBack : Variant → ℕ → ℕ → List ℕ → List ℕ → ℕ → Type 0
ReadBack = ReadBackBy item5

abbrev pub ReadingWhatWasWrittenBy : TapeFace → Type 0
ReadingWhatWasWrittenBy f =
    (v : Variant) (capacity workers : ℕ) (words buffer : List ℕ) (n : ℕ) → Below (2 ^ 64) words
    → f.write capacity workers words (length buffer) ≡ Tape n → ReadBackBy f v capacity workers words buffer n

abbrev pub ReadingWhatWasWritten : Type 0
ReadingWhatWasWritten = ReadingWhatWasWrittenBy item5

-- Writing what was read gives the same bytes: every tape that is read is the one that the writer makes.
abbrev pub WritingWhatWasReadBy : TapeFace → Type 0
WritingWhatWasReadBy f =
    (s lent : List ℕ) (v : Variant) (capacity workers n : ℕ) → Below 256 s → f.read s (length lent) ≡ reading.Schedule v capacity workers n
    → (buffer : List ℕ) → length s ≤ length buffer
    → (f.write capacity workers (take n (f.into s lent)) (length buffer) ≡ Tape (length s))
    × (take (length s) (f.written v capacity workers (take n (f.into s lent)) buffer) ≡ s)

abbrev pub WritingWhatWasRead : Type 0
WritingWhatWasRead = WritingWhatWasReadBy item5

-- Two different schedules, or variants, have different tapes.
abbrev pub DifferentTapesBy : TapeFace → Type 0
DifferentTapesBy f =
    (v u : Variant) (capacity size workers team : ℕ) (words others : List ℕ) (room space n m : ℕ) → Below (2 ^ 64) words → Below (2 ^ 64) others
    → f.write capacity workers words room ≡ Tape n → f.write size team others space ≡ Tape m
    → f.tape v capacity workers words ≡ f.tape u size team others
    → (v ≡ u) × (capacity ≡ size) × (workers ≡ team) × (words ≡ others)

abbrev pub DifferentTapes : Type 0
DifferentTapes = DifferentTapesBy item5

-- ---- Beside what is asked: what programs tape and replay rest on, which go piece by piece in a fixed amount of memory.

-- The tape of a schedule in two pieces has the entries of the one and then those of the other.
abbrev pub WrittenByPieces : Type 0
WrittenByPieces =
    (v : Variant) (capacity workers : ℕ) (words more : List ℕ) → length words % 2 ≡ 0
    → tape_of v capacity workers (words ++ more) ≡ head_of v capacity workers ++ entries_of v words ++ entries_of v more ++ end_of v

-- Where the bytes before a place are a tape once an end is put behind them, the whole is read as the rest is with the first field
-- before it: the same refusal, so much further on, or its words after those of the first piece.
pub record ReadByPieces (s rest : List ℕ) (v : Variant) (capacity workers : ℕ) (lent : List ℕ) (n : ℕ) : Type 0 where
  pub refused : (room number byte : ℕ) → (number ≡ 16 → ⊥) → read_of (head_of v capacity workers ++ rest) room ≡ reading.Refused number byte
      → read_of (s ++ rest) room ≡ reading.Refused number (byte + (length s - 7))
  pub read : (buffer : List ℕ) (m : ℕ) → read_of (head_of v capacity workers ++ rest) (length buffer) ≡ reading.Schedule v capacity workers m
      → (whole : List ℕ) → n + m ≤ length whole
      → (read_of (s ++ rest) (length whole) ≡ reading.Schedule v capacity workers (n + m))
      × (take (n + m) (read_into (s ++ rest) whole) ≡ take n (read_into (s ++ end_of v) lent) ++ take m (read_into (head_of v capacity workers ++ rest) buffer))

abbrev pub ReadingByPieces : Type 0
ReadingByPieces =
    (s rest : List ℕ) (v : Variant) (capacity workers : ℕ) (lent : List ℕ) (n : ℕ) → Below 256 s
    → read_of (s ++ end_of v) (length lent) ≡ reading.Schedule v capacity workers n → ReadByPieces s rest v capacity workers lent n
