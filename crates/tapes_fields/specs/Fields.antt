-- Item 5: the fields that a tape is made of, as they are written.
use Rattle.std.specs.Prelude.{ℕ, ◌+◌, ◌*◌, ◌/◌, ◌%◌, cond, List, [], ◌∷◌, ◌++◌, ltb, length, drop}
use Rattle.tapes_numbers.specs.declared.Variant.{Variant}
use Rattle.tapes_numbers.specs.Numbers.{tag_of, bytes_of}

-- "tagged fields, one-byte tag, two-byte length"
unfoldable pub opening_of : Variant → ℕ → ℕ → List ℕ
opening_of v tag long = tag_of v tag ∷ bytes_of v 2 long

unfoldable pub field_of : Variant → ℕ → List ℕ → List ℕ
field_of v tag body = opening_of v tag (length body) ++ body

-- "Tag 1, length 4: capacity, then workers, two bytes each"
unfoldable pub head_of : Variant → ℕ → ℕ → List ℕ
head_of v capacity workers = field_of v 1 (bytes_of v 2 capacity ++ bytes_of v 2 workers)

-- The two halves of a byte in the other order: an entry's first word is 16 × worker + code, and its byte has "the code in its high
-- and the worker in its low half".
unfoldable pub swapped : ℕ → ℕ
swapped b = 16 * (b % 16) + b / 16

-- "Tag 2 .. for codes 0 and 1. Tag 3 .. for the other codes up to 9."
unfoldable pub tag_for : ℕ → ℕ
tag_for code = cond (ltb code 2) 2 3

-- "Tag 2, length 9: a byte .., then the eight-byte item"; "Tag 3, length 1: the same byte"
unfoldable pub item_long : ℕ → ℕ
item_long code = cond (ltb code 2) 8 0

unfoldable pub body_of : Variant → ℕ → ℕ → List ℕ
body_of v first item = swapped first ∷ bytes_of v (item_long (first % 16)) item

unfoldable pub entry_field_of : Variant → ℕ → ℕ → List ℕ
entry_field_of v first item = field_of v (tag_for (first % 16)) (body_of v first item)

-- "Tag 4, length 0: end"
unfoldable pub end_of : Variant → List ℕ
end_of v = field_of v 4 []

-- Written at a buffer's start; the rest untouched.
unfoldable pub over : List ℕ → List ℕ → List ℕ
over written buffer = written ++ drop (length written) buffer

-- the length of an entry's field: tag and length, byte, item
unfoldable pub size_of : ℕ → ℕ
size_of first = 4 + item_long (first % 16)
