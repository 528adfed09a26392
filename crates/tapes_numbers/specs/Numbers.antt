-- Item 5: "two-byte length, big-endian", "the eight-byte item"; "in the second the tag has 128 added and lengths and numbers are
-- little-endian".
use Rattle.std.specs.Prelude.{ℕ, zero, suc, ◌+◌, ◌*◌, ◌/◌, ◌%◌, ◌-◌, List, [], ◌∷◌, reverse}
use Rattle.tapes_numbers.specs.declared.Variant.{Variant}
use Rattle.tapes_numbers.specs.declared.Variant.TheVariants.{BigEndian, LittleEndian}

abbrev pub tag_of : Variant → ℕ → ℕ
tag_of BigEndian tag = tag
tag_of LittleEndian tag = tag + 128

-- The digits of a number, lowest first, as its bytes stand in a tape; and back.
unfoldable pub in_order : Variant → List ℕ → List ℕ
in_order BigEndian ds = reverse ds
in_order LittleEndian ds = ds

-- Where the i-th of so many digits stands, the lowest being the 0-th.
unfoldable pub spot_of : Variant → ℕ → ℕ → ℕ
spot_of BigEndian count i = count - 1 - i
spot_of LittleEndian count i = i

-- So many digits of a number, a byte each, lowest first.
unfoldable pub digits_of : ℕ → ℕ → List ℕ
digits_of zero n = []
digits_of (suc more) n = n % 256 ∷ digits_of more (n / 256)

unfoldable pub value_of : List ℕ → ℕ
value_of [] = 0
value_of (d ∷ ds) = d + 256 * value_of ds

-- A number in so many bytes; the number that bytes are.
unfoldable pub bytes_of : Variant → ℕ → ℕ → List ℕ
bytes_of v count n = in_order v (digits_of count n)

unfoldable pub number_of : Variant → List ℕ → ℕ
number_of v bytes = value_of (in_order v bytes)
