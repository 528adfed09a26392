-- Notions that the statements use.
use Rattle.std.specs.Prelude.{ℕ, ◌+◌, ◌%◌, ◌<◌, ◌≤◌, true, cond, List, [], ◌∷◌, ◌⊎◌, ◌≡◌, ltb, eqb, length}
use Rattle.tapes_numbers.specs.declared.Variant.{Variant}
use Rattle.tapes_numbers.specs.declared.Variant.TheVariants.{BigEndian}
use Rattle.tapes_fields.specs.Judged.{carried}
use Rattle.tapes.specs.Written.{most}
use Rattle.tapes.specs.declared.Writing.{Writing}
use Rattle.tapes.specs.declared.Writing.TheVariants as writing
use Rattle.tapes.specs.declared.Reading.{Reading}
use Rattle.tapes.specs.declared.Reading.TheVariants as reading

-- Each number of a list below a bound: bytes, and words of 64 bits.
abbrev pub Below : ℕ → List ℕ → Type 0
Below bound [] = Unit {0}
Below bound (x ∷ xs) = (x < bound) × Below bound xs

abbrev pub OneOf : ℕ → List ℕ → Type 0
OneOf n [] = ⊥
OneOf n (x ∷ xs) = (n ≡ x) ⊎ OneOf n xs

-- An entry takes 12 bytes with an item, for codes 0 and 1, and 4 without.
unfoldable pub entries_long : List ℕ → ℕ
entries_long [] = 0
entries_long (first ∷ []) = 0
entries_long (first ∷ item ∷ rest) = cond (ltb (first % 16) 2) 12 4 + entries_long rest

-- A tape can carry each entry.
abbrev pub Carries : List ℕ → Type 0
Carries [] = Unit {0}
Carries (first ∷ []) = Unit {0}
Carries (first ∷ item ∷ rest) = (carried first item ≡ true) × Carries rest

-- What the writer takes: whole entries, a capacity and a number of workers that two bytes hold, entries that a tape can carry.
pub record Carriable (capacity workers : ℕ) (words : List ℕ) : Type 0 where
  pub whole : length words % 2 ≡ 0
  pub narrow : capacity ≤ most
  pub few : workers ≤ most
  pub carries : Carries words

-- ---- an answer of its number and values: the way back from `number_in` and `value_in` (crates/tapes/specs)

abbrev pub writing_of : ℕ → ℕ → Writing
writing_of number value = cond (eqb number 0) (writing.Tape value) (writing.Refused number value)

-- Of a tape that was read: variant, capacity and workers. (A refusal is about none, and has the first variant and zeros here.)
abbrev pub about_of : Reading → Variant × ℕ × ℕ
about_of (reading.Refused number value) = (BigEndian, 0, 0)
about_of (reading.Schedule v capacity workers count) = (v, capacity, workers)

abbrev pub reading_of : ℕ → Variant × ℕ × ℕ → ℕ → Reading
reading_of number about value = cond (eqb number 0) (reading.Schedule about.0 about.1 about.2 value) (reading.Refused number value)
