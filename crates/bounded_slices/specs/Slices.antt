-- Words that stand for no ring and records are broken, as are those that stand for broken ones.
use Rattle.std.specs.Prelude.{ℕ, Bool, true, false, cond, List, set}
use Rattle.bounded_words.specs.declared.Fixed.{Fixed}
use Rattle.bounded_places.specs.Places.{view_of, fits_of}
use Rattle.bounded_codes.specs.Codes.{place_in, stands_for}
use Rattle.bounded_lent.specs.Lent.{broken_lent}
use Rattle.bounded_rows.specs.Rows.{Words, records_in, metered_in, stand}

-- three words that stand for a place, whose loaded words fit the ring
unfoldable pub fitting : Fixed → ℕ → ℕ → ℕ → Bool
fitting f c a b = cond (stands_for c a b) (fits_of f (view_of (place_in c a b)).held) false

unfoldable pub broken_words : Words → Bool
broken_words w = cond (stand w) (broken_lent (metered_in w) (records_in w.records)) true

unfoldable pub with_fixed : List ℕ → Fixed → List ℕ
with_fixed h f = set (set (set (set h 0 f.mark) 1 f.lap) 2 f.capacity) 3 f.edition
