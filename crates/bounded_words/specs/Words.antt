-- "The words" of document 01, in its order.
use Rattle.std.specs.Prelude.{◌≡◌, ℕ, zero, suc, ◌+◌, ◌-◌, ◌*◌, ◌/◌, ◌%◌, ◌^◌, ◌<◌, ◌≤◌, Bool, cond, ◌==◌, nat_lt}
use Rattle.bounded_words.specs.Limits.{wide, narrow}
use Rattle.bounded_words.specs.declared.Stamp.{Stamp}
use Rattle.bounded_words.specs.declared.Claim.{Claim}
use Rattle.bounded_words.specs.declared.Fixed.{Fixed}
use Rattle.bounded_words.specs.declared.Width.{Width}
use Rattle.bounded_words.specs.declared.Width.TheVariants.{Sixteen, SixtyFour}

abbrev pub stamp : ℕ → Stamp
stamp n = record { 0 = n }

abbrev pub claim : ℕ → Claim
claim n = record { 0 = n }

-- the first of m, 2 * m, 4 * m, .. that is not below n, within so many doublings
unfoldable pub doubled : ℕ → ℕ → ℕ → ℕ
doubled zero n m = m
doubled (suc more) n m = cond (nat_lt m n) (doubled more n (m * 2)) m

-- mark = smallest power of two not below capacity + 1 (`mark_is` of proofs/Marks.antt says so in so many words)
unfoldable pub mark_of : ℕ → ℕ
mark_of capacity = doubled (capacity + 1) (capacity + 1) 1

-- lap = 2 × mark
abbrev pub lap_of : ℕ → ℕ
lap_of capacity = 2 * mark_of capacity

abbrev pub fixed_of : ℕ → ℕ → Fixed
fixed_of capacity edition = record { mark = mark_of capacity; lap = lap_of capacity; capacity = capacity; edition = edition }

-- Index of a word: its part below mark.
abbrev pub index_of : Fixed → Stamp → ℕ
index_of f w = w.0 % f.mark

-- Mark set.
unfoldable pub marked_of : Fixed → Stamp → Bool
marked_of f w = w.0 / f.mark % 2 == 1

unfoldable pub unmarked_of : Fixed → Stamp → Stamp
unmarked_of f w = cond (marked_of f w) (stamp (w.0 - f.mark)) w

-- How many words there are of each width.
abbrev pub width_of : Width → ℕ
width_of Sixteen = narrow
width_of SixtyFour = wide

-- "Everywhere in this paper a lap is added and taken away modulo 2 to the power 64"; of sixteen bits "all stamp sums are modulo 65,536" (document 02, item 14).
unfoldable pub plus : Width → Stamp → ℕ → Stamp
plus bits w n = stamp ((w.0 + n) % width_of bits)

unfoldable pub minus : Width → Stamp → ℕ → Stamp
minus bits w n = stamp ((w.0 + (width_of bits - n % width_of bits)) % width_of bits)

-- What `fetch_or` of mark leaves.
unfoldable pub with_mark : Width → Fixed → Stamp → Stamp
with_mark bits f w = cond (marked_of f w) w (plus bits w f.mark)

-- next(w), w unmarked: w + 1 if index + 1 < capacity, else w with index cleared plus lap.
unfoldable pub next_of : Width → Fixed → Stamp → Stamp
next_of bits f w =
    cond (nat_lt (index_of f w + 1) f.capacity) (plus bits w 1)
    (plus bits (stamp (w.0 - index_of f w)) f.lap)

-- The four tests of the tables: a = b, s = h + 1, h + lap = t, s + lap = t + 1.
unfoldable pub same : Stamp → Stamp → Bool
same a b = a.0 == b.0

unfoldable pub one_past : Width → Stamp → Stamp → Bool
one_past bits s h = same s (plus bits h 1)

unfoldable pub lap_behind : Width → Fixed → Stamp → Stamp → Bool
lap_behind bits f h t = same (plus bits h f.lap) t

unfoldable pub lap_behind_one_past : Width → Fixed → Stamp → Stamp → Bool
lap_behind_one_past bits f s t = lap_behind bits f s (plus bits t 1)

-- What the functions on words ask of a ring's constants.
pub record Fair (f : Fixed) : Type 0 where
  pub positive : 0 < f.mark
  pub small : f.mark < 2 ^ 63
  pub power : ℕ
  pub is : f.mark ≡ 2 ^ power

-- The index of a word, with its two bounds.
pub record Indexed (f : Fixed) (w : Stamp) (i : ℕ) : Type 0 where
  pub is : i ≡ index_of f w
  pub below : i < f.mark
  pub within : i ≤ w.0
