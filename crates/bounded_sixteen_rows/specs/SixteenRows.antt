-- A ring of sixteen bits and its records as words in a host's memory, and back: seven words of sixteen bits, the meter, a stamp of sixteen bits and a value for each slot of the capacity, five words for each record.
use Rattle.std.specs.Prelude.{ℕ, ◌%◌, Bool, true, false, cond, List, [], ◌∷◌, eqb, length, get_or, set}
use Rattle.bounded_words.specs.declared.Width.TheVariants.{Sixteen}
use Rattle.bounded_places.specs.declared.Ends.{Ends}
use Rattle.bounded_places.specs.declared.Slot.{Slot}
use Rattle.bounded_places.specs.declared.Worker.{Worker}
use Rattle.bounded_machine.specs.Machine.{slot, ring_of_parts}
use Rattle.bounded_orders.specs.declared.Metered.{Metered}
use Rattle.bounded_lent.specs.Lent.{Lent, broken_lent}
use Rattle.bounded_rows.specs.Rows.{fixed_in, ends_in, records_in, records_of, placed, turn_with}

-- what a host lends: four slices and the meter
pub record Shorts : Type 0 where
  pub head : List ℕ
  pub meter : ℕ
  pub stamps : List ℕ
  pub values : List ℕ
  pub records : List ℕ

abbrev pub shorts : List ℕ → ℕ → List ℕ → List ℕ → List ℕ → Shorts
shorts h m ss vs rs = record { head = h; meter = m; stamps = ss; values = vs; records = rs }

-- The number of this layout, in the last of the seven words.
abbrev pub layout : ℕ
layout = 16

-- ---- what stands for a ring and records
unfoldable pub head_of : Metered → List ℕ
head_of l = l.ring.mark ∷ l.ring.lap ∷ l.ring.capacity ∷ l.ring.edition ∷ l.ring.head.0 ∷ l.ring.tail.0 ∷ layout ∷ []

unfoldable pub stamps_of : List Slot → List ℕ
stamps_of [] = []
stamps_of (s ∷ rest) = s.stamp.0 ∷ stamps_of rest

unfoldable pub values_of : List Slot → List ℕ
values_of [] = []
values_of (s ∷ rest) = s.value ∷ values_of rest

unfoldable pub shorts_of : Metered → List Worker → Shorts
shorts_of l ys = shorts (head_of l) l.meter (stamps_of l.ring.slots) (values_of l.ring.slots) (records_of ys)

-- ---- what words stand for; the first six words are read as the host's of 64 bits are
unfoldable pub slots_in : List ℕ → List ℕ → List Slot
slots_in [] vs = []
slots_in (s ∷ ss) [] = []
slots_in (s ∷ ss) (v ∷ vs) = slot s v ∷ slots_in ss vs

abbrev pub metered_in : Shorts → Metered
metered_in w = record { ring = ring_of_parts (fixed_in w.head) (ends_in w.head) (slots_in w.stamps w.values); meter = w.meter }

-- ---- which words stand for a ring and records
-- slices as long as a capacity asks
unfoldable pub shaped_for : ℕ → Shorts → Bool
shaped_for capacity w =
    cond (eqb (length w.head) 7)
    (cond (eqb (length w.stamps) capacity)
    (cond (eqb (length w.values) capacity) (eqb (length w.records % 5) 0) false) false) false

unfoldable pub stand : Shorts → Bool
stand w = cond (shaped_for (get_or w.head 2 0) w) (cond (eqb (get_or w.head 6 0) layout) (placed w.records) false) false

unfoldable pub broken_shorts : Shorts → Bool
broken_shorts w = cond (stand w) (broken_lent (metered_in w) (records_in w.records)) true

-- ---- the ends among the words
unfoldable pub with_ends : List ℕ → Ends → List ℕ
with_ends h e = set (set h 4 e.head.0) 5 e.tail.0

-- ---- an answer, with the words as they are then
pub record After : Type 0 where
  pub answer : ℕ
  pub words : Shorts

abbrev pub after : ℕ → Shorts → After
after r w = record { answer = r; words = w }

abbrev pub after_of : Lent → After
after_of x = after x.answer (shorts_of x.ring x.records)

-- the entry of two words, on words that stand for a ring and records that are not broken
abbrev pub turn_shorts : Shorts → ℕ → ℕ → Lent
turn_shorts w first second = turn_with Sixteen (metered_in w) (records_in w.records) first second
