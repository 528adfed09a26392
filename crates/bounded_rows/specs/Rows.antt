-- A ring and its records as words in a host's memory, and back: eight words, two for each of 1,024 slots, five for each record.
use Rattle.std.specs.Prelude.{ℕ, ◌+◌, ◌*◌, ◌%◌, ◌<◌, ◌≡◌, Bool, true, false, cond, List, [], ◌∷◌, eqb, length, get_or, set}
use Rattle.queue_entries.specs.Limits.{meter_most}
use Rattle.bounded_words.specs.Words.{stamp}
use Rattle.bounded_words.specs.Limits.{slots_most}
use Rattle.bounded_words.specs.declared.Fixed.{Fixed}
use Rattle.bounded_words.specs.declared.Width.{Width}
use Rattle.bounded_places.specs.declared.Ends.{Ends}
use Rattle.bounded_places.specs.declared.Slot.{Slot}
use Rattle.bounded_places.specs.declared.Worker.{Worker}
use Rattle.bounded_places.specs.Places.{view_of}
use Rattle.bounded_acts.specs.declared.Acted.{Acted}
use Rattle.bounded_acts.specs.Acts.{act_of}
use Rattle.bounded_machine.specs.Machine.{slot, ring_of_parts}
use Rattle.bounded_codes.specs.declared.Coded.{Coded}
use Rattle.bounded_codes.specs.Codes.{code_of, place_in, stands_for}
use Rattle.bounded_orders.specs.declared.Metered.{Metered}
use Rattle.bounded_machine.specs.Turn.{turn_at, record_after}
use Rattle.bounded_step_record.specs.Entries.{slot_of_ring}
use Rattle.bounded_lent.specs.Lent.{Lent, held, broken_lent, lent_of}

-- the three slices that a host lends
pub record Words : Type 0 where
  pub head : List ℕ
  pub slots : List ℕ
  pub records : List ℕ

abbrev pub words : List ℕ → List ℕ → List ℕ → Words
words h ss rs = record { head = h; slots = ss; records = rs }

-- The number of this layout, in the last of the eight words: a host whose words are laid out otherwise is refused, as is one whose words are all 0.
abbrev pub layout : ℕ
layout = 1

-- ---- what stands for a ring and records
unfoldable pub head_of : Metered → List ℕ
head_of l =
    l.ring.mark ∷ l.ring.lap ∷ l.ring.capacity ∷ l.ring.edition ∷ l.ring.head.0 ∷ l.ring.tail.0 ∷ l.meter ∷ layout ∷ []

unfoldable pub slots_of : List Slot → List ℕ
slots_of [] = []
slots_of (s ∷ rest) = s.stamp.0 ∷ s.value ∷ slots_of rest

-- a place's code, the two words that it holds, and the two counts of losses
unfoldable pub records_of : List Worker → List ℕ
records_of [] = []
records_of (r ∷ rest) = (code_of r.place).code ∷ (code_of r.place).first ∷ (code_of r.place).second ∷ r.differed ∷ r.failed ∷ records_of rest

unfoldable pub words_of : Metered → List Worker → Words
words_of l ys = words (head_of l) (slots_of l.ring.slots) (records_of ys)

-- ---- what words stand for
unfoldable pub fixed_in : List ℕ → Fixed
fixed_in h = record { mark = get_or h 0 0; lap = get_or h 1 0; capacity = get_or h 2 0; edition = get_or h 3 0 }

unfoldable pub ends_in : List ℕ → Ends
ends_in h = record { head = stamp (get_or h 4 0); tail = stamp (get_or h 5 0) }

unfoldable pub slots_in : List ℕ → List Slot
slots_in [] = []
slots_in (s ∷ []) = []
slots_in (s ∷ v ∷ ws) = slot s v ∷ slots_in ws

abbrev pub record_from : ℕ → ℕ → ℕ → ℕ → ℕ → Worker
record_from c a b d f = record { place = place_in c a b; differed = d; failed = f }

unfoldable pub records_in : List ℕ → List Worker
records_in [] = []
records_in (c ∷ []) = []
records_in (c ∷ a ∷ []) = []
records_in (c ∷ a ∷ b ∷ []) = []
records_in (c ∷ a ∷ b ∷ d ∷ []) = []
records_in (c ∷ a ∷ b ∷ d ∷ f ∷ ws) = record_from c a b d f ∷ records_in ws

abbrev pub metered_in : Words → Metered
metered_in w = record { ring = ring_of_parts (fixed_in w.head) (ends_in w.head) (slots_in w.slots); meter = get_or w.head 6 0 }

-- ---- which words stand for a ring and records
unfoldable pub shaped : Words → Bool
shaped w = cond (eqb (length w.head) 8) (cond (eqb (length w.slots) (slots_most * 2)) (eqb (length w.records % 5) 0) false) false

-- a place in every five
unfoldable pub placed : List ℕ → Bool
placed [] = true
placed (c ∷ []) = false
placed (c ∷ a ∷ []) = false
placed (c ∷ a ∷ b ∷ []) = false
placed (c ∷ a ∷ b ∷ d ∷ []) = false
placed (c ∷ a ∷ b ∷ d ∷ f ∷ ws) = cond (stands_for c a b) (placed ws) false

unfoldable pub stand : Words → Bool
stand w = cond (shaped w) (cond (eqb (get_or w.head 7 0) layout) (placed w.records) false) false

-- ---- one record and one slot among the words
unfoldable pub record_at : List ℕ → ℕ → Worker
record_at ws i = record_from (get_or ws (i * 5) 0) (get_or ws (i * 5 + 1) 0) (get_or ws (i * 5 + 2) 0) (get_or ws (i * 5 + 3) 0) (get_or ws (i * 5 + 4) 0)

unfoldable pub placed_at : List ℕ → ℕ → Bool
placed_at ws i = stands_for (get_or ws (i * 5) 0) (get_or ws (i * 5 + 1) 0) (get_or ws (i * 5 + 2) 0)

abbrev pub five : List ℕ → ℕ → Coded → ℕ → ℕ → List ℕ
five ws at c d f = set (set (set (set (set ws at c.code) (at + 1) c.first) (at + 2) c.second) (at + 3) d) (at + 4) f

unfoldable pub with_record : List ℕ → ℕ → Worker → List ℕ
with_record ws i r = five ws (i * 5) (code_of r.place) r.differed r.failed

unfoldable pub slot_at : List ℕ → ℕ → Slot
slot_at ws k = slot (get_or ws (k * 2) 0) (get_or ws (k * 2 + 1) 0)

unfoldable pub with_slot : List ℕ → ℕ → Slot → List ℕ
with_slot ws k s = set (set ws (k * 2) s.stamp.0) (k * 2 + 1) s.value

unfoldable pub with_head : List ℕ → Ends → ℕ → List ℕ
with_head h e m = set (set (set h 4 e.head.0) 5 e.tail.0) 6 m

-- ---- an act
-- words of which the i-th record may act: they stand for a ring that is not broken, it is busy, and the meter can rise
pub record Moving (w : Words) (i : ℕ) : Type 0 where
  pub sound : broken_lent (metered_in w) (records_in w.records) ≡ false
  pub stands : stand w ≡ true
  pub counted : i < length (records_in w.records)
  pub busy : (view_of (record_at w.records i).place).busy ≡ true
  pub in_time : get_or w.head 6 0 < meter_most

abbrev pub stored_in : Words → ℕ → ℕ → Worker → Acted → Words
stored_in w i k r a =
    words (with_head w.head a.ends (get_or w.head 6 0 + 1)) (with_slot w.slots k a.slot) (with_record w.records i (record_after r a.place a.loss))

-- what the act of a record r that is the i-th, at the slot k, leaves
abbrev pub acted_at : Width → Words → ℕ → ℕ → Worker → Bool → Words
acted_at bits w i k r lose = stored_in w i k r (act_of bits (fixed_in w.head) (ends_in w.head) (slot_at w.slots k) r.place lose)

unfoldable pub acted_in : Width → Words → ℕ → Bool → Words
acted_in bits w i lose = acted_at bits w i (slot_of_ring (fixed_in w.head) (record_at w.records i)) (record_at w.records i) lose

-- ---- an answer, with the words as they are then
pub record After : Type 0 where
  pub answer : ℕ
  pub words : Words

abbrev pub after : ℕ → Words → After
after r w = record { answer = r; words = w }

abbrev pub after_of : Lent → After
after_of x = after x.answer (words_of x.ring x.records)

-- the entry of two words at either width, on a ring and records that are not broken; of 64 bits it is `turn_lent`
abbrev pub turn_with : Width → Metered → List Worker → ℕ → ℕ → Lent
turn_with bits l ys first second = lent_of (turn_at bits (held l ys) first second)
