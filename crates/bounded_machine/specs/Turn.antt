-- One entry: begin or act, with the refusals in document 01's order (begin 6, 9, 3, 4; act 6, 9, 3, 5, 7, 8).
use Rattle.std.specs.Prelude.{ℕ, ◌+◌, Bool, cond, ltb, set, get_or}
use Rattle.queue_entries.specs.declared.Order.{Order}
use Rattle.queue_entries.specs.declared.Entry.{Entry}
use Rattle.queue_entries.specs.declared.Entry.TheVariants.{Unreadable, Asks}
use Rattle.queue_entries.specs.Entries.{entry_of, verdict_for}
use Rattle.queue_entries.specs.declared.Verdict.{Verdict}
use Rattle.queue_entries.specs.declared.Verdict.TheVariants.{Refuse, Start, Move}
use Rattle.bounded_words.specs.declared.Fixed.{Fixed}
use Rattle.bounded_words.specs.declared.Width.{Width}
use Rattle.bounded_words.specs.declared.Width.TheVariants.{SixtyFour}
use Rattle.bounded_words.specs.Words.{index_of}
use Rattle.bounded_places.specs.declared.Slot.{Slot}
use Rattle.bounded_places.specs.declared.Ends.{Ends}
use Rattle.bounded_places.specs.declared.Loss.{Loss}
use Rattle.bounded_places.specs.declared.Loss.TheVariants as loss
use Rattle.bounded_places.specs.declared.Worker.{Worker}
use Rattle.bounded_places.specs.declared.Place.{Place}
use Rattle.bounded_places.specs.declared.Held.{Held}
use Rattle.bounded_places.specs.declared.Held.TheVariants as held
use Rattle.bounded_places.specs.Places.{view_of, begin_of}
use Rattle.bounded_acts.specs.declared.Acted.{Acted}
use Rattle.bounded_acts.specs.Acts.{act_of}
use Rattle.bounded_machine.specs.declared.Machine.{Machine}
use Rattle.bounded_machine.specs.declared.Did.{Did}
use Rattle.bounded_machine.specs.Machine.{slot, machine_of, record_of_worker, place_of, refused, accepted, fixed_on, ends_on}

-- What becomes of a worker at this place.
abbrev pub verdict_of : ℕ → Place → Order → Verdict
verdict_of meter p o = verdict_for meter (view_of p).busy (view_of p).weak o

-- The slot that an act goes to is the one at the index of its worker's t or h.
abbrev pub spot_of : Fixed → Held → ℕ
spot_of f held.Nothing = 0
spot_of f (held.End w) = index_of f w
spot_of f (held.Tail t) = 0
spot_of f (held.Both t h) = 0

-- "Each worker's record then counts its losses of both kinds in the present call, from 0 at its begin, and keeps them after its end."
abbrev pub beginner : Place → Worker
beginner q = record { place = q; differed = 0; failed = 0 }

abbrev pub by_words : Loss → ℕ
by_words loss.Nothing = 0
by_words loss.ByWords = 1
by_words loss.BySchedule = 0

abbrev pub by_schedule : Loss → ℕ
by_schedule loss.Nothing = 0
by_schedule loss.ByWords = 0
by_schedule loss.BySchedule = 1

-- The record after an act that leads to p.
unfoldable pub record_after : Worker → Place → Loss → Worker
record_after r p l = record { place = p; differed = r.differed + by_words l; failed = r.failed + by_schedule l }

-- Worker w begins at the place q: no act.
unfoldable pub begun : Machine → ℕ → Place → Machine
begun m w q =
    machine_of (fixed_on m.ring) (ends_on m.ring) m.ring.slots (set m.workers w (beginner q)) m.count m.meter

-- What an act at slot i leaves is stored back. The meter rises by one with each accepted act.
unfoldable pub stored : Machine → ℕ → ℕ → Acted → Machine
stored m w i a =
    machine_of (fixed_on m.ring) a.ends (set m.ring.slots i a.slot) (set m.workers w (record_after (record_of_worker m.workers w) a.place a.loss)) m.count (m.meter + 1)

-- What an act does at each place. Document 01's is `act_of SixtyFour`, that of sixteen bits `act_of Sixteen`; crate bounded_slips has some with a slip.
abbrev pub Table : Type 0
Table = Fixed → Ends → Slot → Place → Bool → Acted

abbrev pub act_at : Table → Machine → Place → Bool → Acted
act_at table m p lose = table (fixed_on m.ring) (ends_on m.ring) (get_or m.ring.slots (spot_of (fixed_on m.ring) (view_of p).held) (slot 0 0)) p lose

unfoldable pub acted_by : Table → Machine → ℕ → Place → Bool → Machine
acted_by table m w p lose = stored m w (spot_of (fixed_on m.ring) (view_of p).held) (act_at table m p lose)

abbrev pub carried_by : Table → Machine → ℕ → Place → Verdict → Did
carried_by table m w p (Refuse number) = refused number m
carried_by table m w p (Start c) = accepted (begun m w (begin_of c))
carried_by table m w p (Move lose) = accepted (acted_by table m w p lose)

-- 9: an entry that can't be read. 3: worker number not below the count.
abbrev pub turn_by : Table → Machine → Entry → Did
turn_by table m Unreadable = refused 9 m
turn_by table m (Asks w o) =
    cond (ltb w m.count)
    (carried_by table m w (place_of m.workers w) (verdict_of m.meter (place_of m.workers w) o))
    (refused 3 m)

abbrev pub acted : Width → Machine → ℕ → Place → Bool → Machine
acted bits = acted_by (act_of bits)

abbrev pub carried : Width → Machine → ℕ → Place → Verdict → Did
carried bits = carried_by (act_of bits)

abbrev pub turn : Width → Machine → Entry → Did
turn bits = turn_by (act_of bits)

-- The entry of two words, on a machine that is not broken: by a table, of either width, and document 01's.
unfoldable pub turn_of_by : Table → Machine → ℕ → ℕ → Did
turn_of_by table m first second = turn_by table m (entry_of first second)

abbrev pub turn_at : Width → Machine → ℕ → ℕ → Did
turn_at bits = turn_of_by (act_of bits)

abbrev pub turn_of : Machine → ℕ → ℕ → Did
turn_of = turn_at SixtyFour
