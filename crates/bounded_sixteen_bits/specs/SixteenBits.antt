-- The machine of sixteen bits (document 02, item 14): the one machine, its words of the ends and the slots kept in sixteen bits.
use Rattle.std.specs.Prelude.{ℕ, ◌<◌, List, map, get_or}
use Rattle.bounded_words.specs.declared.Stamp as words
use Rattle.bounded_words.specs.Limits.{narrow}
use Rattle.bounded_words.specs.Words.{stamp}
use Rattle.bounded_places.specs.declared.Slot as places
use Rattle.bounded_machine.specs.declared.Machine as machine
use Rattle.bounded_machine.specs.declared.Did as did
use Rattle.bounded_machine.specs.declared.Ran as ran
use Rattle.bounded_machine.specs.Machine.{slot, machine_of, fixed_on}
use Rattle.bounded_words.specs.declared.Fixed.{Fixed}
use Rattle.bounded_sixteen_bits.specs.declared.Ring.{Ring}
use Rattle.bounded_sixteen_bits.specs.declared.Stamp.{Stamp}
use Rattle.bounded_sixteen_bits.specs.declared.Slot.{Slot}
use Rattle.bounded_sixteen_bits.specs.declared.Machine.{Machine}
use Rattle.bounded_sixteen_bits.specs.declared.Did.{Did}
use Rattle.bounded_sixteen_bits.specs.declared.Ran.{Ran}

-- Widened to the one machine: the same numbers.
abbrev pub wide_slot : Slot → places.Slot
wide_slot s = slot s.stamp.0 s.value

abbrev pub short_fixed : Ring → Fixed
short_fixed r = record { mark = r.mark; lap = r.lap; capacity = r.capacity; edition = r.edition }

unfoldable pub widened : Machine → machine.Machine
widened m =
    machine_of (short_fixed m.ring) (record { head = stamp m.ring.head.0; tail = stamp m.ring.tail.0 }) (map wide_slot m.ring.slots)
    m.workers m.count m.meter

-- And narrowed again: the same numbers, which fit (`Short`).
abbrev pub short : words.Stamp → Stamp
short w = record { 0 = w.0 }

abbrev pub narrow_slot : places.Slot → Slot
narrow_slot s = record { stamp = short s.stamp; value = s.value }

abbrev pub short_ring : Fixed → Stamp → Stamp → List Slot → Ring
short_ring f h t s = record { head = h; tail = t; mark = f.mark; lap = f.lap; capacity = f.capacity; edition = f.edition; slots = s }

unfoldable pub narrowed : machine.Machine → Machine
narrowed m =
    record {
      ring = short_ring (fixed_on m.ring) (short m.ring.head) (short m.ring.tail) (map narrow_slot m.ring.slots);
      workers = m.workers;
      count = m.count;
      meter = m.meter;
    }

abbrev pub narrowed_did : did.Did → Did
narrowed_did d = record { refusal = d.refusal; machine = narrowed d.machine }

abbrev pub narrowed_ran : ran.Ran → Ran
narrowed_ran r = record { refusal = r.refusal; place = r.place; machine = narrowed r.machine }

-- Words that fit.
abbrev pub ShortSlots : List places.Slot → Type 0
ShortSlots l = (i : ℕ) → (get_or l i (slot 0 0)).stamp.0 < narrow

pub record Short (m : machine.Machine) : Type 0 where
  pub head : m.ring.head.0 < narrow
  pub tail : m.ring.tail.0 < narrow
  pub slots : ShortSlots m.ring.slots
