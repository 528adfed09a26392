-- Nothing is lost: narrowed and widened are each other's way back.
use mathlib.Core.Path.{◌≡◌, refl, ap}
use mathlib.Core.List.{List, [], ◌∷◌, map}
use Rattle.bounded_places.specs.declared.Slot as places
use Rattle.bounded_machine.specs.declared.Machine as machine
use Rattle.bounded_machine.specs.Machine.{machine_of, fixed_on, ends_on}
use Rattle.bounded_sixteen_bits.specs.declared.Slot.{Slot}
use Rattle.bounded_sixteen_bits.specs.declared.Machine.{Machine}
use Rattle.bounded_sixteen_bits.specs.SixteenBits.{short_fixed, short_ring, wide_slot, widened, narrow_slot, narrowed}

slots_back : (l : List Slot) → map narrow_slot (map wide_slot l) ≡ l
slots_back [] = refl
slots_back (s ∷ l) = ap (λ (r : List Slot). s ∷ r) (slots_back l)

slots_again : (l : List places.Slot) → map wide_slot (map narrow_slot l) ≡ l
slots_again [] = refl
slots_again (s ∷ l) = ap (λ (r : List places.Slot). s ∷ r) (slots_again l)

pub back : (m : Machine) → narrowed (widened m) ≡ m
unfolding narrowed widened
back m = ap (λ (l : List Slot). record {
  ring = short_ring (short_fixed m.ring) m.ring.head m.ring.tail l;
  workers = m.workers;
  count = m.count;
  meter = m.meter;
}) (slots_back m.ring.slots)

pub again : (m : machine.Machine) → widened (narrowed m) ≡ m
unfolding narrowed widened
again m = ap (λ (l : List places.Slot). machine_of (fixed_on m.ring) (ends_on m.ring) l m.workers m.count m.meter) (slots_again m.ring.slots)
