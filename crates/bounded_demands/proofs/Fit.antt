-- The numbers of sixteen bits are below 65,536, and so none of them is cut.
use Prim.Native.Nat.{suc, ◌<◌}
use mathlib.Core.Path.{◌≡◌, refl, ap, ◌∙◌}
use mathlib.Core.List.{List, [], ◌∷◌, map}
use native.Mathlib.Nat.{mod-eq_of_lt}
use Rattle.bounded_words.specs.declared.Stamp.{Stamp}
use Rattle.bounded_words.specs.declared.Width.TheVariants.{Sixteen}
use Rattle.bounded_words.specs.Limits.{narrow}
use Rattle.bounded_words.specs.Words.{stamp}
use Rattle.bounded_places.specs.declared.Slot.{Slot}
use Rattle.bounded_machine.specs.declared.Machine.{Machine}
use Rattle.bounded_machine.specs.Machine.{machine_of, fresh_of, fixed_on}
use Rattle.bounded_sixteen_bits.specs.SixteenBits.{widened, narrowed, ShortSlots, Short}
use Rattle.bounded_sixteen_bits.proofs.Back.{again}
use Rattle.bounded_narrow.proofs.Shorts.{entry_short, from_short, fresh_short}
use Rattle.bounded_demands.specs.Notions.{of_width, cut_word, cut_to}
use Rattle.bounded_demands.specs.Demands.{NumbersFit}

word_uncut : (w : Stamp) → w.0 < narrow → cut_word narrow w ≡ w
word_uncut w small = ap stamp (mod-eq_of_lt small)

abbrev cut_slot : Slot → Slot
cut_slot s = record { stamp = cut_word narrow s.stamp; value = s.value }

slots_uncut : (l : List Slot) → ShortSlots l → map cut_slot l ≡ l
slots_uncut [] o = refl
slots_uncut (s ∷ l) o =
    ap (λ (w : Stamp). record { stamp = w; value = s.value } ∷ map cut_slot l) (word_uncut s.stamp (o 0))
    ∙ ap (λ (r : List Slot). s ∷ r) (slots_uncut l (λ i. o (suc i)))

machine_uncut : (m : Machine) → Short m → cut_to narrow m ≡ m
unfolding cut_to
machine_uncut m o =
    ap (λ (h : Stamp). with_all h (cut_word narrow m.ring.tail) (map cut_slot m.ring.slots)) (word_uncut m.ring.head o.head)
    ∙ ap (λ (t : Stamp). with_all m.ring.head t (map cut_slot m.ring.slots)) (word_uncut m.ring.tail o.tail)
    ∙ ap (with_all m.ring.head m.ring.tail) (slots_uncut m.ring.slots o.slots)
  where
    with_all : Stamp → Stamp → List Slot → Machine
    with_all h t l = machine_of (fixed_on m.ring) (record { head = h; tail = t }) l m.workers m.count m.meter

pub numbers_fit : NumbersFit (of_width Sixteen) (cut_to narrow)
numbers_fit =
    record {
      fits = λ capacity workers edition a s. from_short s (fresh_of capacity workers edition) 0 (fresh_short capacity workers edition a.slot_most);
      entry = λ m first second o. entry_short m o first second;
      uncut = machine_uncut;
      again = λ m o. ap (λ (z : Machine). widened (narrowed z)) (machine_uncut m o) ∙ again m;
    }
