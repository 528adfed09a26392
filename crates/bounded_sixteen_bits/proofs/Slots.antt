-- Slots widened and narrowed, one after another; and the machine put together.
use Prim.Native.Nat.{ℕ, zero, suc, ◌+◌, ◌≤◌, ◌<◌}
use mathlib.Core.Path.{◌≡◌, refl, sym, ◌∙◌}
use mathlib.Core.List.{List, map}
use native.Mathlib.Omega.{arith}
use native.Mathlib.Decide.{ℕ_discrete}
use lib.ListN.{length, get_or, set, replicate, length-set, length-map, get_or-map}
use lib.Seq.{get_or-set_same, get_or-set_other, ext_get_or}
use Rattle.bounded_words.specs.Limits.{slots_most, narrow}
use Rattle.bounded_words.specs.Words.{stamp}
use Rattle.bounded_places.specs.declared.Slot as places
use Rattle.bounded_machine.specs.declared.Machine as machine
use Rattle.bounded_machine.specs.declared.Did as did
use Rattle.bounded_machine.specs.declared.Ran as ran
use Rattle.bounded_machine.specs.Machine.{slot, machine_of, fixed_on}
use Rattle.bounded_machine.proofs.Kept.{placed}
use Rattle.bounded_sixteen_bits.specs.declared.Slot.{Slot}
use Rattle.bounded_sixteen_bits.specs.declared.Machine.{Machine}
use Rattle.bounded_sixteen_bits.specs.SixteenBits.{short_fixed, short_ring, wide_slot, widened, short, narrow_slot, narrowed, narrowed_did, narrowed_ran, ShortSlots, Short}

-- so many of a list are done
pub record Done {A B : Type 0} (f : A → B) (d : A) (l : List A) (r : List B) (i : ℕ) : Type 0 where
  pub few : i ≤ slots_most
  pub long : length r ≡ slots_most
  pub done : (k : ℕ) → k < i → get_or r k (f d) ≡ f (get_or l k d)

module _ {A B : Type 0} (f : A → B) (d : A) (l : List A) where
  pub none_done : (r : List B) → length r ≡ slots_most → Done f d l r 0
  none_done r long = record { few = omega arith; long = long; done = λ k z. absurd (omega arith) }

  pub one_done : (r : List B) (i : ℕ) (x : B) → Done f d l r i → i < slots_most → x ≡ f (get_or l i d) → Done f d l (set r i x) (i + 1)
  one_done r i x o small e =
      record { few = omega arith; long = length-set r i x ∙ o.long; done = λ k z. each k z (ℕ_discrete k i) }
    where
      each : (k : ℕ) → k < i + 1 → Dec (k ≡ i) → get_or (set r i x) k (f d) ≡ f (get_or l k d)
      each k z (yes q) = let in_List : i < length r = omega (arith, o.long) in rw q (get_or-set_same r i x (f d) in_List ∙ e)
      each k z (no ne) = get_or-set_other r i k x (f d) ne ∙ o.done k (omega arith)

  pub all_done : (r : List B) (i : ℕ) → Done f d l r i → slots_most ≤ i → length l ≡ slots_most → r ≡ map f l
  all_done r i o big long =
      ext_get_or (f d) r (map f l) (o.long ∙ sym (length-map l f ∙ long))
      (λ k z. o.done k (omega (arith, o.long)) ∙ sym (get_or-map f l k d))

-- words that were of sixteen bits fit
zeros_short : (n i : ℕ) → (get_or (replicate n (slot 0 0)) i (slot 0 0)).stamp.0 < narrow
zeros_short zero i = omega arith
zeros_short (suc n) zero = omega arith
zeros_short (suc n) (suc i) = zeros_short n i

pub none_short : ShortSlots (replicate slots_most (slot 0 0))
none_short i = zeros_short slots_most i

pub one_short : (l : List places.Slot) (i : ℕ) (x : places.Slot) → ShortSlots l → x.stamp.0 < narrow → ShortSlots (set l i x)
one_short l i x o h k = placed l i k x (slot 0 0) (λ (z : places.Slot). z.stamp.0 < narrow) (λ e. h) (o k)

pub short_is : (m : machine.Machine) → m.ring.head.0 < narrow → m.ring.tail.0 < narrow → ShortSlots m.ring.slots → Short m
short_is m head tail slots = record { head = head; tail = tail; slots = slots }

-- what the code puts together
pub widened_is : (m : Machine) (s : List places.Slot) → s ≡ map wide_slot m.ring.slots
    → machine_of (short_fixed m.ring) (record { head = stamp m.ring.head.0; tail = stamp m.ring.tail.0 }) s m.workers m.count m.meter ≡ widened m
unfolding widened
widened_is m s e = rw e refl

pub narrowed_is : (m : machine.Machine) (s : List Slot) → s ≡ map narrow_slot m.ring.slots
    → record { ring = short_ring (fixed_on m.ring) (short m.ring.head) (short m.ring.tail) s; workers = m.workers; count = m.count; meter = m.meter }
    ≡ narrowed m
unfolding narrowed
narrowed_is m s e = rw e refl

pub did_is : (d : did.Did) (x : Machine) → x ≡ narrowed d.machine → record { refusal = d.refusal; machine = x } ≡ narrowed_did d
did_is d x e = rw e refl

pub ran_is : (r : ran.Ran) (x : Machine) → x ≡ narrowed r.machine → record { refusal = r.refusal; place = r.place; machine = x } ≡ narrowed_ran r
ran_is r x e = rw e refl
