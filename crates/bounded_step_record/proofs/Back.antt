-- What an entry leaves of its record and its slot, put back where they were taken out of a machine, is what the entry leaves of the machine.
use Prim.Native.Nat.{ℕ, zero, suc, ◌/◌, ◌%◌}
use mathlib.Core.Path.{◌≡◌, refl, sym, ap, ◌∙◌, subst}
use mathlib.Core.Bool.{Bool, true, false, cond}
use mathlib.Core.List.{List, [], ◌∷◌}
use lib.Dec.{ltb}
use lib.ListN.{get_or, set}
use Rattle.queue_entries.specs.declared.Order.{Order}
use Rattle.queue_entries.specs.declared.Entry.{Entry}
use Rattle.queue_entries.specs.declared.Entry.TheVariants.{Unreadable, Asks}
use Rattle.queue_entries.specs.declared.Verdict.{Verdict}
use Rattle.queue_entries.specs.declared.Verdict.TheVariants.{Refuse, Start, Move}
use Rattle.queue_entries.specs.Entries.{entry_of, order_of, stray_of}
use Rattle.bounded_words.specs.declared.Width.{Width}
use Rattle.bounded_places.specs.declared.Slot.{Slot}
use Rattle.bounded_places.specs.Places.{begin_of}
use Rattle.bounded_acts.specs.Acts.{act_of}
use Rattle.bounded_machine.specs.declared.Machine.{Machine}
use Rattle.bounded_machine.specs.declared.Did.{Did}
use Rattle.bounded_machine.specs.Machine.{slot, machine_of, record_of_worker, place_of, idler, refused, accepted, fixed_on, ends_on}
use Rattle.bounded_machine.specs.Turn.{verdict_of, beginner, begun, stored, acted_by, carried, turn, turn_at, turn_of_by}
use Rattle.bounded_machine.proofs.Kept.{either}
use Rattle.bounded_step_record.specs.declared.Turned.{Turned}
use Rattle.bounded_step_record.specs.Entries.{worker_of, slot_of_ring, with, moved, carried_on, turned_on, turned_of}
use Rattle.bounded_machine.proofs.Turns.{move_busy}

set_same : {A : Type 0} (xs : List A) (i : ℕ) (d : A) → set xs i (get_or xs i d) ≡ xs
set_same [] i d = refl
set_same (x ∷ xs) zero d = refl
set_same (x ∷ xs) (suc i) d = ap (λ (r : List _). x ∷ r) (set_same xs i d)

-- an entry that can be read asks for the worker of its first word
abbrev pub Who : ℕ → Entry → Type 0
Who n Unreadable = Unit {0}
Who n (Asks w o) = w ≡ n

pub who : (first second : ℕ) → Who (first / 16) (entry_of first second)
unfolding entry_of order_of
who first second =
    either (Who (first / 16)) (stray_of (first % 16) second) Unreadable _ (λ e. tt)
    (λ e. either (Who (first / 16)) (ltb (first % 16) 8) _ _ (λ d. refl) (λ d. either (Who (first / 16)) (ltb (first % 16) 10) _ Unreadable (λ c. refl) (λ c. tt)))

abbrev pub put_back : Machine → ℕ → ℕ → Turned → Did
put_back m w k t =
    record { refusal = t.refusal; machine = machine_of (fixed_on m.ring) t.ends (set m.ring.slots k t.slot) (set m.workers w t.worker) m.count t.meter }

module _ (bits : Width) (m : Machine) where
  -- the slot and the record that are taken out
  abbrev slot_at : ℕ → Slot
  slot_at k = get_or m.ring.slots k (slot 0 0)

  abbrev spot_at : ℕ → ℕ
  spot_at w = slot_of_ring (fixed_on m.ring) (record_of_worker m.workers w)

  still : (w k number : ℕ) → put_back m w k (with number (ends_on m.ring) (slot_at k) (record_of_worker m.workers w) m.meter) ≡ refused number m
  unfolding with refused
  still w k number =
      λ i. record { refusal = number; machine = machine_of (fixed_on m.ring) (ends_on m.ring) (set_same m.ring.slots k (slot 0 0) i) (set_same m.workers w idler i) m.count m.meter }

  module _ (w : ℕ) (o : Order) where
    at_verdict : (v : Verdict) → v ≡ verdict_of m.meter (place_of m.workers w) o
        → put_back m w (spot_at w) (carried_on bits (fixed_on m.ring) (ends_on m.ring) (slot_at (spot_at w)) (record_of_worker m.workers w) m.meter v) ≡ carried bits m w (place_of m.workers w) v
    unfolding with moved begun stored accepted acted_by
    at_verdict (Refuse number) e = still w (spot_at w) number
    at_verdict (Start c) e =
        λ i. record {
          refusal = 0;
          machine = machine_of (fixed_on m.ring) (ends_on m.ring) (set_same m.ring.slots (spot_at w) (slot 0 0) i)
              (set m.workers w (beginner (begin_of c))) m.count m.meter;
        }
    at_verdict (Move lose) e =
        ap (λ (k : ℕ). put_back m w k (moved (record_of_worker m.workers w) m.meter (act_of bits (fixed_on m.ring) (ends_on m.ring) (slot_at k) (place_of m.workers w) lose)))
        (simp (move_busy m.meter (place_of m.workers w) o (Move lose) e lose refl))

  -- by whether there is such a record
  by_count : (x n : ℕ) (o : Order) (t : Bool) → ltb x n ≡ t
      → put_back m (cond t x 0) (spot_at (cond t x 0)) (cond t (carried_on bits (fixed_on m.ring) (ends_on m.ring) (slot_at (spot_at (cond t x 0)))
      (record_of_worker m.workers (cond t x 0)) m.meter (verdict_of m.meter (record_of_worker m.workers (cond t x 0)).place o))
      (with 3 (ends_on m.ring) (slot_at (spot_at (cond t x 0))) (record_of_worker m.workers (cond t x 0)) m.meter))
      ≡ cond t (carried bits m x (place_of m.workers x) (verdict_of m.meter (place_of m.workers x) o)) (refused 3 m)
  by_count x n o true e = at_verdict x o _ refl
  by_count x n o false e = still 0 (spot_at 0) 3

  at_entry : (first : ℕ) (x : Entry) → Who (first / 16) x
      → put_back m (worker_of first m.count) (spot_at (worker_of first m.count))
      (turned_on bits (fixed_on m.ring) (ends_on m.ring) (slot_at (spot_at (worker_of first m.count)))
      (record_of_worker m.workers (worker_of first m.count)) m.meter m.count x) ≡ turn bits m x
  unfolding worker_of
  at_entry first Unreadable h = still _ _ 9
  at_entry first (Asks v o) h =
      subst (λ (x : ℕ). put_back m (worker_of first m.count) (spot_at (worker_of first m.count))
      (turned_on bits (fixed_on m.ring) (ends_on m.ring) (slot_at (spot_at (worker_of first m.count)))
      (record_of_worker m.workers (worker_of first m.count)) m.meter m.count (Asks x o)) ≡ turn bits m (Asks x o)) (sym h)
      (by_count (first / 16) m.count o (ltb (first / 16) m.count) refl)

  turned_back : (first second : ℕ) → put_back m (worker_of first m.count) (spot_at (worker_of first m.count))
      (turned_of bits (fixed_on m.ring) (ends_on m.ring) (slot_at (spot_at (worker_of first m.count))) (record_of_worker m.workers (worker_of first m.count))
      m.meter m.count first second) ≡ turn_at bits m first second
  unfolding turned_of turn_of_by
  turned_back first second = at_entry first (entry_of first second) (who first second)

  -- the same with what the code has
  pub put_back_lem : (w k count : ℕ) (t : Turned) (first second : ℕ) → count ≡ m.count → w ≡ worker_of first count → k ≡ slot_of_ring (fixed_on m.ring) (record_of_worker m.workers w)
      → t ≡ turned_of bits (fixed_on m.ring) (ends_on m.ring) (get_or m.ring.slots k (slot 0 0)) (record_of_worker m.workers w) m.meter count first second
      → put_back m w k t ≡ turn_at bits m first second
  put_back_lem w k count t first second n ew ek et =
      ap (put_back m w k) (et ∙ ap (λ (c : ℕ). turned_of bits (fixed_on m.ring) (ends_on m.ring) (slot_at k) (record_of_worker m.workers w) m.meter c first second) n)
      ∙ ap (λ (j : ℕ). put_back m w j (turned_of bits (fixed_on m.ring) (ends_on m.ring) (slot_at j) (record_of_worker m.workers w) m.meter m.count first second)) ek
      ∙ ap (λ (v : ℕ). put_back m v (spot_at v) (turned_of bits (fixed_on m.ring) (ends_on m.ring) (slot_at (spot_at v)) (record_of_worker m.workers v) m.meter
      m.count first second)) (ew ∙ ap (worker_of first) n)
      ∙ turned_back first second
