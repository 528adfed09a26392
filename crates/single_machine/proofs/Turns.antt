-- What an entry does, by how it was read; and that the one-slot queue's turns and reports are those of a queue.
use Prim.Native.Nat.{ℕ, ◌<◌, ◌≤◌}
use mathlib.Core.Path.{◌≡◌, refl, sym, ap, ◌∙◌}
use mathlib.Core.Bool.{false}
use native.Mathlib.Omega.{arith}
use lib.Dec.{ltb}
use Rattle.queue_entries.proofs.Pick.{below, above}
use Rattle.queue_entries.specs.declared.Order.{Order}
use Rattle.queue_entries.specs.declared.Entry.{Entry}
use Rattle.queue_entries.specs.declared.Entry.TheVariants.{Unreadable, Asks}
use Rattle.queue_entries.specs.Entries.{entry_of}
use Rattle.queue_entries.specs.declared.Verdict.{Verdict}
use Rattle.queue_entries.specs.declared.Verdict.TheVariants.{Refuse, Start, Move}
use Rattle.queue_schedules.proofs.Schedules.{either, picked, Queue}
use Rattle.queue_schedules.proofs.Verdicts.{Sense, sense}
use Rattle.single_places.specs.declared.Place.{Place}
use Rattle.single_places.specs.Places.{view_of, begin_of}
use Rattle.single_machine.specs.declared.Machine.{Machine}
use Rattle.single_machine.specs.declared.Did.{Did}
use Rattle.single_machine.specs.declared.Ran.{Ran}
use Rattle.single_machine.specs.Machine.{place_of, refused, accepted}
use Rattle.single_machine.specs.Turn.{verdict_of, begun, acted, carried, turn, turn_of, turn_of_by}
use Rattle.single_machine.specs.Run.{ran}

-- ---- a refused entry changes nothing
abbrev Kept : Machine → Did → Type 0
Kept m d = (d.refusal ≡ 0 → ⊥) → d.machine ≡ m

pub refused_kept : (m : Machine) (k : ℕ) → Kept m (refused k m)
unfolding refused
refused_kept m k h = refl

pub accepted_kept : (m next : Machine) → Kept m (accepted next)
unfolding accepted
accepted_kept m next h = absurd (h refl)

carried_kept : (m : Machine) (w : ℕ) (p : Place) (v : Verdict) → Kept m (carried m w p v)
carried_kept m w p (Refuse k) = refused_kept m k
carried_kept m w p (Start c) = accepted_kept m (begun m w (begin_of c))
carried_kept m w p (Move lose) = accepted_kept m (acted m w p)

pub turn_kept : (m : Machine) (x : Entry) → Kept m (turn m x)
turn_kept m Unreadable = refused_kept m 9
turn_kept m (Asks w o) =
    either (Kept m) (ltb w m.count) (carried m w (place_of m.workers w) (verdict_of m.meter (place_of m.workers w) o)) (refused 3 m)
    (λ b. carried_kept m w (place_of m.workers w) (verdict_of m.meter (place_of m.workers w) o)) (λ b. refused_kept m 3)

-- ---- the queue of these turns and reports
pub turn_of_kept : (m : Machine) (a b : ℕ) → Kept m (turn_of m a b)
unfolding turn_of_by
turn_of_kept m a b = turn_kept m (entry_of a b)

-- 9 is the refusal of two words that can't be read, and of no others
pub turn_of_unread : (m : Machine) (a b : ℕ) → entry_of a b ≡ Unreadable → (turn_of m a b).refusal ≡ 9
unfolding turn_of_by refused
turn_of_unread m a b h = ap (λ (x : Entry). (turn m x).refusal) h

carried_low : (m : Machine) (w : ℕ) (p : Place) (v : Verdict) → Sense m.meter (view_of p).busy v → (carried m w p v).refusal ≤ 8
unfolding refused accepted
carried_low m w p (Refuse k) h = h.1
carried_low m w p (Start c) h = omega arith
carried_low m w p (Move lose) h = omega arith

asks_low : (m : Machine) (w : ℕ) (o : Order) → (turn m (Asks w o)).refusal ≤ 8
unfolding refused
asks_low m w o =
    let p = place_of m.workers w in
    picked (λ (d : Did). d.refusal ≤ 8) (ltb w m.count) (carried m w p (verdict_of m.meter p o)) (refused 3 m)
    (carried_low m w p (verdict_of m.meter p o) (sense m.meter (view_of p).busy false o)) (omega arith)

pub only_unread : (m : Machine) (a b : ℕ) → (turn_of m a b).refusal ≡ 9 → entry_of a b ≡ Unreadable
unfolding turn_of_by
only_unread m a b e = go (entry_of a b) e
  where
    go : (x : Entry) → (turn m x).refusal ≡ 9 → x ≡ Unreadable
    go Unreadable h = refl
    go (Asks w o) h = absurd (omega (arith, asks_low m w o))

pub ran_refusal : (k i : ℕ) (m : Machine) → (ran k i m).refusal ≡ k
unfolding ran
ran_refusal k i m = refl

pub ran_place : (k i : ℕ) (m : Machine) → (ran k i m).place ≡ i
unfolding ran
ran_place k i m = refl

pub ran_machine : (k i : ℕ) (m : Machine) → (ran k i m).machine ≡ m
unfolding ran
ran_machine k i m = refl

abbrev pub single_queue : Queue Machine Did Ran
single_queue =
    record {
      refusal = λ d. d.refusal;
      machine = λ d. d.machine;
      turn = turn_of;
      ran = ran;
      refusal_in = λ r. r.refusal;
      place_in = λ r. r.place;
      machine_in = λ r. r.machine;
      refusal_is = ran_refusal;
      place_is = ran_place;
      machine_is = ran_machine;
      kept = turn_of_kept;
      reading = entry_of;
      only_unread = only_unread;
    }

-- ---- what an entry does
module _ (m : Machine) (first second : ℕ) (x : Entry) (ex : x ≡ entry_of first second) where
  pub unread : x ≡ Unreadable → turn_of m first second ≡ refused 9 m
  unfolding turn_of_by
  unread h = ap (turn m) (sym ex ∙ h)

  module _ (w : ℕ) (o : Order) (h : x ≡ Asks w o) where
    pub far : m.count ≤ w → turn_of m first second ≡ refused 3 m
    unfolding turn_of_by
    far g = ap (turn m) (sym ex ∙ h) ∙ sym (above w m.count _ _ _ g refl)

    pub near : (v : Verdict) → w < m.count → v ≡ verdict_of m.meter (place_of m.workers w) o → turn_of m first second ≡ carried m w (place_of m.workers w) v
    unfolding turn_of_by
    near v g e = ap (turn m) (sym ex ∙ h) ∙ sym (below w m.count _ _ _ g (ap (carried m w (place_of m.workers w)) e))
