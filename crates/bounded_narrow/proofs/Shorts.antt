-- Every word that the tables store at sixteen bits fits in sixteen bits.
use Prim.Native.Nat.{ℕ, zero, suc, ◌+◌, ◌%◌, ◌≤◌, ◌<◌}
use mathlib.Core.Path.{refl, sym}
use mathlib.Core.Bool.{Bool, true}
use mathlib.Core.List.{List, [], ◌∷◌}
use native.Mathlib.Omega.{arith}
use native.Mathlib.Nat.{mod-lt}
use lib.Dec.{ltb, eqb}
use lib.ListN.{length, get_or, replicate}
use Rattle.queue_entries.specs.Limits.{workers_most, in_limits}
use Rattle.queue_entries.specs.Schedules.{run_by, search_by, searched, schedule_by}
use Rattle.std.specs.Prelude.{Option, Some, None}
use Rattle.queue_entries.specs.declared.Entry.{Entry}
use Rattle.queue_entries.specs.declared.Entry.TheVariants.{Unreadable, Asks}
use Rattle.queue_entries.specs.Entries.{entry_of}
use Rattle.queue_entries.specs.declared.Verdict.{Verdict}
use Rattle.queue_entries.specs.declared.Verdict.TheVariants.{Refuse, Start, Move}
use Rattle.queue_entries.proofs.Limits.{limit_most}
use Rattle.bounded_words.specs.declared.Stamp.{Stamp}
use Rattle.bounded_words.specs.declared.Fixed.{Fixed}
use Rattle.bounded_words.specs.declared.Width.TheVariants.{Sixteen}
use Rattle.bounded_words.specs.Limits.{slots_most, editions_most, narrow}
use Rattle.bounded_words.specs.Words.{index_of, marked_of, unmarked_of, plus, minus, with_mark, next_of, same, one_past, lap_behind, lap_behind_one_past}
use Rattle.bounded_places.specs.declared.Slot.{Slot}
use Rattle.bounded_places.specs.declared.Ends.{Ends}
use Rattle.bounded_places.specs.declared.Kind.TheVariants.{Push}
use Rattle.bounded_places.specs.declared.Answer.TheVariants.{Full, Empty, PopClosed, Len, Yes, No}
use Rattle.bounded_places.specs.declared.Exchange.{Exchange}
use Rattle.bounded_places.specs.declared.Place.{Place}
use Rattle.bounded_places.specs.declared.Place.TheVariants.{Idle, P1, P2, P3, P4, P5, P6, F6, F7, F8, F9, O1, O2, O3, O4, O5, O6, Len1, Len2, Len3, Empty1, Empty2, Full1, Full2, Close1, IsClosed1}
use Rattle.bounded_places.specs.Places.{view_of}
use Rattle.bounded_acts.specs.declared.Acted.{Acted}
use Rattle.bounded_acts.specs.Acts.{goes, losing, end_p3, end_f6, end_o3, tail_to, head_to, stamp_to, value_to, forced_tail, full_at, count_of, act_of}
use Rattle.bounded_machine.specs.declared.Machine.{Machine}
use Rattle.bounded_machine.specs.declared.Did.{Did}
use Rattle.bounded_machine.specs.declared.Ran.{Ran}
use Rattle.bounded_machine.specs.Machine.{slot, empty_slots, stamped, fresh_slots, fresh_with, fresh_of, blank, place_of, refused, accepted, fixed_on, ends_on}
use Rattle.bounded_machine.specs.Broken.{broken_of}
use Rattle.bounded_machine.specs.Turn.{verdict_of, spot_of, begun, acted, acted_by, stored, carried, turn, turn_at, turn_of_by}
use Rattle.bounded_machine.specs.Run.{ran, run_at, run_of_by}
use Rattle.bounded_machine.proofs.Kept.{either, exchanged, placed}
use Rattle.bounded_step_machine.specs.Steps.{step_of_by, begin_step_of_by, act_step_of_by}
use Rattle.bounded.specs.Bounded.{make_of}
use Rattle.bounded_sixteen_bits.specs.SixteenBits.{ShortSlots, Short}

-- ---- words

abbrev Fit : Stamp → Type 0
Fit w = w.0 < narrow

plus_short : (w : Stamp) (n : ℕ) → Fit (plus Sixteen w n)
unfolding plus
plus_short w n = mod-lt (w.0 + n) (omega arith)

minus_short : (w : Stamp) (n : ℕ) → Fit (minus Sixteen w n)
unfolding minus
minus_short w n = mod-lt _ (omega arith)

next_short : (f : Fixed) (w : Stamp) → Fit (next_of Sixteen f w)
unfolding next_of
next_short f w =
    either Fit (ltb (index_of f w + 1) f.capacity) (plus Sixteen w 1) _ (λ b. plus_short w 1) (λ b. plus_short _ f.lap)

mark_short : (f : Fixed) (w : Stamp) → Fit w → Fit (with_mark Sixteen f w)
unfolding with_mark
mark_short f w h = either Fit (marked_of f w) w (plus Sixteen w f.mark) (λ b. h) (λ b. plus_short w f.mark)

forced_short : (f : Fixed) (tail t : Stamp) → Fit (forced_tail Sixteen f tail t)
unfolding forced_tail
forced_short f tail t =
    either Fit (eqb f.edition 2) _ (next_of Sixteen f t)
    (λ b. either Fit (marked_of f tail) (with_mark Sixteen f (next_of Sixteen f t)) (next_of Sixteen f t) (λ d. mark_short f (next_of Sixteen f t) (next_short f t)) (λ d. next_short f t))
    (λ b. next_short f t)

-- ---- an act

abbrev Left : Acted → Type 0
Left a = Fit a.ends.head × Fit a.ends.tail × Fit a.slot.stamp

module _ (f : Fixed) (e : Ends) (s : Slot) (o : Fit e.head × Fit e.tail × Fit s.stamp) where
  leaves : (p : Place) (lose : Bool) → Left (act_of Sixteen f e s p lose)
  unfolding goes losing tail_to head_to stamp_to value_to
  leaves (Idle a) lose = o
  leaves (P1 k x) lose = o
  leaves (P2 k t x) lose =
      either Left (same s.stamp t) (goes e s (P3 k t x)) _ (λ b. o)
      (λ b. either Left (lap_behind_one_past Sixteen f s.stamp t) (goes e s (full_at k t x)) (goes e s (P1 k x)) (λ d. o) (λ d. o))
  leaves (P3 k t x) lose =
      exchanged (λ (y : Exchange). Left (end_p3 Sixteen f e s k t x y)) e.tail t lose (λ b d. o) (λ b d. (o.0, next_short f t, o.2)) (λ b. o)
  leaves (P4 t x) lose = o
  leaves (P5 t) lose = (o.0, o.1, plus_short t 1)
  leaves (P6 t x) lose = either Left (lap_behind Sixteen f e.head t) (goes e s (Idle (Full x))) (goes e s (P1 Push x)) (λ b. o) (λ b. o)
  leaves (F6 t x) lose =
      exchanged (λ (y : Exchange). Left (end_f6 Sixteen f e s t x y)) e.head (minus Sixteen t f.lap) lose (λ b d. o) (λ b d. (minus_short _ f.lap, o.1, o.2)) (λ b. o)
  leaves (F7 t x) lose = (o.0, forced_short f e.tail t, o.2)
  leaves (F8 t x) lose = o
  leaves (F9 t old) lose = (o.0, o.1, plus_short t 1)
  leaves O1 lose = o
  leaves (O2 h) lose =
      either Left (one_past Sixteen s.stamp h) (goes e s (O3 h)) _ (λ b. o) (λ b. either Left (same s.stamp h) (goes e s (O6 h)) (goes e s O1) (λ d. o) (λ d. o))
  leaves (O3 h) lose = exchanged (λ (y : Exchange). Left (end_o3 Sixteen f e s h y)) e.head h lose (λ b d. o) (λ b d. (next_short f h, o.1, o.2)) (λ b. o)
  leaves (O4 h) lose = o
  leaves (O5 h v) lose = (o.0, o.1, plus_short h f.lap)
  leaves (O6 h) lose =
      either Left (same (unmarked_of f e.tail) h) _ (goes e s O1)
      (λ b. either Left (marked_of f e.tail) (goes e s (Idle PopClosed)) (goes e s (Idle Empty)) (λ d. o) (λ d. o)) (λ b. o)
  leaves Len1 lose = o
  leaves (Len2 t) lose = o
  leaves (Len3 t h) lose = either Left (same e.tail t) (goes e s (Idle (Len (count_of f t h)))) (goes e s Len1) (λ b. o) (λ b. o)
  leaves Empty1 lose = o
  leaves (Empty2 h) lose = o
  leaves Full1 lose = o
  leaves (Full2 t) lose = o
  leaves Close1 lose =
      either Left (marked_of f e.tail) (goes e s (Idle No)) (goes (tail_to e (with_mark Sixteen f e.tail)) s (Idle Yes)) (λ b. o)
      (λ b. (o.0, mark_short f e.tail o.1, o.2))
  leaves IsClosed1 lose = o

-- ---- an entry, a schedule

module _ (m : Machine) (o : Short m) where
  acted_short : (w : ℕ) (p : Place) (lose : Bool) → Short (acted Sixteen m w p lose)
  unfolding acted_by stored
  acted_short w p lose =
      let i : ℕ = spot_of (fixed_on m.ring) (view_of p).held in
      let l = leaves (fixed_on m.ring) (ends_on m.ring) (get_or m.ring.slots (spot_of (fixed_on m.ring) (view_of p).held) (slot 0 0)) (o.head, o.tail, o.slots i) p lose in
      record {
        head = l.0;
        tail = l.1;
        slots = λ k. placed m.ring.slots (spot_of (fixed_on m.ring) (view_of p).held) k _ (slot 0 0) (λ (z : Slot). z.stamp.0 < narrow) (λ e. l.2) (o.slots k);
      }

  carried_short : (w : ℕ) (p : Place) (v : Verdict) → Short (carried Sixteen m w p v).machine
  unfolding refused accepted begun
  carried_short w p (Refuse k) = o
  carried_short w p (Start c) = record { head = o.head; tail = o.tail; slots = o.slots }
  carried_short w p (Move lose) = acted_short w p lose

  turn_short : (x : Entry) → Short (turn Sixteen m x).machine
  unfolding refused
  turn_short Unreadable = o
  turn_short (Asks w q) =
      either (λ (d : Did). Short d.machine) (ltb w m.count) (carried Sixteen m w (place_of m.workers w) (verdict_of m.meter (place_of m.workers w) q)) (refused 3 m)
      (λ b. carried_short w (place_of m.workers w) (verdict_of m.meter (place_of m.workers w) q)) (λ b. o)

  pub entry_short : (first second : ℕ) → Short (turn_at Sixteen m first second).machine
  unfolding turn_of_by
  entry_short first second = turn_short (entry_of first second)

  pub step_short : (first second : ℕ) → Short (step_of_by (act_of Sixteen) m first second).machine
  unfolding step_of_by refused
  step_short first second =
      either (λ (d : Did). Short d.machine) (broken_of m) (refused 6 m) (turn_at Sixteen m first second) (λ b. o) (λ b. entry_short first second)

  pub begin_short : (first second : ℕ) → Short (begin_step_of_by (act_of Sixteen) m first second).machine
  unfolding begin_step_of_by refused
  begin_short first second =
      either (λ (d : Did). Short d.machine) (broken_of m) (refused 6 m) _ (λ b. o)
      (λ b. either (λ (d : Did). Short d.machine) (ltb (first % 16) 8) (turn_at Sixteen m first second) (refused 9 m) (λ d. entry_short first second) (λ d. o))

  pub act_short : (first second : ℕ) → Short (act_step_of_by (act_of Sixteen) m first second).machine
  unfolding act_step_of_by refused
  act_short first second =
      either (λ (d : Did). Short d.machine) (broken_of m) (refused 6 m) _ (λ b. o)
      (λ b. either (λ (d : Did). Short d.machine) (ltb (first % 16) 8) (refused 9 m) (turn_at Sixteen m first second) (λ d. o) (λ d. entry_short first second))

pub from_short : (s : List ℕ) (m : Machine) (place : ℕ) → Short m → Short (run_at Sixteen m place s).machine
unfolding run_by ran
from_short [] m place o = o
from_short (first ∷ []) m place o = o
from_short (first ∷ second ∷ rest) m place o =
    either (λ (r : Ran). Short r.machine) (eqb (turn_at Sixteen m first second).refusal 0) (run_at Sixteen (turn_at Sixteen m first second).machine (place + 1) rest)
    (ran (turn_at Sixteen m first second).refusal place m) (λ b. from_short rest (turn_at Sixteen m first second).machine (place + 1) (entry_short m o first second)) (λ b. o)

pub run_short : (m : Machine) → Short m → (s : List ℕ) → Short (run_of_by (act_of Sixteen) m s).machine
unfolding schedule_by ran
run_short m o s =
    either (λ (r : Ran). Short r.machine) (broken_of m) (ran 6 0 m) _ (λ b. o)
    (λ b. either (λ (r : Ran). Short r.machine) (eqb (length s % 2) 1) (ran 11 0 m) _ (λ d. o) (λ d. found (search_by entry_of 0 s)))
  where
    found : (f : Option ℕ) → Short (searched (λ (d : Did). d.refusal) (λ (d : Did). d.machine) (turn_at Sixteen) ran m s f).machine
    found None = from_short s m 0 o
    found (Some k) = o

-- ---- a made machine

stamped_short : (k : ℕ) (l : List Slot) → k ≤ narrow → ShortSlots l → ShortSlots (stamped k l)
unfolding stamped
stamped_short zero l few o = o
stamped_short (suc k) l few o =
    λ i. placed (stamped k l) k i (slot k 0) (slot 0 0) (λ (z : Slot). z.stamp.0 < narrow) (λ e. omega arith) (stamped_short k l (omega arith) o i)

same_short : (n i : ℕ) → (get_or (replicate n (slot 0 0)) i (slot 0 0)).stamp.0 < narrow
same_short zero i = omega arith
same_short (suc n) zero = omega arith
same_short (suc n) (suc i) = same_short n i

empty_short : ShortSlots empty_slots
unfolding empty_slots
empty_short i = same_short slots_most i

blank_short : Short blank
unfolding blank
blank_short = record { head = omega arith; tail = omega arith; slots = empty_short }

pub fresh_short : (c w e : ℕ) → c ≤ slots_most → Short (fresh_of c w e)
unfolding fresh_with fresh_slots
fresh_short c w e few = record { head = omega arith; tail = omega arith; slots = stamped_short c empty_slots (omega arith) empty_short }

pub make_short : (c w e : ℕ) → Short (make_of c w e).machine
unfolding make_of refused accepted
make_short c w e =
    either Made (in_limits c slots_most) _ (refused 1 blank)
    (λ hc. either Made (in_limits w workers_most) _ (refused 2 blank)
    (λ hw. either Made (in_limits e editions_most) (accepted (fresh_of c w e)) (refused 18 blank) (λ he. fresh_short c w e (limit_most c slots_most true (sym hc) refl)) (λ he. blank_short))
    (λ hw. blank_short))
    (λ hc. blank_short)
  where
    Made : Did → Type 0
    Made d = Short d.machine
