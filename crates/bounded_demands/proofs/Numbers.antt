-- Which refusals each function can give, and no others.
use Prim.Native.Nat.{ℕ, ◌+◌, ◌/◌, ◌%◌, ◌≤◌}
use mathlib.Core.Path.{◌≡◌, refl, sym, subst}
use mathlib.Core.Bool.{Bool, true, false, cond, true≢false}
use mathlib.Core.List.{List, [], ◌∷◌}
use native.Mathlib.Omega.{arith}
use lib.Dec.{ltb, eqb}
use lib.ListN.{length}
use borrow.Author.Tests.{eqb-true}
use Rattle.queue_entries.specs.Limits.{workers_most, meter_most, in_limits}
use Rattle.std.specs.Prelude.{Option, Some, None}
use Rattle.queue_entries.specs.Schedules.{run_by, search_by, searched, schedule_by}
use Rattle.queue_entries.specs.declared.Call.{Call}
use Rattle.queue_entries.specs.declared.Order.{Order}
use Rattle.queue_entries.specs.declared.Order.TheVariants.{Begin, Act}
use Rattle.queue_entries.specs.declared.Entry.{Entry}
use Rattle.queue_entries.specs.declared.Entry.TheVariants.{Unreadable, Asks}
use Rattle.queue_entries.specs.declared.Verdict.{Verdict}
use Rattle.queue_entries.specs.declared.Verdict.TheVariants.{Refuse, Start, Move}
use Rattle.queue_entries.specs.Entries.{call_of, stray_of, order_of, entry_of}
use Rattle.queue_entries.proofs.Pick.{both_left, both_right}
use Rattle.queue_schedules.proofs.Verdicts.{Sense, sense}
use Rattle.bounded_words.specs.declared.Width.{Width}
use Rattle.bounded_words.specs.declared.Width.TheVariants.{SixtyFour}
use Rattle.bounded_words.specs.Limits.{slots_most, editions_most}
use Rattle.bounded_places.specs.declared.Place.{Place}
use Rattle.bounded_places.specs.Places.{view_of, begin_of}
use Rattle.bounded_acts.specs.Acts.{act_of}
use Rattle.bounded_machine.specs.declared.Machine.{Machine}
use Rattle.bounded_machine.specs.declared.Did.{Did}
use Rattle.bounded_machine.specs.declared.Ran.{Ran}
use Rattle.bounded_machine.specs.Machine.{fresh_of, blank, place_of, refused, accepted}
use Rattle.bounded_machine.specs.Broken.{broken_of, all_idle}
use Rattle.bounded_machine.specs.Contents.{count_in, contents_refusal, capacity_refusal}
use Rattle.bounded_machine.specs.Turn.{verdict_of, begun, acted, carried, turn, turn_at, turn_of_by}
use Rattle.bounded_machine.specs.Run.{ran, run_at, run_of_by}
use Rattle.bounded_machine.proofs.Kept.{either}
use Rattle.bounded_step_machine.specs.Steps.{step_of_by, begin_step_of_by, act_step_of_by}
use Rattle.bounded.specs.Bounded as face
use Rattle.bounded_demands.specs.Notions.{has, sixty_four}
use Rattle.bounded_demands.specs.Demands.{Numbered}

-- a pick between two
pub picked : {A : Type 0} (P : A → Type 0) (b : Bool) (x y : A) → P x → P y → P (cond b x y)
picked P b x y p q = either P b x y (λ h. p) (λ h. q)

-- a list whose every number is in another
unfoldable within : List ℕ → List ℕ → Bool
within [] k = true
within (x ∷ l) k = cond (has k x) (within l k) false

wider : (l k : List ℕ) (n : ℕ) → within l k ≡ true → has l n ≡ true → has k n ≡ true
unfolding has within
wider [] k n i h = absurd (true≢false (sym h))
wider (x ∷ l) k n i h = go (wider l k n (both_right (has k x) (within l k) i)) (eqb n x) refl
  where
    go : (has l n ≡ true → has k n ≡ true) → (b : Bool) → eqb n x ≡ b → has k n ≡ true
    go rest true e = subst (λ (z : ℕ). has k z ≡ true) (sym (eqb-true n x e)) (both_left (has k x) (within l k) i)
    go rest false e = rest (rw e at h)

module _ (l : List ℕ) where
  abbrev Among : Did → Type 0
  Among d = has l d.refusal ≡ true

  refused_among : (k : ℕ) (m : Machine) → has l k ≡ true → Among (refused k m)
  unfolding refused
  refused_among k m h = h

  accepted_among : (m : Machine) → has l 0 ≡ true → Among (accepted m)
  unfolding accepted
  accepted_among m h = h

  abbrev Sure : Verdict → Type 0
  Sure (Refuse k) = has l k ≡ true
  Sure (Start c) = has l 0 ≡ true
  Sure (Move lose) = has l 0 ≡ true

  carried_among : (bits : Width) (m : Machine) (w : ℕ) (p : Place) (v : Verdict) → Sure v → Among (carried bits m w p v)
  carried_among bits m w p (Refuse k) h = refused_among k m h
  carried_among bits m w p (Start c) h = accepted_among (begun m w (begin_of c)) h
  carried_among bits m w p (Move lose) h = accepted_among (acted bits m w p lose) h

  asked : (bits : Width) (m : Machine) (w : ℕ) (o : Order) → has l 3 ≡ true → Sure (verdict_of m.meter (place_of m.workers w) o) → Among (turn bits m (Asks w o))
  asked bits m w o three s =
      picked Among (ltb w m.count) (carried bits m w (place_of m.workers w) (verdict_of m.meter (place_of m.workers w) o)) (refused 3 m)
      (carried_among bits m w (place_of m.workers w) (verdict_of m.meter (place_of m.workers w) o) s) (refused_among 3 m three)

abbrev begins : List ℕ
begins = 0 ∷ 3 ∷ 4 ∷ 9 ∷ []

abbrev acts : List ℕ
acts = 0 ∷ 3 ∷ 5 ∷ 7 ∷ 8 ∷ 9 ∷ []

abbrev entries : List ℕ
entries = 0 ∷ 3 ∷ 4 ∷ 5 ∷ 7 ∷ 8 ∷ 9 ∷ []

begin_sure : (meter : ℕ) (p : Place) (c : Call) → Sure begins (verdict_of meter p (Begin c))
unfolding has
begin_sure meter p c = picked (Sure begins) (view_of p).busy (Refuse 4) (Start c) refl refl

act_sure : (meter : ℕ) (p : Place) (lose : Bool) → Sure acts (verdict_of meter p (Act lose))
unfolding has
act_sure meter p lose =
    picked (Sure acts) (view_of p).busy _ (Refuse 5)
    (picked (Sure acts) (ltb meter meter_most) _ (Refuse 7)
    (picked (Sure acts) lose _ (Move false) (picked (Sure acts) (view_of p).weak (Move true) (Refuse 8) refl refl) refl)
    refl)
    refl

module _ (bits : Width) (m : Machine) (a b : ℕ) where
  turn_begin : ltb (a % 16) 8 ≡ true → Among begins (turn_at bits m a b)
  unfolding turn_of_by entry_of order_of has
  turn_begin l =
      picked (λ (x : Entry). Among begins (turn bits m x)) (stray_of (a % 16) b) Unreadable _ (refused_among begins 9 m refl)
      (rw l (asked begins bits m (a / 16) (Begin (call_of (a % 16) b)) refl (begin_sure m.meter (place_of m.workers (a / 16)) (call_of (a % 16) b))))

  turn_act : ltb (a % 16) 8 ≡ false → Among acts (turn_at bits m a b)
  unfolding turn_of_by entry_of order_of has
  turn_act l =
      picked (λ (x : Entry). Among acts (turn bits m x)) (stray_of (a % 16) b) Unreadable _ (refused_among acts 9 m refl)
      (rw l (picked (λ (x : Entry). Among acts (turn bits m x)) (ltb (a % 16) 10) (Asks (a / 16) (Act (eqb (a % 16) 9))) Unreadable
      (asked acts bits m (a / 16) (Act (eqb (a % 16) 9)) refl (act_sure m.meter (place_of m.workers (a / 16)) (eqb (a % 16) 9)))
      (refused_among acts 9 m refl)))

  turn_any : Among entries (turn_at bits m a b)
  unfolding has within
  turn_any = go (ltb (a % 16) 8) refl
    where
      go : (x : Bool) → ltb (a % 16) 8 ≡ x → Among entries (turn_at bits m a b)
      go true l = wider begins entries (turn_at bits m a b).refusal refl (turn_begin l)
      go false l = wider acts entries (turn_at bits m a b).refusal refl (turn_act l)

  pub turned_among : has (0 ∷ 3 ∷ 4 ∷ 5 ∷ 6 ∷ 7 ∷ 8 ∷ 9 ∷ []) (turn_at bits m a b).refusal ≡ true
  unfolding has within
  turned_among = wider entries (0 ∷ 3 ∷ 4 ∷ 5 ∷ 6 ∷ 7 ∷ 8 ∷ 9 ∷ []) (turn_at bits m a b).refusal refl turn_any

  pub step_among : has (0 ∷ 3 ∷ 4 ∷ 5 ∷ 6 ∷ 7 ∷ 8 ∷ 9 ∷ []) (step_of_by (act_of bits) m a b).refusal ≡ true
  unfolding step_of_by has refused
  step_among =
      picked (λ (d : Did). has (0 ∷ 3 ∷ 4 ∷ 5 ∷ 6 ∷ 7 ∷ 8 ∷ 9 ∷ []) d.refusal ≡ true) (broken_of m) (refused 6 m) (turn_at bits m a b) refl turned_among

  pub begin_among : has (0 ∷ 3 ∷ 4 ∷ 6 ∷ 9 ∷ []) (begin_step_of_by (act_of bits) m a b).refusal ≡ true
  unfolding begin_step_of_by has within refused
  begin_among =
      picked (λ (d : Did). has (0 ∷ 3 ∷ 4 ∷ 6 ∷ 9 ∷ []) d.refusal ≡ true) (broken_of m) (refused 6 m) _ refl
      (either (λ (d : Did). has (0 ∷ 3 ∷ 4 ∷ 6 ∷ 9 ∷ []) d.refusal ≡ true) (ltb (a % 16) 8) (turn_at bits m a b) (refused 9 m)
      (λ l. wider begins (0 ∷ 3 ∷ 4 ∷ 6 ∷ 9 ∷ []) (turn_at bits m a b).refusal refl (turn_begin l)) (λ l. refl))

  pub act_among : has (0 ∷ 3 ∷ 5 ∷ 6 ∷ 7 ∷ 8 ∷ 9 ∷ []) (act_step_of_by (act_of bits) m a b).refusal ≡ true
  unfolding act_step_of_by has within refused
  act_among =
      picked (λ (d : Did). has (0 ∷ 3 ∷ 5 ∷ 6 ∷ 7 ∷ 8 ∷ 9 ∷ []) d.refusal ≡ true) (broken_of m) (refused 6 m) _ refl
      (either (λ (d : Did). has (0 ∷ 3 ∷ 5 ∷ 6 ∷ 7 ∷ 8 ∷ 9 ∷ []) d.refusal ≡ true) (ltb (a % 16) 8) (refused 9 m) (turn_at bits m a b)
      (λ l. refl) (λ l. wider acts (0 ∷ 3 ∷ 5 ∷ 6 ∷ 7 ∷ 8 ∷ 9 ∷ []) (turn_at bits m a b).refusal refl (turn_act l)))

abbrev runs : List ℕ
runs = 0 ∷ 3 ∷ 4 ∷ 5 ∷ 6 ∷ 7 ∷ 8 ∷ 9 ∷ 11 ∷ []

from_among : (bits : Width) (m : Machine) (i : ℕ) (s : List ℕ) → has runs (run_at bits m i s).refusal ≡ true
unfolding run_by ran has within
from_among bits m i [] = refl
from_among bits m i (a ∷ []) = refl
from_among bits m i (a ∷ b ∷ s) =
    picked (λ (r : Ran). has runs r.refusal ≡ true) (eqb (turn_at bits m a b).refusal 0) (run_at bits (turn_at bits m a b).machine (i + 1) s) (ran (turn_at bits m a b).refusal i m)
    (from_among bits (turn_at bits m a b).machine (i + 1) s) (wider entries runs (turn_at bits m a b).refusal refl (turn_any bits m a b))

-- of a machine that is broken by any rule
pub schedule_among : (bits : Width) (broken : Machine → Bool) (m : Machine) (s : List ℕ)
    → has runs (schedule_by (λ (d : Did). d.refusal) (λ (d : Did). d.machine) (turn_at bits) ran broken entry_of m s).refusal ≡ true
unfolding schedule_by ran has
schedule_among bits broken m s =
    picked (λ (r : Ran). has runs r.refusal ≡ true) (broken m) (ran 6 0 m) _ refl
    (picked (λ (r : Ran). has runs r.refusal ≡ true) (eqb (length s % 2) 1) (ran 11 0 m) _ refl (found (search_by entry_of 0 s)))
  where
    found : (f : Option ℕ) → has runs (searched (λ (d : Did). d.refusal) (λ (d : Did). d.machine) (turn_at bits) ran m s f).refusal ≡ true
    found None = from_among bits m 0 s
    found (Some k) = refl

pub run_among : (bits : Width) (m : Machine) (s : List ℕ) → has runs (run_of_by (act_of bits) m s).refusal ≡ true
run_among bits = schedule_among bits broken_of

-- ---- 9 is the refusal of two words that can't be read alone
carried_low : (bits : Width) (m : Machine) (w : ℕ) (p : Place) (v : Verdict) → Sense m.meter (view_of p).busy v → (carried bits m w p v).refusal ≤ 8
unfolding refused accepted
carried_low bits m w p (Refuse k) h = h.1
carried_low bits m w p (Start c) h = omega arith
carried_low bits m w p (Move lose) h = omega arith

asks_low : (bits : Width) (m : Machine) (w : ℕ) (o : Order) → (turn bits m (Asks w o)).refusal ≤ 8
unfolding refused
asks_low bits m w o =
    let p = place_of m.workers w in
    picked (λ (d : Did). d.refusal ≤ 8) (ltb w m.count) (carried bits m w p (verdict_of m.meter p o)) (refused 3 m)
    (carried_low bits m w p (verdict_of m.meter p o) (sense m.meter (view_of p).busy (view_of p).weak o)) (omega arith)

pub only_unread : (bits : Width) (m : Machine) (a b : ℕ) → (turn_at bits m a b).refusal ≡ 9 → entry_of a b ≡ Unreadable
unfolding turn_of_by
only_unread bits m a b e = go (entry_of a b) e
  where
    go : (x : Entry) → (turn bits m x).refusal ≡ 9 → x ≡ Unreadable
    go Unreadable h = refl
    go (Asks w o) h = absurd (omega (arith, asks_low bits m w o))

pub make_among : (c w e : ℕ) → has (0 ∷ 1 ∷ 2 ∷ 18 ∷ []) (face.make_of c w e).refusal ≡ true
unfolding face.make_of has refused accepted
make_among c w e =
    picked Made (in_limits c slots_most) _ (refused 1 blank)
    (picked Made (in_limits w workers_most) _ (refused 2 blank) (picked Made (in_limits e editions_most) (accepted (fresh_of c w e)) (refused 18 blank) refl refl) refl)
    refl
  where
    Made : Did → Type 0
    Made d = has (0 ∷ 1 ∷ 2 ∷ 18 ∷ []) d.refusal ≡ true

pub contents_among : (m : Machine) (room : ℕ) → has (0 ∷ 4 ∷ 6 ∷ 10 ∷ []) (contents_refusal m room) ≡ true
unfolding contents_refusal has
contents_among m room =
    picked Told (broken_of m) 6 _ refl (picked Told (all_idle m.workers) _ 4 (picked Told (ltb room (count_in m)) 10 0 refl refl) refl)
  where
    Told : ℕ → Type 0
    Told k = has (0 ∷ 4 ∷ 6 ∷ 10 ∷ []) k ≡ true

pub capacity_among : (m : Machine) → has (0 ∷ 6 ∷ []) (capacity_refusal m) ≡ true
unfolding capacity_refusal has
capacity_among m = picked (λ (k : ℕ). has (0 ∷ 6 ∷ []) k ≡ true) (broken_of m) 6 0 refl refl

pub numbered : Numbered sixty_four
numbered =
    record {
      make = make_among;
      step = step_among SixtyFour;
      begin = begin_among SixtyFour;
      act = act_among SixtyFour;
      run = run_among SixtyFour;
      contents = contents_among;
      capacity = capacity_among;
    }
