-- Demand 1: refusals change nothing, and only one answer meets a promise. (Their numbers: Numbers.antt.)
use Prim.Native.Nat.{ℕ, ◌%◌}
use mathlib.Core.Path.{◌≡◌, refl, sym, ◌∙◌}
use mathlib.Core.Bool.{Bool, cond}
use mathlib.Core.List.{List}
use native.Mathlib.Omega.{arith}
use lib.Dec.{ltb}
use lib.ListN.{length}
use borrow.Author.Tests.{ne_eqb}
use Rattle.queue_entries.specs.Limits.{workers_most, in_limits}
use Rattle.queue_entries.specs.declared.Order.{Order}
use Rattle.queue_entries.specs.declared.Entry.{Entry}
use Rattle.queue_entries.specs.declared.Entry.TheVariants.{Unreadable, Asks}
use Rattle.queue_entries.specs.declared.Verdict.{Verdict}
use Rattle.queue_entries.specs.declared.Verdict.TheVariants.{Refuse, Start, Move}
use Rattle.queue_schedules.proofs.Schedules.{Queue, schedule_first, schedule_read, schedule_kept, schedule_unread}
use Rattle.queue_schedules.proofs.Verdicts.{Sense, sense}
use Rattle.unbounded_words.specs.Words.{sizes}
use Rattle.unbounded_places.specs.declared.Place.{Place}
use Rattle.unbounded_places.specs.Places.{view_of, begin_of}
use Rattle.unbounded_acts.specs.Acts.{act_of}
use Rattle.unbounded_machine.specs.declared.Machine.{Machine}
use Rattle.unbounded_machine.specs.declared.Did.{Did}
use Rattle.unbounded_machine.specs.declared.Ran.{Ran}
use Rattle.unbounded_machine.specs.Machine.{place_of, fresh_of, blank, refused, accepted}
use Rattle.unbounded_machine.specs.Broken.{broken_of}
use Rattle.unbounded_machine.specs.Contents.{contents_refusal, written}
use Rattle.unbounded_machine.specs.Turn.{entry_here, verdict_of, lowest_free, begun, used_by, taken_by, moved_by, carried_by, turn_by, turn_with, turn_of}
use Rattle.unbounded_machine.specs.Run.{ran, run_of}
use Rattle.unbounded_machine.proofs.Fits.{either}
use Rattle.unbounded.proofs.Steps.{turn_unchanged}
use Rattle.unbounded.specs.Unbounded as face
use Rattle.unbounded_demands.specs.Demands.{RefusedUnchanged, ListFirst, OnlyOne}

-- ---- one answer
one : {A : Type 0} (d x y : A) → x ≡ d → y ≡ d → x ≡ y
one d x y p q = p ∙ sym q

pub only_one : OnlyOne
only_one = record {
  make = (λ w. one (face.make_of sizes w));
  step = (λ m a b. one (face.step_of sizes m a b));
  begin = (λ m a b. one (face.begin_step_of sizes m a b));
  act = (λ m a b. one (face.act_step_of sizes m a b));
  run = (λ m s. one (run_of sizes m s));
  contents = (λ m before x y a b p q. (one _ x y p.0 q.0, one _ a b p.1 q.1));
  capacity = (λ m. one _);
  broken = (λ m. one _);
}

-- a pick between two
picked : {A : Type 0} (P : A → Type 0) (b : Bool) (x y : A) → P x → P y → P (cond b x y)
picked P b x y p q = either P b x y (λ h. p) (λ h. q)

-- ---- unchanged
abbrev Kept : Machine → Did → Type 0
Kept m d = (d.refusal ≡ 0 → ⊥) → d.machine ≡ m

refused_kept : (k : ℕ) (m : Machine) → Kept m (refused k m)
unfolding refused
refused_kept k m h = refl

accepted_kept : (k m : Machine) → Kept k (accepted m)
unfolding accepted
accepted_kept k m h = absurd (h refl)

pub turn_kept : (m : Machine) (a b : ℕ) → Kept m (turn_of sizes m a b)
turn_kept m a b h = turn_unchanged m a b (ne_eqb _ _ h)

module _ (m : Machine) (a b : ℕ) where
  begin_kept : Kept m (face.begin_step_of sizes m a b)
  unfolding face.begin_step_of
  begin_kept =
      picked (Kept m) (broken_of sizes m) (refused 6 m) _ (refused_kept 6 m)
      (picked (Kept m) (ltb (a % 16) 8) (turn_of sizes m a b) (refused 9 m) (turn_kept m a b) (refused_kept 9 m))

  act_kept : Kept m (face.act_step_of sizes m a b)
  unfolding face.act_step_of
  act_kept =
      picked (Kept m) (broken_of sizes m) (refused 6 m) _ (refused_kept 6 m)
      (picked (Kept m) (ltb (a % 16) 8) (refused 9 m) (turn_of sizes m a b) (refused_kept 9 m) (turn_kept m a b))

make_blank : (w : ℕ) → Kept (blank sizes) (face.make_of sizes w)
unfolding face.make_of
make_blank w =
    picked (Kept (blank sizes)) (in_limits w workers_most) (accepted (fresh_of sizes w)) (refused 2 (blank sizes)) (accepted_kept (blank sizes) (fresh_of sizes w)) (refused_kept 2 (blank sizes))

contents_kept : (m : Machine) (buffer : List ℕ) → (contents_refusal sizes m (length buffer) ≡ 0 → ⊥) → written sizes m buffer ≡ buffer
unfolding written
contents_kept m buffer h = simp (ne_eqb _ _ h)

-- ---- 9 is the refusal of two words that can't be read alone
abbrev Other : Did → Type 0
Other d = d.refusal ≡ 9 → ⊥

refused_other : (k : ℕ) (m : Machine) → (k ≡ 9 → ⊥) → Other (refused k m)
unfolding refused
refused_other k m h = h

accepted_other : (m : Machine) → Other (accepted m)
unfolding accepted
accepted_other m h = omega arith

moved_other : (m : Machine) (w : ℕ) (p : Place) (lose : Bool) → Other (moved_by sizes act_of m w p lose)
unfolding moved_by
moved_other m w p lose =
    picked Other (view_of sizes p).takes _ (accepted (used_by sizes act_of m w p lose))
    (picked Other (ltb (lowest_free sizes m.blocks) 64) (accepted (taken_by sizes act_of m w p lose (lowest_free sizes m.blocks))) (refused 23 m)
    (accepted_other _) (refused_other 23 m (λ h. omega arith)))
    (accepted_other _)

carried_other : (m : Machine) (w : ℕ) (p : Place) (v : Verdict) → Sense m.meter (view_of sizes p).busy v → Other (carried_by sizes act_of m w p v)
carried_other m w p (Refuse k) h = refused_other k m (λ e. omega (arith, h.1))
carried_other m w p (Start c) h = accepted_other (begun m w (begin_of c))
carried_other m w p (Move lose) h = moved_other m w p lose

asks_other : (m : Machine) (w : ℕ) (o : Order) → Other (turn_by sizes act_of m (Asks w o))
asks_other m w o =
    let p = place_of m.workers w in
    picked Other (ltb w m.count) (carried_by sizes act_of m w p (verdict_of sizes m.meter p o)) (refused 3 m)
    (carried_other m w p (verdict_of sizes m.meter p o) (sense m.meter (view_of sizes p).busy (view_of sizes p).weak o)) (refused_other 3 m (λ h. omega arith))

pub only_unread : (m : Machine) (a b : ℕ) → (turn_of sizes m a b).refusal ≡ 9 → entry_here a b ≡ Unreadable
unfolding turn_with
only_unread m a b =
    picked (λ (d : Did). d.refusal ≡ 9 → entry_here a b ≡ Unreadable) (broken_of sizes m) (refused 6 m) (turn_by sizes act_of m (entry_here a b))
    (λ e. absurd (refused_other 6 m (λ h. omega arith) e)) (read (entry_here a b))
  where
    read : (x : Entry) → (turn_by sizes act_of m x).refusal ≡ 9 → x ≡ Unreadable
    read Unreadable e = refl
    read (Asks w o) e = absurd (asks_other m w o e)

-- ---- the queue of these turns and reports
pub ran_refusal : (k i : ℕ) (m : Machine) → (ran k i m).refusal ≡ k
unfolding ran
ran_refusal k i m = refl

pub ran_place : (k i : ℕ) (m : Machine) → (ran k i m).place ≡ i
unfolding ran
ran_place k i m = refl

pub ran_machine : (k i : ℕ) (m : Machine) → (ran k i m).machine ≡ m
unfolding ran
ran_machine k i m = refl

abbrev pub unbounded_queue : Queue Machine Did Ran
unbounded_queue =
    record {
      refusal = λ d. d.refusal;
      machine = λ d. d.machine;
      turn = turn_with sizes act_of;
      ran = ran;
      refusal_in = λ r. r.refusal;
      place_in = λ r. r.place;
      machine_in = λ r. r.machine;
      refusal_is = ran_refusal;
      place_is = ran_place;
      machine_is = ran_machine;
      kept = turn_kept;
      reading = entry_here;
      only_unread = only_unread;
    }

pub list_first : ListFirst
list_first =
    record {
      stops = schedule_first unbounded_queue (broken_of sizes);
      runs = λ m s e even. schedule_read unbounded_queue (broken_of sizes) m s e (λ o. omega arith);
    }

pub refused_unchanged : RefusedUnchanged
refused_unchanged = record {
  make = make_blank;
  step = turn_kept;
  begin = begin_kept;
  act = act_kept;
  run = schedule_kept unbounded_queue (broken_of sizes);
  unread = schedule_unread unbounded_queue (broken_of sizes);
  contents = contents_kept;
}
