-- Demand 1: refusals change nothing, and only one answer meets a promise. (Their numbers: Numbers.antt.)
use Prim.Native.Nat.{ℕ, ◌%◌, ◌<◌, ◌≤◌}
use mathlib.Core.Path.{◌≡◌, refl, sym, ◌∙◌}
use mathlib.Core.Bool.{true, false}
use mathlib.Core.List.{List}
use native.Mathlib.Omega.{arith}
use lib.Dec.{ltb}
use lib.ListN.{length, get_or-replicate}
use borrow.Author.Tests.{ne_eqb, ltb-true}
use Rattle.queue_entries.specs.Limits.{workers_most, in_limits}
use Rattle.queue_entries.specs.declared.Entry.{Entry}
use Rattle.queue_entries.specs.declared.Entry.TheVariants.{Unreadable, Asks}
use Rattle.queue_entries.specs.Entries.{entry_of}
use Rattle.queue_entries.specs.declared.Verdict.{Verdict}
use Rattle.queue_entries.specs.declared.Verdict.TheVariants.{Refuse, Start, Move}
use Rattle.queue_schedules.proofs.Schedules.{either, picked, schedule_first, schedule_read, schedule_keeps, schedule_unread, schedule_kept}
use Rattle.single_places.specs.declared.Place.{Place}
use Rattle.single_machine.specs.declared.Machine.{Machine}
use Rattle.single_machine.specs.declared.Did.{Did}
use Rattle.single_machine.specs.Machine.{idler, idlers, place_of, fresh_of, blank, refused, accepted}
use Rattle.single_machine.specs.Broken.{record_fits, broken_of}
use Rattle.single_machine.specs.Contents.{contents_refusal, written}
use Rattle.single_machine.specs.Turn.{verdict_of, carried, turn, turn_of, turn_of_by}
use Rattle.single_machine.specs.Run.{run_of}
use Rattle.single_machine.proofs.Kept.{Unbroken, unbroken_of, of_unbroken, begun_unbroken, acted_unbroken}
use Rattle.single_machine.proofs.Turns.{single_queue, refused_kept, accepted_kept, turn_of_kept}
use Rattle.single.specs.Single as face
use Rattle.single_demands.specs.Demands.{RefusedUnchanged, ListFirst, StaysUnbroken, OnlyOne}

-- ---- one answer
one : {A : Type 0} (d x y : A) → x ≡ d → y ≡ d → x ≡ y
one d x y p q = p ∙ sym q

pub only_one : OnlyOne
only_one = record {
  make = (λ w. one (face.make_of w));
  step = (λ m a b. one (face.step_of m a b));
  begin = (λ m a b. one (face.begin_step_of m a b));
  act = (λ m a b. one (face.act_step_of m a b));
  run = (λ m s. one (run_of m s));
  contents = (λ m before x y a b p q. (one _ x y p.0 q.0, one _ a b p.1 q.1));
  capacity = (λ m. one _);
  broken = (λ m. one _);
}

-- ---- what holds of a refusal 6 or 9 and of a turn holds of the three of the face
module _ (P : Machine → Did → Type 0) (no : (m : Machine) (k : ℕ) → k ≤ 11 → P m (refused k m)) (each : (m : Machine) (a b : ℕ) → P m (turn_of m a b)) (m : Machine) (a b : ℕ) where
  of_step : P m (face.step_of m a b)
  unfolding face.step_of
  of_step = picked (P m) (broken_of m) (refused 6 m) (turn_of m a b) (no m 6 (omega arith)) (each m a b)

  of_begin : P m (face.begin_step_of m a b)
  unfolding face.begin_step_of
  of_begin =
      picked (P m) (broken_of m) (refused 6 m) _ (no m 6 (omega arith))
      (picked (P m) (ltb (a % 16) 8) (turn_of m a b) (refused 9 m) (each m a b) (no m 9 (omega arith)))

  of_act : P m (face.act_step_of m a b)
  unfolding face.act_step_of
  of_act =
      picked (P m) (broken_of m) (refused 6 m) _ (no m 6 (omega arith))
      (picked (P m) (ltb (a % 16) 8) (refused 9 m) (turn_of m a b) (no m 9 (omega arith)) (each m a b))

-- ---- unchanged
abbrev Kept : Machine → Did → Type 0
Kept m d = (d.refusal ≡ 0 → ⊥) → d.machine ≡ m

make_blank : (w : ℕ) → Kept blank (face.make_of w)
unfolding face.make_of
make_blank w = picked (Kept blank) (in_limits w workers_most) (accepted (fresh_of w)) (refused 2 blank) (accepted_kept blank (fresh_of w)) (refused_kept blank 2)

contents_kept : (m : Machine) (buffer : List ℕ) → (contents_refusal m (length buffer) ≡ 0 → ⊥) → written m buffer ≡ buffer
unfolding written
contents_kept m buffer h = simp (ne_eqb _ _ h)

pub refused_unchanged : RefusedUnchanged
refused_unchanged =
    let no : (m : Machine) (k : ℕ) → k ≤ 11 → Kept m (refused k m) = (λ m k l. refused_kept m k) in
    record {
      make = make_blank;
      step = of_step Kept no turn_of_kept;
      begin = of_begin Kept no turn_of_kept;
      act = of_act Kept no turn_of_kept;
      run = schedule_kept single_queue broken_of;
      unread = schedule_unread single_queue broken_of;
      contents = contents_kept;
    }

pub list_first : ListFirst
list_first =
    record {
      stops = schedule_first single_queue broken_of;
      runs = λ m s e even. schedule_read single_queue broken_of m s e (λ o. omega arith);
    }

-- ---- unbroken
carried_unbroken : (m : Machine) (u : Unbroken m) (w : ℕ) → w < m.count → (p : Place) (v : Verdict) → Unbroken (carried m w p v).machine
unfolding refused accepted
carried_unbroken m u w l p (Refuse k) = u
carried_unbroken m u w l p (Start c) = begun_unbroken m u w l c
carried_unbroken m u w l p (Move lose) = acted_unbroken m u w l p

turn_unbroken : (m : Machine) → Unbroken m → (x : Entry) → Unbroken (turn m x).machine
unfolding refused
turn_unbroken m u Unreadable = u
turn_unbroken m u (Asks w o) =
    either (λ (d : Did). Unbroken d.machine) (ltb w m.count) (carried m w (place_of m.workers w) (verdict_of m.meter (place_of m.workers w) o)) (refused 3 m)
    (λ b. carried_unbroken m u w (ltb-true w m.count b) (place_of m.workers w) (verdict_of m.meter (place_of m.workers w) o)) (λ b. u)

turn_of_unbroken : (m : Machine) (a b : ℕ) → Unbroken m → Unbroken (turn_of m a b).machine
unfolding turn_of_by
turn_of_unbroken m a b u = turn_unbroken m u (entry_of a b)

abbrev Stays : Machine → Did → Type 0
Stays m d = broken_of m ≡ false → broken_of d.machine ≡ false

pub step_unbroken : (m : Machine) (a b : ℕ) → Stays m (face.step_of m a b)
unfolding refused
step_unbroken =
    of_step Stays (λ m k l h. h) (λ m a b h. of_unbroken (turn_of m a b).machine (turn_of_unbroken m a b (unbroken_of m h)))

pub run_unbroken : (m : Machine) (s : List ℕ) → broken_of m ≡ false → broken_of (run_of m s).machine ≡ false
run_unbroken m s h = of_unbroken (run_of m s).machine (schedule_keeps single_queue broken_of Unbroken turn_of_unbroken m s (unbroken_of m h))

pub fresh_unbroken : (w : ℕ) → in_limits w workers_most ≡ true → Unbroken (fresh_of w)
unfolding fresh_of record_fits idlers
fresh_unbroken w h =
    record { low = omega arith; count = h; records = (λ i l. rw (get_or-replicate workers_most i idler idler l) refl) }

made_unbroken : (w : ℕ) → (face.make_of w).refusal ≡ 0 → broken_of (face.make_of w).machine ≡ false
unfolding face.make_of refused accepted
made_unbroken w =
    either (λ (d : Did). d.refusal ≡ 0 → broken_of d.machine ≡ false) (in_limits w workers_most) (accepted (fresh_of w)) (refused 2 blank)
    (λ h z. of_unbroken (fresh_of w) (fresh_unbroken w h)) (λ h z. absurd (omega arith))

pub stays_unbroken : StaysUnbroken
stays_unbroken = record { step = step_unbroken; run = run_unbroken; made = made_unbroken }
