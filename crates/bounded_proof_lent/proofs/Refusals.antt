-- Demand 1 of the lent face, of any number of records.
use Prim.Native.Nat.{ℕ, ◌+◌, ◌*◌}
use mathlib.Core.Path.{◌≡◌, refl, sym, ap, ◌∙◌}
use mathlib.Core.Bool.{Bool, true, false, cond}
use mathlib.Core.List.{List, [], ◌∷◌}
use native.Mathlib.Omega.{arith}
use lib.Dec.{eqb, ltb}
use lib.ListN.{length, take}
use borrow.Author.Tests.{ne_eqb, eqb-true}
use Rattle.queue_entries.specs.Limits.{in_limits}
use Rattle.std.specs.Prelude.{Result, Ok, Err}
use Rattle.queue_entries.specs.Told.{told}
use Rattle.queue_entries.specs.Schedules.{run_by}
use Rattle.queue_schedules.proofs.Schedules.{schedule_first, schedule_read, schedule_kept, schedule_unread, schedule_keeps, schedule_in}
use Rattle.bounded_words.specs.Limits.{slots_most, editions_most}
use Rattle.bounded_words.specs.declared.Width.TheVariants.{SixtyFour}
use Rattle.bounded_places.specs.declared.Worker.{Worker}
use Rattle.bounded_machine.specs.declared.Machine.{Machine}
use Rattle.bounded_machine.specs.declared.Did.{Did}
use Rattle.bounded_machine.specs.declared.Ran.{Ran}
use Rattle.bounded_machine.specs.Machine.{fresh_with, blank, accepted}
use Rattle.bounded_machine.specs.Broken.{all_idle}
use Rattle.bounded_machine.specs.Contents.{count_on, contents_refusal_by}
use Rattle.bounded_machine.specs.Turn.{turn_of}
use Rattle.bounded_machine.specs.Run.{ran, run_at}
use Rattle.bounded_machine.proofs.Kept.{either, UnbrokenWith}
use Rattle.bounded_machine.proofs.Turns.{turn_of_unbroken}
use Rattle.bounded_orders.specs.declared.Metered.{Metered}
use Rattle.bounded_orders.specs.Orders.{records_most, make_refusal_with, make_refusal, metered_of, report, capacity_told, contents_by}
use Rattle.bounded_lent.specs.Lent.{held, broken_lent, Lent, lent, lent_of, turn_lent, step_lent, Gone, gone, gone_of, run_lent, make_lent, contents_lent}
use Rattle.bounded_lent.proofs.Turning.{unbroken_lent, few_lent}
use Rattle.bounded_lent.proofs.Running.{Whole, turned_whole}
use Rattle.bounded_demands.specs.Notions.{has}
use Rattle.bounded_demands.specs.Lending.{item11, refusal_of, step_by_step}
use Rattle.bounded_demands.specs.Demands.{LentRefused, LentNumbered, LentListFirst, LentStaysUnbroken, LentDemand1}
use Rattle.bounded_demands.proofs.Numbers.{picked, turned_among, schedule_among}
use Rattle.bounded_demands.proofs.Refusals.{ring_queue}
use Rattle.bounded_proof_lent.proofs.Padded.{answer_is}
use Rattle.bounded_proof_lent.proofs.Acting.{only_the_acting, only_one_lent}
use Rattle.bounded_proof_lent.proofs.Throughout.{sound_of, sound_next, sound_fresh, lent_unbroken_still, next_is, held_next}

-- the refusal that a number or a refusal was made of
pub told_back : (k value : ℕ) → refusal_of (told k value) ≡ k
unfolding told
told_back k value = either (λ (t : Result ℕ ℕ). refusal_of t ≡ k) (eqb k 0) (Ok value) (Err k) (λ b. sym (eqb-true k 0 b)) (λ b. refl)

-- ---- refused
refused_make : (ys : List Worker) (capacity edition : ℕ) → ((make_lent ys capacity edition).answer ≡ 0 → ⊥)
    → ((make_lent ys capacity edition).ring ≡ metered_of blank) × ((make_lent ys capacity edition).records ≡ ys)
unfolding make_lent accepted
refused_make ys capacity edition =
    either (λ (x : Lent). (x.answer ≡ 0 → ⊥) → (x.ring ≡ metered_of blank) × (x.records ≡ ys)) (eqb (make_refusal (length ys) capacity edition) 0)
    (lent_of (accepted (fresh_with (length ys) capacity (length ys) edition)))
    (lent (make_refusal (length ys) capacity edition) (metered_of blank) ys) (λ b h. absurd (h refl)) (λ b h. (refl, refl))

module _ (l : Metered) (ys : List Worker) where
  abbrev pub by_lender : Machine → Bool
  by_lender m = broken_lent l ys

  abbrev pub ran_lent : List ℕ → Ran
  ran_lent s = schedule_in (ring_queue SixtyFour) by_lender (held l ys) s

  same_parts : (m : Machine) → m ≡ held l ys → (metered_of m ≡ l) × (m.workers ≡ ys)
  same_parts m e = (ap metered_of e, ap (λ (z : Machine). z.workers) e)

  run_kept : (s : List ℕ) → ((run_lent l ys s).report.refusal ≡ 0 → ⊥) → ((run_lent l ys s).report.refusal ≡ 9 → ⊥)
      → ((run_lent l ys s).ring ≡ (run_lent l ys (take (2 * (run_lent l ys s).report.place) s)).ring) × ((run_lent l ys s).records ≡ (run_lent l ys (take (2 * (run_lent l ys s).report.place) s)).records)
  unfolding run_lent
  run_kept s h j = let e = schedule_kept (ring_queue SixtyFour) by_lender (held l ys) s h j in (ap metered_of e, ap (λ (m : Machine). m.workers) e)

  run_unread : (s : List ℕ) → (run_lent l ys s).report.refusal ≡ 9 → ((run_lent l ys s).ring ≡ l) × ((run_lent l ys s).records ≡ ys)
  unfolding run_lent
  run_unread s h = same_parts (ran_lent s).machine (schedule_unread (ring_queue SixtyFour) by_lender (held l ys) s h)

  contents_kept : (buffer : List ℕ) → (refusal_of (contents_lent l ys buffer).answer ≡ 0 → ⊥) → (contents_lent l ys buffer).buffer ≡ buffer
  unfolding contents_lent contents_by
  contents_kept buffer h =
      let r = contents_refusal_by (broken_lent l ys) (all_idle ys) (count_on l.ring) (length buffer) in
      let none : eqb r 0 ≡ false = ne_eqb r 0 (λ z. h (told_back r (count_on l.ring) ∙ z)) in
      rw none refl

  -- ---- numbered
  step_among : (first second : ℕ) → has (0 ∷ 3 ∷ 4 ∷ 5 ∷ 6 ∷ 7 ∷ 8 ∷ 9 ∷ []) (step_lent l ys first second).answer ≡ true
  unfolding step_lent has
  step_among first second =
      picked (λ (x : Lent). has (0 ∷ 3 ∷ 4 ∷ 5 ∷ 6 ∷ 7 ∷ 8 ∷ 9 ∷ []) x.answer ≡ true) (broken_lent l ys) (lent 6 l ys) (turn_lent l ys first second) refl
      (turned_among SixtyFour (held l ys) first second)

  run_among : (s : List ℕ) → has (0 ∷ 3 ∷ 4 ∷ 5 ∷ 6 ∷ 7 ∷ 8 ∷ 9 ∷ 11 ∷ []) (run_lent l ys s).report.refusal ≡ true
  unfolding run_lent
  run_among s = schedule_among SixtyFour by_lender (held l ys) s

  abbrev Listed : ℕ → Type 0
  Listed k = has (0 ∷ 4 ∷ 6 ∷ 10 ∷ []) k ≡ true

  contents_among : (buffer : List ℕ) → Listed (refusal_of (contents_lent l ys buffer).answer)
  unfolding contents_lent contents_by has
  contents_among buffer =
      rw (told_back (contents_refusal_by (broken_lent l ys) (all_idle ys) (count_on l.ring) (length buffer)) (count_on l.ring))
      (picked Listed (broken_lent l ys) 6 _ refl (picked Listed (all_idle ys) _ 4 (picked Listed (ltb (length buffer) (count_on l.ring)) 10 0 refl refl) refl))

  capacity_among : has (0 ∷ 6 ∷ []) (refusal_of (capacity_told (broken_lent l ys) l.ring.capacity)) ≡ true
  unfolding capacity_told has
  capacity_among =
      rw (told_back (cond (broken_lent l ys) 6 0) l.ring.capacity) (picked (λ (k : ℕ). has (0 ∷ 6 ∷ []) k ≡ true) (broken_lent l ys) 6 0 refl refl)

  -- ---- unbroken
  pub run_sound : (s : List ℕ) → broken_lent l ys ≡ false → broken_lent (run_lent l ys s).ring (run_lent l ys s).records ≡ false
  unfolding run_lent
  run_sound s sound =
      sound_of (length ys) (ran_lent s).machine
      (schedule_keeps (ring_queue SixtyFour) by_lender (Whole (length ys)) (λ m a b u. turned_whole (length ys) m u a b) (held l ys) s (refl, refl))
      (few_lent l ys sound)
      (schedule_keeps (ring_queue SixtyFour) by_lender (UnbrokenWith (length ys)) (λ m a b u. turn_of_unbroken SixtyFour m u a b) (held l ys) s (unbroken_lent l ys sound))

make_among : (ys : List Worker) (capacity edition : ℕ) → has (0 ∷ 1 ∷ 2 ∷ 18 ∷ []) (make_lent ys capacity edition).answer ≡ true
unfolding make_refusal_with has
make_among ys capacity edition =
    rw (answer_is ys capacity edition)
    (picked Made (in_limits capacity slots_most) _ 1 (picked Made (in_limits (length ys) records_most) _ 2 (picked Made (in_limits edition editions_most) 0 18 refl refl) refl) refl)
  where
    Made : ℕ → Type 0
    Made k = has (0 ∷ 1 ∷ 2 ∷ 18 ∷ []) k ≡ true

-- ---- a schedule's entries are steps
abbrev stepped : Metered → List Worker → ℕ → List ℕ → Gone
stepped l ys place s =
    run_by (λ (x : Lent). x.answer) (λ (x : Lent). (x.ring, x.records)) (λ (p : Metered × List Worker) (first second : ℕ). step_lent p.0 p.1 first second)
    (λ (number place : ℕ) (p : Metered × List Worker). gone (report number place) p.0 p.1) (l, ys) place s

by_steps : (s : List ℕ) (l : Metered) (ys : List Worker) (place : ℕ) → broken_lent l ys ≡ false → gone_of (run_at SixtyFour (held l ys) place s) ≡ stepped l ys place s
unfolding run_by ran
by_steps [] l ys place sound = refl
by_steps (first ∷ []) l ys place sound = refl
by_steps (first ∷ second ∷ rest) l ys place sound =
    go (by_steps rest x.ring x.records (place + 1) (sound_next (lent 0 l ys) sound first second)) (eqb entry.refusal 0) refl
    ∙ ap (λ (z : Lent). cond (eqb z.answer 0) (stepped x.ring x.records (place + 1) rest) (gone (report z.answer place) l ys)) (sym (next_is (lent 0 l ys) sound first second))
  where
    x : Lent
    x = step_lent l ys first second

    entry : Did
    entry = turn_of (held l ys) first second

    go : gone_of (run_at SixtyFour (held x.ring x.records) (place + 1) rest) ≡ stepped x.ring x.records (place + 1) rest → (b : Bool) → eqb entry.refusal 0 ≡ b
        → gone_of (cond (eqb entry.refusal 0) (run_at SixtyFour entry.machine (place + 1) rest) (ran entry.refusal place (held l ys)))
        ≡ cond (eqb entry.refusal 0) (stepped x.ring x.records (place + 1) rest) (gone (report entry.refusal place) l ys)
    go more true e =
        rw e (ap (λ (m : Machine). gone_of (run_at SixtyFour m (place + 1) rest)) (sym (held_next (lent 0 l ys) sound first second)) ∙ more)
    go more false e = rw e refl

lent_refused : LentRefused item11
lent_refused = record { make = refused_make; step = only_the_acting.refused; run = run_kept; unread = run_unread; contents = contents_kept }

lent_numbered : LentNumbered item11
lent_numbered = record { make = make_among; step = step_among; run = run_among; contents = contents_among; capacity = capacity_among }

list_stops : (l : Metered) (ys : List Worker) (s : List ℕ) (k : ℕ) → ran_lent l ys s ≡ ran 9 k (held l ys) → run_lent l ys s ≡ gone (report 9 k) l ys
unfolding run_lent ran
list_stops l ys s k e = ap gone_of e

list_runs : (l : Metered) (ys : List Worker) (s : List ℕ) → ran_lent l ys s ≡ run_at SixtyFour (held l ys) 0 s → gone_of (run_at SixtyFour (held l ys) 0 s) ≡ step_by_step item11 l ys s
    → run_lent l ys s ≡ step_by_step item11 l ys s
unfolding run_lent
list_runs l ys s e more = ap gone_of e ∙ more

lent_list_first : LentListFirst item11
lent_list_first =
    record {
      stops = λ l ys before k first second rest sound even long read un.
          list_stops l ys _ k (schedule_first (ring_queue SixtyFour) (by_lender l ys) (held l ys) before k first second rest sound even long read un);
      runs = λ l ys s sound even read.
          list_runs l ys s (schedule_read (ring_queue SixtyFour) (by_lender l ys) (held l ys) s sound (λ o. omega arith) read) (by_steps s l ys 0 sound);
    }

lent_stays_unbroken : LentStaysUnbroken item11
lent_stays_unbroken = record { step = lent_unbroken_still; run = run_sound; made = sound_fresh }

pub lent_demand1 : LentDemand1 item11
lent_demand1 =
    record {
      refused_unchanged = lent_refused;
      numbered = lent_numbered;
      list_first = lent_list_first;
      stays_unbroken = lent_stays_unbroken;
      only_one = only_one_lent;
    }
