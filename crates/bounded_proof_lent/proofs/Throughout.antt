-- Steps that are each on what the last one left are a schedule of those that were not refused; so demands 2 and 3 hold of lent records.
use Prim.Native.Nat.{ℕ, ◌+◌}
use mathlib.Core.Path.{◌≡◌, refl, sym, ap, ◌∙◌, subst}
use mathlib.Core.Bool.{Bool, true, false, cond}
use mathlib.Core.List.{List, [], ◌∷◌, ◌++◌}
use native.Mathlib.Omega.{arith}
use lib.Dec.{eqb, leb}
use lib.ListN.{length, length-replicate}
use borrow.Author.Tests.{eqb-true, le-leb}
use Rattle.queue_entries.specs.Limits.{in_limits}
use Rattle.queue_entries.proofs.Limits.{limit_some, limit_most}
use Rattle.queue_entries.specs.Entries.{entry_of}
use Rattle.queue_entries.specs.Schedules.{run_by, history_by}
use Rattle.bounded_words.specs.declared.Width.TheVariants.{SixtyFour}
use Rattle.bounded_words.specs.Limits.{slots_most, editions_most}
use Rattle.bounded_places.specs.declared.Worker.{Worker}
use Rattle.bounded_machine.specs.declared.Machine.{Machine}
use Rattle.bounded_machine.specs.declared.Did.{Did}
use Rattle.bounded_machine.specs.declared.Event.{Event}
use Rattle.bounded_machine.specs.Machine.{idler, idlers, fresh_with, blank, accepted}
use Rattle.bounded_machine.specs.Turn.{turn_of}
use Rattle.bounded_machine.specs.Run.{ran, run_at}
use Rattle.bounded_machine.specs.History.{events_of, history_at}
use Rattle.bounded_machine.proofs.Kept.{UnbrokenWith}
use Rattle.bounded_machine.proofs.Turns.{turn_of_unbroken}
use Rattle.bounded_orders.specs.Orders.{records_most, make_refusal_with, make_refusal, metered_of}
use Rattle.bounded_lent.specs.Lent.{held, broken_lent, Lent, lent, lent_of, step_lent, make_lent}
use Rattle.bounded_lent.proofs.Turning.{unbroken_lent, few_lent, lent_unbroken, step_turned}
use Rattle.bounded_lent.proofs.Running.{Whole, turned_whole, held_again, unchanged}
use Rattle.bounded_demands.specs.Notions.{with_records, AllowedWith}
use Rattle.bounded_demands.specs.Lending.{item11, steps, held_in, acts_lent}
use Rattle.bounded_demands.specs.Demands.{Demand2, Demand3, LentThroughout, LentUnbroken}
use Rattle.bounded_demands.proofs.Refusals.{fresh_unbroken}
use Rattle.bounded_proof_demand2.proofs.Demand2.{demand2}
use Rattle.bounded_proof_demand2.proofs.Reached.{limits_true}
use Rattle.bounded_proof_demand3.proofs.Demand3.{demand3}

-- the entries that were not refused
taken : Lent → List ℕ → List ℕ
taken x [] = []
taken x (first ∷ []) = []
taken x (first ∷ second ∷ rest) =
    cond (eqb (step_lent x.ring x.records first second).answer 0) (first ∷ second ∷ taken (step_lent x.ring x.records first second) rest)
    (taken (step_lent x.ring x.records first second) rest)

-- a machine that is not broken is not broken as a ring and records
pub sound_of : (n : ℕ) (m : Machine) → Whole n m → leb n records_most ≡ true → UnbrokenWith n m → broken_lent (metered_of m) m.workers ≡ false
sound_of n m u few o =
    lent_unbroken (metered_of m) m.workers (ap (λ (k : ℕ). leb k records_most) u.0 ∙ few)
    (subst (λ (k : ℕ). UnbrokenWith k (held (metered_of m) m.workers)) (sym u.0) (subst (UnbrokenWith n) (sym (held_again m (u.1 ∙ sym u.0))) o))

-- ---- one step on what is not broken
module _ (x : Lent) (sound : broken_lent x.ring x.records ≡ false) (first second : ℕ) where
  abbrev pub next : Lent
  next = step_lent x.ring x.records first second

  abbrev pub did : Did
  did = turn_of (held_in x) first second

  pub next_is : next ≡ lent_of did
  next_is = sym (step_turned x.ring x.records first second sound)

  whole_now : Whole (length x.records) did.machine
  whole_now = turned_whole (length x.records) (held_in x) (refl, refl) first second

  pub held_next : held_in next ≡ did.machine
  held_next = ap held_in next_is ∙ held_again did.machine (whole_now.1 ∙ sym whole_now.0)

  pub sound_next : broken_lent next.ring next.records ≡ false
  sound_next =
      subst (λ (z : Lent). broken_lent z.ring z.records ≡ false) (sym next_is)
      (sound_of (length x.records) did.machine whole_now (few_lent x.ring x.records sound)
      (turn_of_unbroken SixtyFour (held_in x) (unbroken_lent x.ring x.records sound) first second))

  -- refused: what was found
  pub stays : eqb next.answer 0 ≡ false → held_in next ≡ held_in x
  stays h = held_next ∙ unchanged (held_in x) first second (ap (λ (z : Lent). eqb z.answer 0) (sym next_is) ∙ h)

-- ---- all of them
record Led (x : Lent) (entries : List ℕ) : Type 0 where
  machine : (place : ℕ) → (run_at SixtyFour (held_in x) place (taken x entries)).machine ≡ held_in (steps item11 x entries)
  acts : history_at SixtyFour (held_in x) (taken x entries) ≡ acts_lent item11 x entries

led : (entries : List ℕ) (x : Lent) → broken_lent x.ring x.records ≡ false → Led x entries
unfolding taken steps acts_lent run_by history_by ran
led [] x sound = record { machine = λ place. refl; acts = refl }
led (first ∷ []) x sound = record { machine = λ place. refl; acts = refl }
led (first ∷ second ∷ rest) x sound = go (led rest (next x sound first second) (sound_next x sound first second)) (eqb (next x sound first second).answer 0) refl
  where
    after : Lent
    after = next x sound first second

    entry : Did
    entry = turn_of (held_in x) first second

    go : Led after rest → (b : Bool) → eqb after.answer 0 ≡ b → Led x (first ∷ second ∷ rest)
    go more true e =
        let accepted_too : eqb entry.refusal 0 ≡ true = ap (λ (z : Lent). eqb z.answer 0) (sym (next_is x sound first second)) ∙ e in
        record {
          machine = λ place.
              ap (λ (b : Bool). (run_at SixtyFour (held_in x) place (cond b (first ∷ second ∷ taken after rest) (taken after rest))).machine) e
              ∙ ap (λ (b : Bool). (cond b (run_at SixtyFour entry.machine (place + 1) (taken after rest)) (ran entry.refusal place (held_in x))).machine) accepted_too
              ∙ ap (λ (m : Machine). (run_at SixtyFour m (place + 1) (taken after rest)).machine) (sym (held_next x sound first second))
              ∙ more.machine (place + 1);
          acts =
              ap (λ (b : Bool). history_at SixtyFour (held_in x) (cond b (first ∷ second ∷ taken after rest) (taken after rest))) e
              ∙ ap (λ (b : Bool). cond b (events_of SixtyFour (held_in x) (entry_of first second) entry.machine ++ history_at SixtyFour entry.machine (taken after rest)) []) accepted_too
              ∙ ap (λ (m : Machine). events_of SixtyFour (held_in x) (entry_of first second) m ++ history_at SixtyFour m (taken after rest)) (sym (held_next x sound first second))
              ∙ ap (λ (h : List Event). events_of SixtyFour (held_in x) (entry_of first second) (held_in after) ++ h) more.acts
              ∙ sym (ap (λ (b : Bool). cond b (events_of SixtyFour (held_in x) (entry_of first second) (held_in after) ++ acts_lent item11 after rest) (acts_lent item11 after rest)) e);
        }
    go more false e =
        record {
          machine = λ place.
              ap (λ (b : Bool). (run_at SixtyFour (held_in x) place (cond b (first ∷ second ∷ taken after rest) (taken after rest))).machine) e
              ∙ ap (λ (m : Machine). (run_at SixtyFour m place (taken after rest)).machine) (sym (stays x sound first second e))
              ∙ more.machine place;
          acts =
              ap (λ (b : Bool). history_at SixtyFour (held_in x) (cond b (first ∷ second ∷ taken after rest) (taken after rest))) e
              ∙ ap (λ (m : Machine). history_at SixtyFour m (taken after rest)) (sym (stays x sound first second e))
              ∙ more.acts
              ∙ sym (ap (λ (b : Bool). cond b (events_of SixtyFour (held_in x) (entry_of first second) (held_in after) ++ acts_lent item11 after rest) (acts_lent item11 after rest)) e);
        }

-- ---- what making accepts
module _ (ys : List Worker) (capacity edition : ℕ) (made : (make_lent ys capacity edition).answer ≡ 0) where
  abbrev n : ℕ
  n = length ys

  -- the three tests passed
  record Passed : Type 0 where
    slots : in_limits capacity slots_most ≡ true
    count : in_limits n records_most ≡ true
    ed : in_limits edition editions_most ≡ true

  zero_refusal : make_refusal n capacity edition ≡ 0
  unfolding make_lent accepted
  zero_refusal = go (eqb (make_refusal n capacity edition) 0) refl
    where
      go : (b : Bool) → eqb (make_refusal n capacity edition) 0 ≡ b → make_refusal n capacity edition ≡ 0
      go true h = eqb-true (make_refusal n capacity edition) 0 h
      go false h = ap (λ (b : Bool). (cond b (lent_of (accepted (fresh_with n capacity n edition))) (lent (make_refusal n capacity edition) (metered_of blank) ys)).answer) (sym h) ∙ made

  passed : Passed
  unfolding make_refusal_with
  passed = go (in_limits capacity slots_most) refl (in_limits n records_most) refl (in_limits edition editions_most) refl zero_refusal
    where
      go : (a : Bool) → in_limits capacity slots_most ≡ a → (b : Bool) → in_limits n records_most ≡ b → (c : Bool) → in_limits edition editions_most ≡ c
          → ◌≡◌ {A = ℕ} (cond a (cond b (cond c 0 18) 2) 1) 0 → Passed
      go true ea true eb true ec h = record { slots = ea; count = eb; ed = ec }
      go true ea true eb false ec h = absurd (omega arith)
      go true ea false eb c ec h = absurd (omega arith)
      go false ea b eb c ec h = absurd (omega arith)

  pub allowed : AllowedWith n capacity n edition
  allowed =
      record {
        slot_some = limit_some capacity slots_most true (sym passed.slots) refl;
        slot_most = limit_most capacity slots_most true (sym passed.slots) refl;
        worker_some = limit_some n records_most true (sym passed.count) refl;
        worker_most = omega arith;
        edition_some = limit_some edition editions_most true (sym passed.ed) refl;
        edition_most = limit_most edition editions_most true (sym passed.ed) refl;
      }

  made_is : make_lent ys capacity edition ≡ lent_of (accepted (fresh_with n capacity n edition))
  unfolding make_lent
  made_is = ap (λ (k : ℕ). cond (eqb k 0) (lent_of (accepted (fresh_with n capacity n edition))) (lent k (metered_of blank) ys)) zero_refusal

  fresh_whole : Whole n (fresh_with n capacity n edition)
  unfolding fresh_with idlers
  fresh_whole = (length-replicate n idler, refl)

  pub held_fresh : held_in (make_lent ys capacity edition) ≡ fresh_with n capacity n edition
  unfolding accepted
  held_fresh = ap held_in made_is ∙ held_again (fresh_with n capacity n edition) (fresh_whole.1 ∙ sym fresh_whole.0)

  pub sound_fresh : broken_lent (make_lent ys capacity edition).ring (make_lent ys capacity edition).records ≡ false
  unfolding accepted
  sound_fresh =
      subst (λ (z : Lent). broken_lent z.ring z.records ≡ false) (sym made_is)
      (sound_of n (fresh_with n capacity n edition) fresh_whole (le-leb n records_most (limit_most n records_most true (sym passed.count) refl))
      (fresh_unbroken n capacity n edition passed.slots (limit_own n passed.count) passed.ed))
    where
      limit_own : (k : ℕ) → in_limits k records_most ≡ true → in_limits k k ≡ true
      limit_own k h = limits_true k k (limit_some k records_most true (sym h) refl) (omega arith)

  module _ (entries : List ℕ) where
    abbrev x : Lent
    x = make_lent ys capacity edition

    run_is : (run_at SixtyFour (fresh_with n capacity n edition) 0 (taken x entries)).machine ≡ held_in (steps item11 x entries)
    run_is = ap (λ (m : Machine). (run_at SixtyFour m 0 (taken x entries)).machine) (sym held_fresh) ∙ (led entries x sound_fresh).machine 0

    acts_are : history_at SixtyFour (fresh_with n capacity n edition) (taken x entries) ≡ acts_lent item11 x entries
    acts_are = ap (λ (m : Machine). history_at SixtyFour m (taken x entries)) (sym held_fresh) ∙ (led entries x sound_fresh).acts

    both : (P : Machine → List Event → Type 0) → P (run_at SixtyFour (fresh_with n capacity n edition) 0 (taken x entries)).machine
        (history_at SixtyFour (fresh_with n capacity n edition) (taken x entries)) → P (held_in (steps item11 x entries)) (acts_lent item11 x entries)
    both P p =
        subst (λ (h : List Event). P (held_in (steps item11 x entries)) h) acts_are
        (subst (λ (m : Machine). P m (history_at SixtyFour (fresh_with n capacity n edition) (taken x entries))) run_is p)

    demands : Demand2 (with_records n SixtyFour) capacity n edition (held_in (steps item11 x entries)) (acts_lent item11 x entries)
        × Demand3 (with_records n SixtyFour) (held_in (steps item11 x entries)) (acts_lent item11 x entries)
    demands = (
      both (Demand2 (with_records n SixtyFour) capacity n edition) (demand2 n capacity n edition allowed (taken x entries)),
      both (Demand3 (with_records n SixtyFour)) (demand3 n capacity n edition allowed (taken x entries)),
    )

pub lent_throughout : LentThroughout item11
lent_throughout ys capacity edition made entries = demands ys capacity edition made entries

pub lent_unbroken_still : LentUnbroken item11
lent_unbroken_still l ys first second sound = sound_next (lent 0 l ys) sound first second
