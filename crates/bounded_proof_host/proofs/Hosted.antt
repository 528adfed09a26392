-- The statements over words, from those over a lent ring and lent records.
use Prim.Native.Nat.{ℕ, ◌%◌}
use mathlib.Core.Path.{◌≡◌, refl, sym, ap, ◌∙◌, subst}
use mathlib.Core.Bool.{Bool, true, false, cond}
use mathlib.Core.List.{List, [], ◌∷◌, ◌++◌}
use native.Mathlib.Omega.{arith}
use lib.Dec.{eqb, ltb}
use lib.ListN.{length, length-set, length-replicate}
use borrow.Author.Tests.{eqb-true, eqb-false}
use Rattle.queue_entries.specs.declared.Entry.{Entry}
use Rattle.queue_entries.specs.declared.Entry.TheVariants.{Unreadable, Asks}
use Rattle.queue_entries.specs.declared.Verdict.{Verdict}
use Rattle.queue_entries.specs.declared.Verdict.TheVariants.{Refuse, Start, Move}
use Rattle.queue_entries.specs.Entries.{entry_of}
use Rattle.queue_entries.specs.Schedules.{search_by}
use Rattle.bounded_words.specs.Limits.{slots_most}
use Rattle.bounded_words.specs.declared.Width.TheVariants.{SixtyFour}
use Rattle.bounded_places.specs.declared.Worker.{Worker}
use Rattle.bounded_machine.specs.declared.Machine.{Machine}
use Rattle.bounded_machine.specs.declared.Did.{Did}
use Rattle.bounded_machine.specs.declared.Event.{Event}
use Rattle.bounded_machine.specs.Machine.{slot, record_of_worker, place_of, fresh_with, blank, refused, accepted, empty_slots}
use Rattle.bounded_machine.specs.Turn.{verdict_of, begun, stored, acted_by, carried, turn, turn_of, turn_of_by}
use Rattle.bounded_machine.specs.History.{events_of}
use Rattle.bounded_machine.proofs.Kept.{either}
use Rattle.bounded_orders.specs.declared.Metered.{Metered}
use Rattle.bounded_orders.specs.Orders.{make_refusal, metered_of, report}
use Rattle.bounded_lent.specs.Lent.{held, broken_lent, Lent, lent, lent_of, turn_lent, step_lent, Gone, gone, run_lent, make_lent}
use Rattle.bounded_rows.specs.Rows.{Words, words_of, metered_in, records_in, shaped, stand, After, after, after_of}
use Rattle.bounded_rows.proofs.Standing.{standing, same_words, same_ring, same_records, written_stand}
use Rattle.bounded_rows.proofs.Lists.{many_slots}
use Rattle.bounded_slices.specs.Slices.{broken_words}
use Rattle.bounded_host.specs.Host.{reply, made_from, make_words, Ended, ended, ended_of, run_words, capacity_words, contents_words}
use Rattle.bounded_host_step.specs.Step.{step_words_of}
use Rattle.bounded_host.proofs.Running.{judged_six}
use Rattle.bounded_demands.specs.Notions.{with_records, ran_of}
use Rattle.bounded_demands.specs.Lending.{item11, steps, held_in, acts_lent, holds_did, holds_ran, Doing, stepping, running}
use Rattle.bounded_demands.specs.Demands.{Demand2, Demand3}
use Rattle.bounded_demands.proofs.Refusals.{ring_queue}
use Rattle.bounded_demands.proofs.Mixtures.{schedule_goes}
use Rattle.bounded_proof_demand2.proofs.Reached.{fresh_long}
use Rattle.bounded_proof_lent.proofs.Padded.{as_held}
use Rattle.bounded_proof_lent.proofs.Acting.{only_the_acting}
use Rattle.bounded_proof_lent.proofs.Throughout.{lent_throughout, lent_unbroken_still, sound_fresh}
use Rattle.bounded_proof_lent.proofs.Refusals.{ran_lent}
use Rattle.bounded_proof_lent.proofs.Mixed.{goes_steps}
use Rattle.bounded_proof_host.specs.Hosted.{face, held_words, OneToOne, Malformed, RefusedWords, OnlyTheActingWords, AsHeldWords, done_by, left_by}
use Rattle.bounded_proof_host.specs.Hosted.{entries_of, entries_by, acts_words, HostedThroughout}

pub one_to_one : OneToOne stand
one_to_one = record {
  written = λ w s. same_words w (standing w s);
  stand_for = written_stand;
  ring = same_ring;
  records = same_records;
}

pub malformed : Malformed face
unfolding broken_words step_words_of run_words capacity_words contents_words
malformed = record {
  broken = λ w h. rw h refl;
  step = λ w first second h. rw h refl;
  run = λ w s h. rw h refl;
  capacity = λ w h. rw h refl;
  contents = λ w buffer h. rw h refl;
}

-- ---- words that stand, and what they are read as
abbrev pub lent_in : Words → Lent
lent_in w = lent 0 (metered_in w) (records_in w.records)

module _ (w : Words) (s : stand w ≡ true) where
  pub step_is : (first second : ℕ) → step_words_of w first second ≡ after_of (step_lent (metered_in w) (records_in w.records) first second)
  unfolding step_words_of
  step_is first second = ap (λ (b : Bool). cond b (after_of (step_lent (metered_in w) (records_in w.records) first second)) (after 6 w)) s

  pub run_is : (e : List ℕ) → run_words w e ≡ ended_of (run_lent (metered_in w) (records_in w.records) e)
  unfolding run_words
  run_is e = ap (λ (b : Bool). cond b (ended_of (run_lent (metered_in w) (records_in w.records) e)) (ended (reply 6 0) w)) s

  all_slots : length (metered_in w).ring.slots ≡ slots_most
  all_slots = many_slots w.slots ∙ omega (arith, (standing w s).all_slots)

-- ---- an entry keeps the number of slots
module _ (m : Machine) where
  carried_slots : (w : ℕ) (v : Verdict) → length (carried SixtyFour m w (place_of m.workers w) v).machine.ring.slots ≡ length m.ring.slots
  unfolding refused accepted begun acted_by stored
  carried_slots w (Refuse k) = refl
  carried_slots w (Start c) = refl
  carried_slots w (Move lose) = length-set m.ring.slots _ _

  turn_slots : (x : Entry) → length (turn SixtyFour m x).machine.ring.slots ≡ length m.ring.slots
  unfolding refused
  turn_slots Unreadable = refl
  turn_slots (Asks w o) =
      either (λ (d : Did). length d.machine.ring.slots ≡ length m.ring.slots) (ltb w m.count)
      (carried SixtyFour m w (place_of m.workers w) (verdict_of m.meter (place_of m.workers w) o)) (refused 3 m)
      (λ b. carried_slots w (verdict_of m.meter (place_of m.workers w) o)) (λ b. refl)

  turned_slots : (first second : ℕ) → length (turn_of m first second).machine.ring.slots ≡ length m.ring.slots
  unfolding turn_of_by
  turned_slots first second = turn_slots (entry_of first second)

step_slots : (l : Metered) (ys : List Worker) (first second : ℕ) → length (step_lent l ys first second).ring.ring.slots ≡ length l.ring.slots
unfolding step_lent
step_slots l ys first second =
    either (λ (x : Lent). length x.ring.ring.slots ≡ length l.ring.slots) (broken_lent l ys) (lent 6 l ys) (turn_lent l ys first second) (λ b. refl) (λ b. turned_slots (held l ys) first second)

-- ---- one step
module _ (w : Words) (s : stand w ≡ true) (first second : ℕ) where
  abbrev next : Lent
  next = step_lent (metered_in w) (records_in w.records) first second

  step_words : (step_words_of w first second).words ≡ words_of next.ring next.records
  step_words = ap (λ (x : After). x.words) (step_is w s first second)

  pub stands_after : stand (step_words_of w first second).words ≡ true
  stands_after = ap stand step_words ∙ written_stand next.ring next.records (step_slots (metered_in w) (records_in w.records) first second ∙ all_slots w s)

  pub ring_after : metered_in (step_words_of w first second).words ≡ next.ring
  ring_after = ap metered_in step_words ∙ same_ring next.ring next.records

  pub records_after : records_in (step_words_of w first second).words.records ≡ next.records
  records_after = ap (λ (x : Words). records_in x.records) step_words ∙ same_records next.ring next.records

  read_after : lent (step_words_of w first second).answer (metered_in (step_words_of w first second).words) (records_in (step_words_of w first second).words.records) ≡ next
  read_after = λ i. lent (step_is w s first second i).answer (ring_after i) (records_after i)

pub only_the_acting_words : OnlyTheActingWords face
only_the_acting_words = record {
  others = λ w first second k s ne. ap (λ (ys : List Worker). record_of_worker ys k) (records_after w s first second) ∙ only_the_acting.others (metered_in w) (records_in w.records) first second k ne;
  stands = λ w first second s. stands_after w s first second;
}

-- ---- refused
same_words_if : (w : Words) (s : stand w ≡ true) (x : Lent) → x.ring ≡ metered_in w → x.records ≡ records_in w.records → words_of x.ring x.records ≡ w
same_words_if w s x e f = (λ i. words_of (e i) (f i)) ∙ same_words w (standing w s)

refused_step : (w : Words) (first second : ℕ) → ((step_words_of w first second).answer ≡ 0 → ⊥) → (step_words_of w first second).words ≡ w
unfolding step_words_of
refused_step w first second = go (stand w) refl
  where
    x : Lent
    x = step_lent (metered_in w) (records_in w.records) first second

    go : (b : Bool) → stand w ≡ b → ((cond b (after_of x) (after 6 w)).answer ≡ 0 → ⊥) → (cond b (after_of x) (after 6 w)).words ≡ w
    go false e h = refl
    go true e h = let same = only_the_acting.refused (metered_in w) (records_in w.records) first second h in same_words_if w e x same.0 same.1

refused_make : (w : Words) (capacity edition : ℕ) → ((make_words w capacity edition).answer ≡ 0 → ⊥) → (make_words w capacity edition).words ≡ w
unfolding make_words
refused_make w capacity edition =
    either (λ (x : After). (x.answer ≡ 0 → ⊥) → x.words ≡ w) (shaped w) (made_from w (make_lent (records_in w.records) capacity edition)) (after 6 w)
    (λ b. either (λ (x : After). (x.answer ≡ 0 → ⊥) → x.words ≡ w) (eqb (make_lent (records_in w.records) capacity edition).answer 0)
    (after_of (make_lent (records_in w.records) capacity edition)) (after (make_lent (records_in w.records) capacity edition).answer w)
    (λ z h. absurd (h (eqb-true (make_lent (records_in w.records) capacity edition).answer 0 z))) (λ z h. refl))
    (λ b h. refl)

-- ---- as the machine that holds its records
module _ (w : Words) (s : stand w ≡ true) (e : List ℕ) where
  abbrev went : Gone
  went = run_lent (metered_in w) (records_in w.records) e

  run_words_lem : (run_words w e).words ≡ words_of went.ring went.records
  run_words_lem = ap (λ (x : Ended). x.words) (run_is w s e)

  pub read_run : gone (report (run_words w e).answer.refusal (run_words w e).answer.number) (metered_in (run_words w e).words) (records_in (run_words w e).words.records) ≡ went
  read_run =
      (λ i. gone (report (run_is w s e i).answer.refusal (run_is w s e i).answer.number) (metered_in (run_words_lem i)) (records_in (run_words_lem i).records))
      ∙ (λ i. gone went.report (same_ring went.ring went.records i) (same_records went.ring went.records i))

pub as_held_words : AsHeldWords face
as_held_words = record {
  step = λ w first second s few. ap holds_did (read_after w s first second) ∙ as_held.step (metered_in w) (records_in w.records) first second few;
  run = λ w e s few. ap holds_ran (read_run w s e) ∙ as_held.run (metered_in w) (records_in w.records) e few;
}

-- ---- steps one after another are those of the lent face
steps_words : Words → List ℕ → Words
steps_words w [] = w
steps_words w (first ∷ []) = w
steps_words w (first ∷ second ∷ rest) = steps_words (step_words_of w first second).words rest

record Led (w : Words) (entries : List ℕ) : Type 0 where
  machine : held_words (steps_words w entries) ≡ held_in (steps item11 (lent_in w) entries)
  acts : acts_words face w entries ≡ acts_lent item11 (lent_in w) entries
  stands : stand (steps_words w entries) ≡ true

-- what the number of an answer was does not matter to what is done next
steps_any : (k j : ℕ) (l : Metered) (ys : List Worker) (entries : List ℕ) → held_in (steps item11 (lent k l ys) entries) ≡ held_in (steps item11 (lent j l ys) entries)
unfolding steps
steps_any k j l ys [] = refl
steps_any k j l ys (first ∷ []) = refl
steps_any k j l ys (first ∷ second ∷ rest) = refl

acts_any : (k j : ℕ) (l : Metered) (ys : List Worker) (entries : List ℕ) → acts_lent item11 (lent k l ys) entries ≡ acts_lent item11 (lent j l ys) entries
unfolding acts_lent
acts_any k j l ys [] = refl
acts_any k j l ys (first ∷ []) = refl
acts_any k j l ys (first ∷ second ∷ rest) = refl

led : (entries : List ℕ) (w : Words) → stand w ≡ true → Led w entries
unfolding steps_words steps acts_words acts_lent
led [] w s = record { machine = refl; acts = refl; stands = s }
led (first ∷ []) w s = record { machine = refl; acts = refl; stands = s }
led (first ∷ second ∷ rest) w s = go (led rest (step_words_of w first second).words (stands_after w s first second))
  where
    x : Lent
    x = step_lent (metered_in w) (records_in w.records) first second

    w' : Words
    w' = (step_words_of w first second).words

    -- the words after the step are read as what the step leaves
    in_is : lent_in w' ≡ lent 0 x.ring x.records
    in_is = λ i. lent 0 (ring_after w s first second i) (records_after w s first second i)

    go : Led w' rest → Led w (first ∷ second ∷ rest)
    go more = record {
      machine = more.machine ∙ ap (λ (y : Lent). held_in (steps item11 y rest)) in_is ∙ steps_any 0 x.answer x.ring x.records rest;
      acts =
          (λ i. cond (eqb (step_is w s first second i).answer 0) (events_of SixtyFour (held_words w) (entry_of first second)
          (held_in (read_after w s first second i)) ++ acts_words face w' rest) (acts_words face w' rest))
          ∙ ap (λ (h : List Event). cond (eqb x.answer 0) (events_of SixtyFour (held_words w) (entry_of first second) (held_in x) ++ h) h)
          (more.acts ∙ ap (λ (y : Lent). acts_lent item11 y rest) in_is ∙ acts_any 0 x.answer x.ring x.records rest);
      stands = more.stands;
    }

-- ---- a schedule is the steps of the entries that were run
scheduled : (l : Metered) (ys : List Worker) → broken_lent l ys ≡ false → (s : List ℕ)
    → (held_in (steps item11 (lent 0 l ys) (ran_of (search_by entry_of 0 s) (ran_lent l ys s).place s)) ≡ (ran_lent l ys s).machine)
    × (length (ran_of (search_by entry_of 0 s) (ran_lent l ys s).place s) % 2 ≡ 0)
scheduled l ys sound s =
    goes_steps (ran_of (search_by entry_of 0 s) (ran_lent l ys s).place s) (lent 0 l ys) (ran_lent l ys s).machine sound
    (schedule_goes (ring_queue SixtyFour) (λ (m : Machine). broken_lent l ys) (held l ys) s)

module _ (w : Words) (st : stand w ≡ true) (sound : broken_lent (metered_in w) (records_in w.records) ≡ false) (s : List ℕ) where
  abbrev entries : List ℕ
  entries = entries_of face w (running s)

  number_is : (run_words w s).answer.number ≡ (ran_lent (metered_in w) (records_in w.records) s).place
  unfolding run_lent
  number_is = ap (λ (x : Ended). x.answer.number) (run_is w st s)

  ran_is : held_in (steps item11 (lent_in w) entries) ≡ (ran_lent (metered_in w) (records_in w.records) s).machine
  ran_is = ap (λ (k : ℕ). held_in (steps item11 (lent_in w) (ran_of (search_by entry_of 0 s) k s))) number_is ∙ (scheduled (metered_in w) (records_in w.records) sound s).0

  run_even : length entries % 2 ≡ 0
  run_even = ap (λ (k : ℕ). length (ran_of (search_by entry_of 0 s) k s) % 2) number_is ∙ (scheduled (metered_in w) (records_in w.records) sound s).1

  run_as_steps : (run_words w s).words ≡ steps_words w entries
  unfolding run_lent
  run_as_steps =
      run_words_lem w st s
      ∙ (λ i. words_of (metered_of (q i)) (q i).workers)
      ∙ same_words (steps_words w entries) (standing (steps_words w entries) (led entries w st).stands)
    where
      q : (ran_lent (metered_in w) (records_in w.records) s).machine ≡ held_words (steps_words w entries)
      q = sym ran_is ∙ sym (led entries w st).machine

refused_run : (w : Words) (s : List ℕ) → ran_of (search_by entry_of 0 s) (run_words w s).answer.number s ≡ [] → (run_words w s).words ≡ w
unfolding steps_words
refused_run w s none = go (stand w) refl (broken_lent (metered_in w) (records_in w.records)) refl
  where
    go : (a : Bool) → stand w ≡ a → (b : Bool) → broken_lent (metered_in w) (records_in w.records) ≡ b → (run_words w s).words ≡ w
    go false ea b eb = ap (λ (x : Ended). x.words) (malformed.run w s ea)
    go true ea true eb = run_words_lem w ea s ∙ ap (λ (g : Gone). words_of g.ring g.records) (sym (judged_six (metered_in w) (records_in w.records) s eb)) ∙ same_words w (standing w ea)
    go true ea false eb = run_as_steps w ea eb s ∙ ap (steps_words w) none

pub refused_words : RefusedWords face
refused_words = record { make = refused_make; step = refused_step; run = refused_run }

-- ---- any mixture is steps one after another
sound_after : (entries : List ℕ) (w : Words) → stand w ≡ true → broken_lent (metered_in w) (records_in w.records) ≡ false
    → broken_lent (metered_in (steps_words w entries)) (records_in (steps_words w entries).records) ≡ false
unfolding steps_words
sound_after [] w s h = h
sound_after (first ∷ []) w s h = h
sound_after (first ∷ second ∷ rest) w s h =
    sound_after rest (step_words_of w first second).words (stands_after w s first second)
    ((λ i. broken_lent (ring_after w s first second i) (records_after w s first second i)) ∙ lent_unbroken_still (metered_in w) (records_in w.records) first second h)

steps_on : (e f : List ℕ) (w : Words) → length e % 2 ≡ 0 → steps_words w (e ++ f) ≡ steps_words (steps_words w e) f
unfolding steps_words
steps_on [] f w h = refl
steps_on (first ∷ []) f w h = absurd (omega (arith, h))
steps_on (first ∷ second ∷ e) f w h = steps_on e f (step_words_of w first second).words (omega (arith, h))

one_doing : (x : Doing) (w : Words) → stand w ≡ true → broken_lent (metered_in w) (records_in w.records) ≡ false
    → (done_by face w x ≡ steps_words w (entries_of face w x)) × (length (entries_of face w x) % 2 ≡ 0)
unfolding steps_words
one_doing (stepping first second) w s h = (refl, refl)
one_doing (running e) w s h = (run_as_steps w s h e, run_even w s h e)

-- what was done leaves words that stand for something, and that is not broken
pub kept : (x : Doing) (w : Words) → stand w ≡ true → broken_lent (metered_in w) (records_in w.records) ≡ false
    → (stand (done_by face w x) ≡ true) × (broken_lent (metered_in (done_by face w x)) (records_in (done_by face w x).records) ≡ false)
kept x w s h =
    let one = one_doing x w s h in
    (ap stand one.0 ∙ (led (entries_of face w x) w s).stands, ap (λ (z : Words). broken_lent (metered_in z) (records_in z.records)) one.0 ∙ sound_after (entries_of face w x) w s h)

mixed : (doings : List Doing) (w : Words) → stand w ≡ true → broken_lent (metered_in w) (records_in w.records) ≡ false → left_by face w doings ≡ steps_words w (entries_by face w doings)
unfolding left_by entries_by steps_words
mixed [] w s h = refl
mixed (x ∷ rest) w s h =
    let one = one_doing x w s h in
    let then = kept x w s h in
    mixed rest (done_by face w x) then.0 then.1
    ∙ ap (λ (z : Words). steps_words z (entries_by face (done_by face w x) rest)) one.0
    ∙ sym (steps_on (entries_of face w x) (entries_by face (done_by face w x) rest) w one.1)

-- ---- from making on
blank_slots : length (metered_of blank).ring.slots ≡ slots_most
unfolding blank empty_slots
blank_slots = length-replicate slots_most (slot 0 0)

module _ (w : Words) (capacity edition : ℕ) (made : (make_words w capacity edition).answer ≡ 0) where
  abbrev ys : List Worker
  ys = records_in w.records

  abbrev x : Lent
  x = make_lent (records_in w.records) capacity edition

  pub record Fresh : Type 0 where
    pub accepted_too : x.answer ≡ 0
    pub words_are : (make_words w capacity edition).words ≡ words_of x.ring x.records

  pub fresh : Fresh
  unfolding make_words
  fresh = go (shaped w) refl (eqb x.answer 0) refl
    where
      by_tests : Bool → Bool → After
      by_tests a b = cond a (cond b (after_of x) (after x.answer w)) (after 6 w)

      go : (a : Bool) → shaped w ≡ a → (b : Bool) → eqb x.answer 0 ≡ b → Fresh
      go true ea true eb = record { accepted_too = eqb-true x.answer 0 eb; words_are = λ i. (by_tests (ea i) (eb i)).words }
      go true ea false eb = absurd (eqb-false x.answer 0 eb (sym (λ i. (by_tests (ea i) (eb i)).answer) ∙ made))
      go false ea b eb = let six : ◌≡◌ {A = ℕ} 6 0 = sym (λ i. (by_tests (ea i) (eb i)).answer) ∙ made in absurd (omega (arith, six))

  fresh_slots : length x.ring.ring.slots ≡ slots_most
  unfolding make_lent accepted fresh_with
  fresh_slots = go (eqb (make_refusal (length ys) capacity edition) 0)
    where
      go : (b : Bool) → length (cond b (lent_of (accepted (fresh_with (length ys) capacity (length ys) edition)))
          (lent (make_refusal (length ys) capacity edition) (metered_of blank) ys)).ring.ring.slots ≡ slots_most
      go true = fresh_long capacity
      go false = blank_slots

  abbrev w₀ : Words
  w₀ = (make_words w capacity edition).words

  pub stands₀ : stand (make_words w capacity edition).words ≡ true
  stands₀ = ap stand fresh.words_are ∙ written_stand x.ring x.records fresh_slots

  pub in-is₀ : lent_in (make_words w capacity edition).words ≡ lent 0 x.ring x.records
  in-is₀ = (λ i. lent_in (fresh.words_are i)) ∙ (λ i. lent 0 (same_ring x.ring x.records i) (same_records x.ring x.records i))

  pub sound₀ : broken_lent (metered_in (make_words w capacity edition).words) (records_in (make_words w capacity edition).words.records) ≡ false
  sound₀ = ap (λ (z : Lent). broken_lent z.ring z.records) in-is₀ ∙ sound_fresh (records_in w.records) capacity edition fresh.accepted_too

  module _ (doings : List Doing) where
    abbrev E : List ℕ
    E = entries_by face (make_words w capacity edition).words doings

    machine_is : held_in (steps item11 x E) ≡ held_words (left_by face (make_words w capacity edition).words doings)
    machine_is =
        steps_any x.answer 0 x.ring x.records E ∙ ap (λ (z : Lent). held_in (steps item11 z E)) (sym in-is₀) ∙ sym (led E w₀ stands₀).machine
        ∙ ap held_words (sym (mixed doings w₀ stands₀ sound₀))

    acts_are : acts_lent item11 x E ≡ acts_words face (make_words w capacity edition).words E
    acts_are = acts_any x.answer 0 x.ring x.records E ∙ ap (λ (z : Lent). acts_lent item11 z E) (sym in-is₀) ∙ sym (led E w₀ stands₀).acts

    both : (P : Machine → List Event → Type 0) → P (held_in (steps item11 x E)) (acts_lent item11 x E) → P (held_words (left_by face w₀ doings)) (acts_words face w₀ E)
    both P p = subst (λ (h : List Event). P (held_words (left_by face w₀ doings)) h) acts_are (subst (λ (m : Machine). P m (acts_lent item11 x E)) machine_is p)

pub hosted_throughout : HostedThroughout face
hosted_throughout w capacity edition made doings =
    let n = length (records_in w.records) in
    let demands = lent_throughout (records_in w.records) capacity edition (fresh w capacity edition made).accepted_too (entries_by face (make_words w capacity edition).words doings) in
    (both w capacity edition made doings (Demand2 (with_records n SixtyFour) capacity n edition) demands.0, both w capacity edition made doings (Demand3 (with_records n SixtyFour)) demands.1)
