-- The statements over words, from those over the machine.
use Prim.Native.Nat.{ℕ, ◌+◌, ◌*◌}
use mathlib.Core.Path.{◌≡◌, refl, sym, ap, ◌∙◌, subst}
use mathlib.Core.Bool.{Bool, true, false, cond, true≢false}
use mathlib.Core.List.{List, [], ◌∷◌}
use native.Mathlib.Omega.{arith}
use lib.Dec.{eqb, ltb}
use lib.ListN.{length, take, length-set, length-replicate}
use borrow.Author.Tests.{eqb-true, eqb-false}
use Rattle.queue_entries.specs.Limits.{workers_most, in_limits}
use Rattle.queue_entries.proofs.Limits.{limit_some, limit_most}
use Rattle.queue_entries.specs.declared.Entry.{Entry}
use Rattle.queue_entries.specs.declared.Entry.TheVariants.{Unreadable, Asks}
use Rattle.queue_entries.specs.declared.Verdict.{Verdict}
use Rattle.queue_entries.specs.declared.Verdict.TheVariants.{Refuse, Start, Move}
use Rattle.queue_entries.specs.Entries.{entry_of}
use Rattle.queue_entries.specs.Schedules.{run_by, search_by, schedule_by}
use Rattle.single_machine.specs.declared.Machine.{Machine}
use Rattle.single_machine.specs.declared.Did.{Did}
use Rattle.single_machine.specs.declared.Ran.{Ran}
use Rattle.single_machine.specs.Machine.{idler, idlers, place_of, fresh_of, blank, refused, accepted}
use Rattle.single_machine.specs.Broken.{broken_of}
use Rattle.single_machine.specs.Turn.{verdict_of, begun, stored, acted_by, carried, turn, turn_of, turn_of_by}
use Rattle.single_machine.specs.Run.{ran, run_from, run_of}
use Rattle.single.specs.Single.{make_of, step_of}
use Rattle.single_rows.specs.Rows.{Words, words_of, machine_in, shaped, stand}
use Rattle.single_rows.proofs.Lists.{many}
use Rattle.single_rows.proofs.Standing.{standing, same_words, written_stand, same_machine}
use Rattle.single_host.specs.Host.{reply, broken_words, After, after, after_of, make_words, step_words_of, Ended, ended, ended_of, run_words, contents_words}
use Rattle.single_demands.specs.Notions.{Allowed, source, machine_after, acts_of}
use Rattle.single_demands.specs.Stories.{story_of}
use Rattle.single_demands.specs.Demands.{PlainThroughout, Demand2, Demand3}
use Rattle.single_demands.proofs.Refusals.{refused_unchanged, list_first, stays_unbroken}
use Rattle.single_proof_demand2.proofs.Demand2.{demand2}
use Rattle.single_proof_demand3.proofs.Demand3.{demand3}
use Rattle.single_proof_plain.proofs.Plain.{answers_plain}
use Rattle.single_proof_host.specs.Hosted.{face, OneToOne, Malformed, RefusedWords, RunAsSteps, left_by, taken_by, Under, HostedThroughout}

pub one_to_one : OneToOne stand
one_to_one = record { written = same_words; stand_for = written_stand; machine = same_machine }

pub malformed : Malformed face
unfolding broken_words step_words_of run_words contents_words
malformed = record {
  broken = λ w h. rw h refl;
  step = λ w first second h. rw h refl;
  run = λ w s h. rw h refl;
  contents = λ w buffer h. rw h refl;
}

-- ---- refused
pub refused_step : (w : Words) (first second : ℕ) → ((step_words_of w first second).answer ≡ 0 → ⊥) → (step_words_of w first second).words ≡ w
unfolding step_words_of
refused_step w first second = go (stand w) refl
  where
    d : Did
    d = step_of (machine_in w) first second

    go : (b : Bool) → stand w ≡ b → ((cond b (after_of d) (after 6 w)).answer ≡ 0 → ⊥) → (cond b (after_of d) (after 6 w)).words ≡ w
    go false e h = refl
    go true e h = ap words_of (refused_unchanged.step (machine_in w) first second h) ∙ same_words w e

refused_make : (w : Words) (workers : ℕ) → ((make_words w workers).answer ≡ 0 → ⊥) → (make_words w workers).words ≡ w
unfolding make_words
refused_make w workers = go (shaped w) (eqb (make_of workers).refusal 0) refl
  where
    d : Did
    d = make_of workers

    go : (a b : Bool) → eqb d.refusal 0 ≡ b → ((cond a (cond b (after_of d) (after d.refusal w)) (after 6 w)).answer ≡ 0 → ⊥)
        → (cond a (cond b (after_of d) (after d.refusal w)) (after 6 w)).words ≡ w
    go false b e h = refl
    go true false e h = refl
    go true true e h = absurd (h (eqb-true d.refusal 0 e))

-- nothing of an empty schedule is run
none_run : (m : Machine) → (run_of m []).machine ≡ m
unfolding schedule_by search_by run_by ran
none_run m = go (broken_of m)
  where
    go : (b : Bool) → (cond b (ran 6 0 m) (ran 0 0 m)).machine ≡ m
    go true = refl
    go false = refl

module _ (w : Words) (s : List ℕ) where
  abbrev gone : Ran
  gone = run_of (machine_in w) s

  refused_run : ((run_words w s).answer.refusal ≡ 0 → ⊥) → (run_words w s).answer.number ≡ 0 → (run_words w s).words ≡ w
  unfolding run_words
  refused_run = go (stand w) refl
    where
      same : (gone.refusal ≡ 0 → ⊥) → gone.place ≡ 0 → (b : Bool) → eqb gone.refusal 9 ≡ b → gone.machine ≡ machine_in w
      same h p true e = refused_unchanged.unread (machine_in w) s (eqb-true gone.refusal 9 e)
      same h p false e =
          refused_unchanged.run (machine_in w) s h (eqb-false gone.refusal 9 e) ∙ ap (λ (k : ℕ). (run_of (machine_in w) (take (2 * k) s)).machine) p ∙ none_run (machine_in w)

      go : (b : Bool) → stand w ≡ b → ((cond b (ended_of gone) (ended (reply 6 0) w)).answer.refusal ≡ 0 → ⊥) → (cond b (ended_of gone) (ended (reply 6 0) w)).answer.number ≡ 0
          → (cond b (ended_of gone) (ended (reply 6 0) w)).words ≡ w
      go false e h p = refl
      go true e h p = ap words_of (same h p (eqb gone.refusal 9) refl) ∙ same_words w e

  unread_run : (run_words w s).answer.refusal ≡ 9 → (run_words w s).words ≡ w
  unfolding run_words
  unread_run = go (stand w) refl
    where
      go : (b : Bool) → stand w ≡ b → (cond b (ended_of gone) (ended (reply 6 0) w)).answer.refusal ≡ 9 → (cond b (ended_of gone) (ended (reply 6 0) w)).words ≡ w
      go false e h = refl
      go true e h = ap words_of (refused_unchanged.unread (machine_in w) s h) ∙ same_words w e

pub refused_words : RefusedWords face
refused_words = record { make = refused_make; step = refused_step; run = refused_run; unread = unread_run }

-- ---- an entry keeps the sixteen records
module _ (m : Machine) where
  carried_long : (w : ℕ) (v : Verdict) → length (carried m w (place_of m.workers w) v).machine.workers ≡ length m.workers
  unfolding refused accepted begun acted_by stored
  carried_long w (Refuse k) = refl
  carried_long w (Start c) = length-set m.workers w _
  carried_long w (Move lose) = length-set m.workers w _

  turn_long : (x : Entry) → length (turn m x).machine.workers ≡ length m.workers
  unfolding refused
  turn_long Unreadable = refl
  turn_long (Asks w o) = go (ltb w m.count)
    where
      go : (b : Bool) → length (cond b (carried m w (place_of m.workers w) (verdict_of m.meter (place_of m.workers w) o)) (refused 3 m)).machine.workers ≡ length m.workers
      go true = carried_long w (verdict_of m.meter (place_of m.workers w) o)
      go false = refl

  turned_long : (first second : ℕ) → length (turn_of m first second).machine.workers ≡ length m.workers
  unfolding turn_of_by
  turned_long first second = turn_long (entry_of first second)

-- ---- words that stand for a machine that is not broken
pub record Sound (w : Words) : Type 0 where
  pub stands : stand w ≡ true
  pub unbroken : broken_of (machine_in w) ≡ false

module _ (w : Words) (s : Sound w) where
  long : length (machine_in w).workers ≡ workers_most
  unfolding machine_in
  long = many w.records ∙ omega (arith, (standing w s.stands).all_words)

  module _ (first second : ℕ) where
    did : Did
    did = turn_of (machine_in w) first second

    step_turned : step_of (machine_in w) first second ≡ turn_of (machine_in w) first second
    unfolding step_of
    step_turned = ap (λ (b : Bool). cond b (refused 6 (machine_in w)) (turn_of (machine_in w) first second)) s.unbroken

    pub step_is : step_words_of w first second ≡ after_of (turn_of (machine_in w) first second)
    unfolding step_words_of
    step_is = ap (λ (b : Bool). cond b (after_of (step_of (machine_in w) first second)) (after 6 w)) s.stands ∙ ap after_of step_turned

    read_after : machine_in (step_words_of w first second).words ≡ (turn_of (machine_in w) first second).machine
    read_after = ap (λ (x : After). machine_in x.words) step_is ∙ same_machine (turn_of (machine_in w) first second).machine

    pub sound_after : Sound (step_words_of w first second).words
    sound_after = record {
      stands = ap (λ (x : After). stand x.words) step_is ∙ written_stand (turn_of (machine_in w) first second).machine (turned_long (machine_in w) first second ∙ long);
      unbroken = ap broken_of (read_after ∙ ap (λ (d : Did). d.machine) (sym step_turned)) ∙ stays_unbroken.step (machine_in w) first second s.unbroken;
    }

-- ---- a schedule is its entries, each as a step
abbrev pub words_by : Words → ℕ → List ℕ → Ended
words_by w i s = run_by (λ (x : After). x.answer) (λ (x : After). x.words) step_words_of (λ (number place : ℕ) (z : Words). ended (reply number place) z) w i s

pub by_entries : (s : List ℕ) (w : Words) (i : ℕ) → Sound w → ended_of (run_from (machine_in w) i s) ≡ words_by w i s
unfolding run_by ran
by_entries [] w i so = ap (ended (reply 0 i)) (same_words w so.stands)
by_entries (first ∷ []) w i so = ap (ended (reply 0 i)) (same_words w so.stands)
by_entries (first ∷ second ∷ rest) w i so =
    go (by_entries rest (step_words_of w first second).words (i + 1) (sound_after w so first second)) (eqb (turn_of (machine_in w) first second).refusal 0)
    ∙ ap (λ (x : After). cond (eqb x.answer 0) (words_by (step_words_of w first second).words (i + 1) rest) (ended (reply x.answer i) w)) (sym (step_is w so first second))
  where
    d : Did
    d = turn_of (machine_in w) first second

    go : ended_of (run_from (machine_in (step_words_of w first second).words) (i + 1) rest) ≡ words_by (step_words_of w first second).words (i + 1) rest → (b : Bool)
        → ended_of (cond b (run_from d.machine (i + 1) rest) (ran d.refusal i (machine_in w))) ≡ cond b (words_by (step_words_of w first second).words (i + 1) rest) (ended (reply d.refusal i) w)
    go more true = ap (λ (m : Machine). ended_of (run_from m (i + 1) rest)) (sym (read_after w so first second)) ∙ more
    go more false = ap (ended (reply d.refusal i)) (same_words w so.stands)

sound_of : (w : Words) → broken_words w ≡ false → Sound w
unfolding broken_words
sound_of w h = go (stand w) refl h
  where
    go : (b : Bool) → stand w ≡ b → cond b (broken_of (machine_in w)) true ≡ false → Sound w
    go true e h = record { stands = e; unbroken = h }
    go false e h = absurd (true≢false h)

pub run_as_steps : RunAsSteps face
unfolding run_words
run_as_steps w s h even reads =
    let so = sound_of w h in
    ap (λ (b : Bool). cond b (ended_of (run_of (machine_in w) s)) (ended (reply 6 0) w)) so.stands
    ∙ ap ended_of (list_first.runs (machine_in w) s so.unbroken even reads)
    ∙ by_entries s w 0 so

-- ---- steps are a schedule of those that were accepted
record Led (w : Words) (entries : List ℕ) (i : ℕ) : Type 0 where
  accepted : (run_from (machine_in w) i (taken_by face w entries)).refusal ≡ 0
  machine : (run_from (machine_in w) i (taken_by face w entries)).machine ≡ machine_in (left_by face w entries)

led : (entries : List ℕ) (w : Words) (i : ℕ) → Sound w → Led w entries i
unfolding taken_by left_by run_by ran
led [] w i so = record { accepted = refl; machine = refl }
led (first ∷ []) w i so = record { accepted = refl; machine = refl }
led (first ∷ second ∷ rest) w i so = go (λ k. led rest x.words k (sound_after w so first second)) (eqb x.answer 0) refl
  where
    x : After
    x = step_words_of w first second

    d : Did
    d = turn_of (machine_in w) first second

    run_taken : Bool → ℕ → Ran
    run_taken b i = run_from (machine_in w) i (cond b (first ∷ second ∷ taken_by face x.words rest) (taken_by face x.words rest))

    go : ((k : ℕ) → Led x.words rest k) → (b : Bool) → eqb x.answer 0 ≡ b → Led w (first ∷ second ∷ rest) i
    go leads true e =
        let more = leads (i + 1) in
        let goes : run_taken true i ≡ run_from (machine_in x.words) (i + 1) (taken_by face x.words rest) =
        ap (λ (b : Bool). cond b (run_from d.machine (i + 1) (taken_by face x.words rest)) (ran d.refusal i (machine_in w)))
        (ap (λ (y : After). eqb y.answer 0) (sym (step_is w so first second)) ∙ e)
        ∙ ap (λ (m : Machine). run_from m (i + 1) (taken_by face x.words rest)) (sym (read_after w so first second)) in
        record {
          accepted = ap (λ (b : Bool). (run_taken b i).refusal) e ∙ ap (λ (r : Ran). r.refusal) goes ∙ more.accepted;
          machine = ap (λ (b : Bool). (run_taken b i).machine) e ∙ ap (λ (r : Ran). r.machine) goes ∙ more.machine;
        }
    go leads false e =
        let more = leads i in
        let same : machine_in w ≡ machine_in x.words = ap machine_in (sym (refused_step w first second (eqb-false x.answer 0 e))) in
        let goes : run_taken false i ≡ run_from (machine_in x.words) i (taken_by face x.words rest) = ap (λ (m : Machine). run_from m i (taken_by face x.words rest)) same in
        record {
          accepted = ap (λ (b : Bool). (run_taken b i).refusal) e ∙ ap (λ (r : Ran). r.refusal) goes ∙ more.accepted;
          machine = ap (λ (b : Bool). (run_taken b i).machine) e ∙ ap (λ (r : Ran). r.machine) goes ∙ more.machine;
        }

-- ---- from making on
module _ (w : Words) (workers : ℕ) (made : (make_words w workers).answer ≡ 0) where
  record Fresh : Type 0 where
    refusal_is : (make_of workers).refusal ≡ 0
    words_are : (make_words w workers).words ≡ words_of (make_of workers).machine

  fresh : Fresh
  unfolding make_words
  fresh = go (shaped w) refl (eqb (make_of workers).refusal 0) refl
    where
      d : Did
      d = make_of workers

      by_tests : Bool → Bool → After
      by_tests a b = cond a (cond b (after_of d) (after d.refusal w)) (after 6 w)

      go : (a : Bool) → shaped w ≡ a → (b : Bool) → eqb d.refusal 0 ≡ b → Fresh
      go true ea true eb = record { refusal_is = eqb-true d.refusal 0 eb; words_are = λ i. (by_tests (ea i) (eb i)).words }
      go true ea false eb = absurd (eqb-false d.refusal 0 eb (sym (λ i. (by_tests (ea i) (eb i)).answer) ∙ made))
      go false ea b eb = let six : ◌≡◌ {A = ℕ} 6 0 = sym (λ i. (by_tests (ea i) (eb i)).answer) ∙ made in absurd (omega (arith, six))

  few : in_limits workers workers_most ≡ true
  unfolding make_of refused
  few = go (in_limits workers workers_most) refl fresh.refusal_is
    where
      go : (b : Bool) → in_limits workers workers_most ≡ b → (cond b (accepted (fresh_of workers)) (refused 2 blank)).refusal ≡ 0 → in_limits workers workers_most ≡ true
      go true e h = e
      go false e h = let two : ◌≡◌ {A = ℕ} 2 0 = h in absurd (omega (arith, two))

  machine_is : (make_of workers).machine ≡ fresh_of workers
  unfolding make_of accepted
  machine_is = ap (λ (b : Bool). (cond b (accepted (fresh_of workers)) (refused 2 blank)).machine) few

  w₀ : Words
  w₀ = (make_words w workers).words

  words_are₀ : (make_words w workers).words ≡ words_of (fresh_of workers)
  words_are₀ = fresh.words_are ∙ ap words_of machine_is

  read₀ : machine_in (make_words w workers).words ≡ fresh_of workers
  read₀ = ap machine_in words_are₀ ∙ same_machine (fresh_of workers)

  fresh_long : length (fresh_of workers).workers ≡ workers_most
  unfolding fresh_of idlers
  fresh_long = length-replicate workers_most idler

  pub sound₀ : Sound (make_words w workers).words
  sound₀ = record {
    stands = ap stand words_are₀ ∙ written_stand (fresh_of workers) fresh_long;
    unbroken = ap broken_of (read₀ ∙ sym machine_is) ∙ stays_unbroken.made workers fresh.refusal_is;
  }

  pub allowed : Allowed workers
  allowed = record { some = limit_some workers workers_most true (sym few) refl; most = limit_most workers workers_most true (sym few) refl }

  under : (entries : List ℕ) → Under workers (machine_in (left_by face (make_words w workers).words entries)) (taken_by face (make_words w workers).words entries)
  under entries =
      let s = taken_by face (make_words w workers).words entries in
      let leads = led entries (make_words w workers).words 0 sound₀ in
      let machine_there : machine_after source workers s ≡ machine_in (left_by face (make_words w workers).words entries) = ap (λ (m : Machine). (run_from m 0 s).machine) (sym read₀) ∙ leads.machine in
      record {
        accepted = ap (λ (m : Machine). (run_from m 0 s).refusal) (sym read₀) ∙ leads.accepted;
        machine = machine_there;
        plain = subst (λ (m : Machine). PlainThroughout m (acts_of source workers s) (story_of source workers s)) machine_there (answers_plain workers allowed s);
        demand2 = subst (λ (m : Machine). Demand2 source workers m (acts_of source workers s)) machine_there (demand2 workers allowed s);
        demand3 = subst (λ (m : Machine). Demand3 source m (acts_of source workers s)) machine_there (demand3 workers allowed s);
      }

pub hosted_throughout : HostedThroughout face
hosted_throughout w workers made entries = under w workers made entries
