-- Each refusal of the host's face is given exactly when its ground holds and none before it: from the lent face.
use Prim.Native.Nat.{ℕ, ◌%◌}
use mathlib.Core.Path.{◌≡◌, refl, ap, ◌∙◌}
use mathlib.Core.Bool.{Bool, true, false, cond, not, true≢false}
use mathlib.Core.List.{List, [], ◌∷◌}
use lib.Dec.{eqb, ltb}
use lib.ListN.{length}
use Rattle.queue_entries.specs.Limits.{in_limits}
use Rattle.std.specs.Prelude.{Result, Ok, Err}
use Rattle.queue_numbers.specs.Numbers.{on, first_of}
use Rattle.bounded_words.specs.Limits.{slots_most, editions_most}
use Rattle.bounded_machine.specs.Broken.{all_idle}
use Rattle.bounded_machine.specs.Contents.{count_on}
use Rattle.bounded_orders.specs.declared.Report.{Report}
use Rattle.bounded_orders.specs.Orders.{records_most}
use Rattle.bounded_lent.specs.Lent.{broken_lent, Lent, step_lent, run_lent, make_lent, capacity_lent, contents_lent}
use Rattle.bounded_rows.specs.Rows.{Words, metered_in, records_in, shaped, stand, after, after_of}
use Rattle.bounded_slices.specs.Slices.{broken_words}
use Rattle.bounded_host.specs.Host.{reply, made_from, make_words, ended, ended_of, run_words, reply_of, capacity_words, listed, listed_of, contents_words}
use Rattle.bounded_host_step.specs.Step.{step_words_of}
use Rattle.bounded_demands.specs.Notions.{entry_grounds}
use Rattle.bounded_demands.specs.Lending.{refusal_of}
use Rattle.bounded_proof_lent.proofs.Exactly.{lent_refused_exactly}
use Rattle.bounded_proof_host.specs.Hosted.{face, held_words, HostedRefusedExactly}

replied : (t : Result ℕ ℕ) → (reply_of t).refusal ≡ refusal_of t
replied (Ok n) = refl
replied (Err k) = refl

made_answer : (w : Words) (x : Lent) → (made_from w x).answer ≡ x.answer
made_answer w x = go (eqb x.answer 0)
  where
    go : (b : Bool) → (cond b (after_of x) (after x.answer w)).answer ≡ x.answer
    go true = refl
    go false = refl

module _ (w : Words) where
  make_exactly : (capacity edition : ℕ) → (make_words w capacity edition).answer
      ≡ first_of (on 6 (not (shaped w)) ∷ on 1 (not (in_limits capacity slots_most)) ∷ on 2 (not (in_limits (length (records_in w.records)) records_most))
      ∷ on 18 (not (in_limits edition editions_most)) ∷ [])
  unfolding make_words
  make_exactly capacity edition = go (shaped w)
    where
      go : (b : Bool) → (cond b (made_from w (make_lent (records_in w.records) capacity edition)) (after 6 w)).answer
          ≡ first_of (on 6 (not b) ∷ on 1 (not (in_limits capacity slots_most)) ∷ on 2 (not (in_limits (length (records_in w.records)) records_most)) ∷ on 18 (not (in_limits edition editions_most)) ∷ [])
      go true = made_answer w (make_lent (records_in w.records) capacity edition) ∙ lent_refused_exactly.make (records_in w.records) capacity edition
      go false = refl

  step_exactly : (first second : ℕ) → (step_words_of w first second).answer ≡ first_of (on 6 (broken_words w) ∷ entry_grounds (held_words w) first second)
  unfolding step_words_of broken_words
  step_exactly first second = go (stand w)
    where
      go : (b : Bool) → (cond b (after_of (step_lent (metered_in w) (records_in w.records) first second)) (after 6 w)).answer
          ≡ first_of (on 6 (cond b (broken_lent (metered_in w) (records_in w.records)) true) ∷ entry_grounds (held_words w) first second)
      go true = lent_refused_exactly.step (metered_in w) (records_in w.records) first second
      go false = refl

  run_broken : (s : List ℕ) → broken_words w ≡ true → (run_words w s).answer ≡ reply 6 0
  unfolding run_words broken_words
  run_broken s = go (stand w)
    where
      go : (b : Bool) → cond b (broken_lent (metered_in w) (records_in w.records)) true ≡ true
          → (cond b (ended_of (run_lent (metered_in w) (records_in w.records) s)) (ended (reply 6 0) w)).answer ≡ reply 6 0
      go true h = ap (λ (r : Report). reply r.refusal r.place) ((lent_refused_exactly.run (metered_in w) (records_in w.records) s).0 h)
      go false h = refl

  run_odd : (s : List ℕ) → broken_words w ≡ false → length s % 2 ≡ 1 → (run_words w s).answer ≡ reply 11 0
  unfolding run_words broken_words
  run_odd s h odd = go (stand w) h
    where
      go : (b : Bool) → cond b (broken_lent (metered_in w) (records_in w.records)) true ≡ false
          → (cond b (ended_of (run_lent (metered_in w) (records_in w.records) s)) (ended (reply 6 0) w)).answer ≡ reply 11 0
      go true z = ap (λ (r : Report). reply r.refusal r.place) ((lent_refused_exactly.run (metered_in w) (records_in w.records) s).1 z odd)
      go false z = absurd (true≢false z)

  contents_exactly : (buffer : List ℕ) → (contents_words w buffer).answer.refusal
      ≡ first_of (on 6 (broken_words w) ∷ on 4 (not (all_idle (records_in w.records))) ∷ on 10 (ltb (length buffer) (count_on (metered_in w).ring)) ∷ [])
  unfolding contents_words broken_words
  contents_exactly buffer = go (stand w)
    where
      go : (b : Bool) → (cond b (listed_of (contents_lent (metered_in w) (records_in w.records) buffer)) (listed (reply 6 0) buffer)).answer.refusal
          ≡ first_of (on 6 (cond b (broken_lent (metered_in w) (records_in w.records)) true) ∷ on 4 (not (all_idle (records_in w.records)))
          ∷ on 10 (ltb (length buffer) (count_on (metered_in w).ring)) ∷ [])
      go true = replied (contents_lent (metered_in w) (records_in w.records) buffer).answer ∙ lent_refused_exactly.contents (metered_in w) (records_in w.records) buffer
      go false = refl

  capacity_exactly : (capacity_words w).refusal ≡ first_of (on 6 (broken_words w) ∷ [])
  unfolding capacity_words broken_words
  capacity_exactly = go (stand w)
    where
      go : (b : Bool) → (cond b (reply_of (capacity_lent (metered_in w) (records_in w.records))) (reply 6 0)).refusal ≡ first_of
          (on 6 (cond b (broken_lent (metered_in w) (records_in w.records)) true) ∷ [])
      go true = replied (capacity_lent (metered_in w) (records_in w.records)) ∙ lent_refused_exactly.capacity (metered_in w) (records_in w.records)
      go false = refl

pub hosted_refused_exactly : HostedRefusedExactly face
hosted_refused_exactly =
    record {
      make = make_exactly;
      step = step_exactly;
      run = λ w s. (run_broken w s, run_odd w s);
      contents = contents_exactly;
      capacity = capacity_exactly;
    }
