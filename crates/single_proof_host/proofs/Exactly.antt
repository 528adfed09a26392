-- Each refusal of the host's face is given exactly when its ground holds and none before it: from the queue's own.
use Prim.Native.Nat.{ℕ, ◌%◌}
use mathlib.Core.Path.{◌≡◌, refl, sym, ◌∙◌}
use mathlib.Core.Bool.{Bool, true, false, cond, not, true≢false}
use mathlib.Core.List.{List, [], ◌∷◌}
use lib.Dec.{eqb, ltb}
use lib.ListN.{length}
use borrow.Author.Tests.{eqb-true}
use Rattle.queue_entries.specs.Limits.{workers_most, in_limits}
use Rattle.queue_entries.specs.Entries.{entry_of}
use Rattle.queue_entries.specs.Told.{told}
use Rattle.std.specs.Prelude.{Ok, Err}
use Rattle.queue_numbers.specs.Numbers.{on, first_of}
use Rattle.single_machine.specs.declared.Did.{Did}
use Rattle.single_machine.specs.Broken.{broken_of, idle_from}
use Rattle.single_machine.specs.Contents.{count_in, contents_refusal}
use Rattle.single_machine.specs.Run.{run_of}
use Rattle.single.specs.Single.{make_of, step_of}
use Rattle.single_rows.specs.Rows.{Words, machine_in, shaped, stand}
use Rattle.single_host.specs.Host.{reply, broken_words, after, after_of, made_from, make_words, step_words_of, ended, ended_of, run_words, reply_of, listed, contents_in, contents_words}
use Rattle.single_demands.specs.Demands.{entry_grounds}
use Rattle.single_demands.proofs.Exactly.{refused_exactly}
use Rattle.single_proof_host.specs.Hosted.{face, HostedRefusedExactly}

-- an answer that is a number or a refusal is refused by the number told
told_back : (number value : ℕ) → (reply_of (told number value)).refusal ≡ number
unfolding told
told_back number value = go (eqb number 0) refl
  where
    go : (b : Bool) → eqb number 0 ≡ b → (reply_of (cond b (Ok value) (Err number))).refusal ≡ number
    go true h = sym (eqb-true number 0 h)
    go false h = refl

module _ (w : Words) where
  made_answer : (d : Did) → (made_from w d).answer ≡ d.refusal
  made_answer d = go (eqb d.refusal 0)
    where
      go : (b : Bool) → (cond b (after_of d) (after d.refusal w)).answer ≡ d.refusal
      go true = refl
      go false = refl

  make_exactly : (workers : ℕ) → (make_words w workers).answer ≡ first_of (on 6 (not (shaped w)) ∷ on 2 (not (in_limits workers workers_most)) ∷ [])
  unfolding make_words
  make_exactly workers = go (shaped w)
    where
      go : (b : Bool) → (cond b (made_from w (make_of workers)) (after 6 w)).answer ≡ first_of (on 6 (not b) ∷ on 2 (not (in_limits workers workers_most)) ∷ [])
      go true = made_answer (make_of workers) ∙ refused_exactly.make workers
      go false = refl

  step_exactly : (first second : ℕ) → (step_words_of w first second).answer ≡ first_of (on 6 (broken_words w) ∷ entry_grounds (machine_in w) (entry_of first second))
  unfolding step_words_of broken_words
  step_exactly first second = go (stand w)
    where
      go : (b : Bool) → (cond b (after_of (step_of (machine_in w) first second)) (after 6 w)).answer
          ≡ first_of (on 6 (cond b (broken_of (machine_in w)) true) ∷ entry_grounds (machine_in w) (entry_of first second))
      go true = refused_exactly.step (machine_in w) first second
      go false = refl

  run_broken : (s : List ℕ) → broken_words w ≡ true → (run_words w s).answer.refusal ≡ 6
  unfolding run_words broken_words
  run_broken s = go (stand w)
    where
      go : (b : Bool) → cond b (broken_of (machine_in w)) true ≡ true → (cond b (ended_of (run_of (machine_in w) s)) (ended (reply 6 0) w)).answer.refusal ≡ 6
      go true h = (refused_exactly.run (machine_in w) s).0 h
      go false h = refl

  run_odd : (s : List ℕ) → broken_words w ≡ false → length s % 2 ≡ 1 → (run_words w s).answer.refusal ≡ 11
  unfolding run_words broken_words
  run_odd s h odd = go (stand w) h
    where
      go : (b : Bool) → cond b (broken_of (machine_in w)) true ≡ false → (cond b (ended_of (run_of (machine_in w) s)) (ended (reply 6 0) w)).answer.refusal ≡ 11
      go true z = (refused_exactly.run (machine_in w) s).1 z odd
      go false z = absurd (true≢false z)

  contents_exactly : (buffer : List ℕ) → (contents_words w buffer).answer.refusal
      ≡ first_of (on 6 (broken_words w) ∷ on 4 (not (idle_from 0 (machine_in w).workers)) ∷ on 10 (ltb (length buffer) (count_in (machine_in w))) ∷ [])
  unfolding contents_words broken_words
  contents_exactly buffer = go (stand w)
    where
      go : (b : Bool) → (cond b (contents_in (machine_in w) buffer) (listed (reply 6 0) buffer)).answer.refusal
          ≡ first_of (on 6 (cond b (broken_of (machine_in w)) true) ∷ on 4 (not (idle_from 0 (machine_in w).workers)) ∷ on 10 (ltb (length buffer) (count_in (machine_in w))) ∷ [])
      go true = told_back (contents_refusal (machine_in w) (length buffer)) (count_in (machine_in w)) ∙ refused_exactly.contents (machine_in w) (length buffer)
      go false = refl

pub hosted_refused_exactly : HostedRefusedExactly face
hosted_refused_exactly = record { make = make_exactly; step = step_exactly; run = λ w s. (run_broken w s, run_odd w s); contents = contents_exactly }
