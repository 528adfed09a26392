-- With no slip planted the face is the one that was proved; each slip, refuted by computing.
use Prim.Native.Nat.{ℕ}
use mathlib.Core.Bool.{false, true≢false}
use mathlib.Core.List.{[], ◌∷◌}
use mathlib.Core.Path.{◌≡◌, refl, sym, ap, ◌∙◌, subst}
use native.Mathlib.Omega.{arith}
use lib.Dec.{eqb}
use lib.ListN.{get_or, set, replicate}
use Rattle.queue_entries.specs.Limits.{in_limits, all}
use Rattle.queue_entries.specs.declared.Entry.TheVariants.{Unreadable}
use Rattle.queue_entries.specs.Entries.{stray_of, order_of, entry_of}
use Rattle.queue_entries.specs.Schedules.{run_by, search_by, schedule_by}
use Rattle.single_places.specs.Places.{view_of}
use Rattle.single_machine.specs.declared.Machine.{Machine}
use Rattle.single_machine.specs.Machine.{idlers, fresh_of, place_of, refused, accepted}
use Rattle.single_machine.specs.Broken.{record_fits, idle_from, broken_of}
use Rattle.single_machine.specs.Turn.{begun, stored, acted_by, turn_of_by}
use Rattle.single_machine.specs.Run.{ran}
use Rattle.single.specs.Single.{make_of, step_of}
use Rattle.single_codes.specs.Codes.{triple, place_in, stands_for}
use Rattle.single_rows.specs.Rows.{Words, words, head_of, records_of, records_in, machine_in, shaped, placed, stand}
use Rattle.single_host.specs.Host.{broken_words, After, make_words, step_words_of, Ended, run_words}
use Rattle.single_proof_host.specs.Hosted.{Malformed, HostedRefusedExactly, RefusedWords, RunAsSteps, HostedThroughout, HostedMixed, running, left_by, taken_by, left_by_all, entries_by}
use Rattle.single_proof_host.specs.Slips.{Faithful, Stands, Refuted}
use Rattle.single_proof_host.proofs.Hosted.{one_to_one, malformed, refused_words, run_as_steps, hosted_throughout}
use Rattle.single_proof_host.proofs.Exactly.{hosted_refused_exactly}
use Rattle.single_proof_host.proofs.Mixed.{hosted_mixed}

pub faithful : Faithful
faithful = refl

pub stands : Stands
stands = (
  one_to_one,
  subst Malformed (sym faithful) malformed,
  subst HostedRefusedExactly (sym faithful) hosted_refused_exactly,
  subst RefusedWords (sym faithful) refused_words,
  subst RunAsSteps (sym faithful) run_as_steps,
  subst HostedThroughout (sym faithful) hosted_throughout,
  subst HostedMixed (sym faithful) hosted_mixed,
)

-- words that are all 0
blanks : Words
blanks = words (replicate 5 0) (replicate 48 0)

-- a fresh machine of one worker
fresh : Words
fresh = (make_words blanks 1).words

other_layout : Words
other_layout = words (set fresh.head 4 1) fresh.records

code99 : Words
code99 = words [] (99 ∷ 0 ∷ 0 ∷ [])

-- a number that is not 0 is not 0
some_number : (n : ℕ) → eqb n 0 ≡ false → n ≡ 0 → ⊥
some_number n h e = true≢false (sym (ap (λ (k : ℕ). eqb k 0) e) ∙ h)

readable : entry_of 0 5 ≡ Unreadable → ⊥
unfolding entry_of stray_of order_of
readable e = let q : ◌≡◌ {A = ℕ} 0 1 = cc in omega arith

pub refuted : Refuted
unfolding blanks fresh other_layout code99 in_limits all stray_of order_of entry_of run_by search_by schedule_by idlers fresh_of refused accepted record_fits idle_from
    broken_of begun stored acted_by turn_of_by ran make_of step_of triple place_in stands_for head_of records_of records_in machine_in shaped placed stand broken_words
    make_words step_words_of run_words left_by taken_by left_by_all entries_by
refuted =
    record {
      one_to_one = λ r. true≢false (ap (λ (w : Words). eqb (get_or w.records 0 0) 26) (r.written code99 refl));
      malformed = λ r. true≢false (ap (λ (x : After). eqb x.answer 0) (r.step other_layout 0 5 refl));
      refused_exactly = λ r. let q : ◌≡◌ {A = ℕ} 0 6 = r.step other_layout 0 5 in omega arith;
      refused_step = λ r. true≢false (sym (ap (λ (w : Words). eqb (get_or w.head 3 0) 0) (r.step fresh 8 0 (some_number _ refl))));
      refused_make = λ r. true≢false (sym (ap (λ (w : Words). eqb (get_or w.head 0 0) 0) (r.make blanks 0 (some_number _ refl))));
      refused_run = λ r. true≢false (sym (ap (λ (w : Words). eqb (get_or w.head 3 0) 0) (r.run fresh (0 ∷ []) (some_number _ refl) refl)));
      run_as_steps = λ r. true≢false (sym (ap (λ (x : Ended). eqb (get_or x.words.records 0 0) 11) (r fresh (0 ∷ 5 ∷ []) refl refl (readable, tt))));
      throughout = λ r. true≢false (ap (λ (m : Machine). (view_of (place_of m.workers 0)).busy) (r blanks 1 refl (0 ∷ 5 ∷ [])).machine);
      mixed = λ r. true≢false (ap (λ (m : Machine). (view_of (place_of m.workers 0)).busy) (r blanks 1 refl (running (0 ∷ 5 ∷ []) ∷ [])).machine);
    }
