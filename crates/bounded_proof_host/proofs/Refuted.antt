-- With no slip planted the face is the one that was proved; each slip, refuted by computing.
use Prim.Native.Nat.{ℕ}
use mathlib.Core.Bool.{false, true≢false}
use mathlib.Core.List.{[], ◌∷◌}
use mathlib.Core.Path.{◌≡◌, refl, sym, ap, ◌∙◌, subst}
use native.Mathlib.Omega.{arith}
use lib.Dec.{eqb}
use lib.ListN.{get_or, set, replicate}
use Rattle.queue_entries.specs.Limits.{in_limits, all}
use Rattle.queue_entries.specs.Entries.{stray_of, order_of, entry_of}
use Rattle.queue_entries.specs.Schedules.{run_by, search_by, schedule_by}
use Rattle.bounded_words.specs.Words.{doubled, mark_of, marked_of, unmarked_of, plus, minus, with_mark, next_of, same, one_past, lap_behind, lap_behind_one_past}
use Rattle.bounded_places.specs.declared.Worker.{Worker}
use Rattle.bounded_places.specs.Places.{view_of, inside}
use Rattle.bounded_acts.specs.Acts.{goes, losing, exchange_of, after_tail, tail_to}
use Rattle.bounded_machine.specs.declared.Machine.{Machine}
use Rattle.bounded_machine.specs.declared.Did.{Did}
use Rattle.bounded_machine.specs.Machine.{place_of, empty_slots, stamped, fresh_slots, idlers, fresh_with, blank, refused, accepted}
use Rattle.bounded_machine.specs.Broken.{by_rule, ends_fit, place_fits, record_fits, records_fit, ring_fits, broken_with}
use Rattle.bounded_machine.specs.Turn.{record_after, begun, stored, acted_by, turn_of_by}
use Rattle.bounded_machine.specs.Run.{ran}
use Rattle.bounded_step_machine.specs.Steps.{step_of_by}
use Rattle.bounded_orders.specs.Orders.{make_refusal_with}
use Rattle.bounded_lent.specs.Lent.{broken_lent, step_lent, run_lent, make_lent}
use Rattle.bounded_codes.specs.Codes.{triple, place_in, stands_for}
use Rattle.bounded_rows.specs.Rows.{Words, words, head_of, slots_of, records_of, words_of, fixed_in, ends_in, slots_in, records_in, shaped, placed, stand, After}
use Rattle.bounded_slices.specs.Slices.{broken_words}
use Rattle.bounded_host.specs.Host.{make_words, run_words}
use Rattle.bounded_host_step.specs.Step.{step_words_of}
use Rattle.bounded_demands.specs.Lending.{stepping, running}
use Rattle.bounded_proof_host.specs.Hosted.{Malformed, HostedRefusedExactly, RefusedWords, OnlyTheActingWords, AsHeldWords, HostedThroughout, HostedMixed}
use Rattle.bounded_proof_host.specs.Hosted.{left_by, entries_by, acts_words, all_taken_words}
use Rattle.bounded_proof_host.specs.Slips.{Faithful, Stands, Refuted}
use Rattle.bounded_proof_host.proofs.Hosted.{one_to_one, malformed, refused_words, only_the_acting_words, as_held_words, hosted_throughout}
use Rattle.bounded_proof_host.proofs.Exactly.{hosted_refused_exactly}
use Rattle.bounded_proof_host.proofs.Mixed.{hosted_mixed}

pub faithful : Faithful
faithful = refl

pub stands : Stands
stands = (
  one_to_one,
  subst Malformed (sym faithful) malformed,
  subst HostedRefusedExactly (sym faithful) hosted_refused_exactly,
  subst RefusedWords (sym faithful) refused_words,
  subst OnlyTheActingWords (sym faithful) only_the_acting_words,
  subst AsHeldWords (sym faithful) as_held_words,
  subst HostedThroughout (sym faithful) hosted_throughout,
  subst HostedMixed (sym faithful) hosted_mixed,
)

-- words that are all 0, with so many words for records
blanks : ℕ → Words
blanks n = words (replicate 8 0) (replicate 2048 0) (replicate n 0)

-- a fresh ring of one slot
fresh : ℕ → Words
fresh n = (make_words (blanks n) 1 1).words

other_layout : Words
other_layout = words (set (fresh 5).head 7 2) (fresh 5).slots (fresh 5).records

code99 : Words
code99 = words [] [] (99 ∷ 0 ∷ 0 ∷ 0 ∷ 0 ∷ [])

-- a number that is not 0 is not 0
some_number : (n : ℕ) → eqb n 0 ≡ false → n ≡ 0 → ⊥
some_number n h e = true≢false (sym (ap (λ (k : ℕ). eqb k 0) e) ∙ h)

pub refuted : Refuted
unfolding blanks fresh other_layout code99 inside step_of_by doubled mark_of marked_of unmarked_of plus minus with_mark next_of same one_past lap_behind lap_behind_one_past
    stray_of order_of entry_of goes losing exchange_of after_tail tail_to empty_slots stamped fresh_slots idlers fresh_with blank refused accepted in_limits all by_rule
    ends_fit place_fits record_fits records_fit broken_with ring_fits record_after begun stored acted_by turn_of_by make_refusal_with broken_lent step_lent run_lent make_lent
    run_by search_by schedule_by ran triple place_in stands_for head_of slots_of records_of words_of fixed_in ends_in slots_in records_in shaped placed stand broken_words
    make_words step_words_of run_words left_by entries_by acts_words all_taken_words
refuted =
    record {
      one_to_one = λ r. true≢false (ap (λ (w : Words). eqb (get_or w.records 0 0) 38) (r.written code99 refl));
      malformed = λ r. true≢false (ap (λ (x : After). eqb x.answer 0) (r.step other_layout 0 5 refl));
      refused_exactly = λ r. let q : ◌≡◌ {A = ℕ} 0 6 = r.step other_layout 0 5 in omega arith;
      refused_step = λ r. true≢false (sym (ap (λ (w : Words). eqb (get_or w.head 6 0) 0) (r.step (fresh 5) 8 0 (some_number _ refl))));
      refused_make = λ r. true≢false (sym (ap (λ (w : Words). eqb (get_or w.head 0 0) 0) (r.make (words (0 ∷ []) [] []) 1 1 (some_number _ refl))));
      acting = λ r. true≢false (sym (ap (λ (y : Worker). eqb y.differed 0) (r.others (fresh 10) 0 5 1 refl (λ e. omega arith))));
      as_held = λ r. true≢false (sym (ap (λ (d : Did). eqb d.refusal 0) (r.step (fresh 5) 0 5 refl (omega arith))));
      throughout = λ r. some_number _ refl (sym (r (blanks 5) 1 1 refl (running (0 ∷ 5 ∷ 8 ∷ 0 ∷ []) ∷ [])).0.meter);
      mixed = λ r. true≢false (ap (λ (m : Machine). eqb m.meter 1) (r (blanks 5) 1 1 refl (running (0 ∷ 5 ∷ 8 ∷ 0 ∷ []) ∷ [])).0.machine);
      told = λ r. true≢false (ap (λ (m : Machine). (view_of (place_of m.workers 0)).busy) (r (blanks 5) 1 1 refl (stepping 0 5 ∷ [])).0.machine);
    }
