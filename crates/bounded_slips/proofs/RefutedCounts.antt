-- Each of them, refuted by computing.
use Prim.Native.Nat.{ℕ, zero, suc, ◌<◌}
use native.Mathlib.Omega.{arith}
use mathlib.Core.Bool.{true≢false}
use mathlib.Core.List.{List, [], ◌∷◌, ◌++◌}
use mathlib.Core.Path.{◌≡◌, refl, sym, ap}
use Rattle.queue_entries.specs.Schedules.{run_by, history_by}
use Rattle.queue_entries.specs.Entries.{stray_of, order_of, entry_of}
use Rattle.queue_entries.specs.Limits.{all, in_limits}
use Rattle.bounded_words.specs.Words.{stamp, fixed_of, doubled, mark_of, marked_of, unmarked_of, plus, minus, with_mark, next_of, same, one_past, lap_behind, lap_behind_one_past}
use Rattle.bounded_places.specs.declared.Kind.TheVariants.{Push}
use Rattle.bounded_places.specs.declared.Loss.TheVariants as loss
use Rattle.bounded_places.specs.declared.Place.TheVariants.{P3, O3, O4, O5}
use Rattle.bounded_places.specs.Places.{inside}
use Rattle.bounded_acts.specs.Acts.{forced_tail, goes, losing, exchange_of, after_tail, tail_to, head_to, stamp_to, value_to}
use Rattle.bounded_machine.specs.declared.Machine.{Machine}
use Rattle.bounded_machine.specs.declared.Event.{Event}
use Rattle.bounded_machine.specs.Machine.{slot, machine_of, empty_slots, stamped, fresh_slots, idlers, fresh_with, refused, accepted}
use Rattle.bounded_machine.specs.Broken.{by_rule, ends_fit, place_fits, record_fits, records_fit, ring_fits, broken_with}
use Rattle.bounded_machine.specs.Turn.{beginner, record_after, begun, stored, acted_by, turn_of_by}
use Rattle.bounded_machine.specs.Run.{ran}
use Rattle.bounded_machine.specs.History.{event, tally_of, stock_of, untaken_of}
use Rattle.bounded_sixteen_bits.specs.SixteenBits.{Short, ShortSlots, widened, narrowed}
use Rattle.bounded_demands.specs.Notions.{acts, tallied_from, reads_in, takers_of, lost_from, cut_to}
use Rattle.bounded_demands.specs.Shelves.{pushes, forces}
use Rattle.bounded_slips.specs.Refuted.{does, pop_loses, closed_f, reached}
use Rattle.bounded_slips.specs.RefutedCounts.{RefutedCounts}
use Rattle.bounded_slips.proofs.Refuted.{one_two, readable}
use Rattle.bounded_slips.proofs.Ways.{busy_at}

-- a value read out; a head claim
read : List Event
read = event 0 (O4 (stamp 0)) (O5 (stamp 0) 5) loss.Nothing ∷ []

taken : List Event
taken = event 0 (O3 (stamp 0)) (O4 (stamp 0)) loss.Nothing ∷ []

-- A ring of one slot whose words are near their end, with a push at its exchange.
near_end : Machine
near_end = machine_of (fixed_of 1 1) (record { head = stamp 65532; tail = stamp 65532 }) (slot 65532 0 ∷ []) (beginner (P3 Push (stamp 65532) 5) ∷ []) 1 0

one_short_lem : ShortSlots (slot 65532 0 ∷ [])
one_short_lem zero = omega arith
one_short_lem (suc i) = omega arith

short : Short near_end
unfolding near_end
short = record { head = omega arith; tail = omega arith; slots = one_short_lem }

pub refuted_counts : RefutedCounts
unfolding read taken near_end forced_tail doubled mark_of marked_of unmarked_of plus minus with_mark next_of same one_past lap_behind lap_behind_one_past inside stray_of
    order_of entry_of goes losing exchange_of after_tail tail_to head_to stamp_to value_to empty_slots stamped fresh_slots idlers fresh_with refused accepted all in_limits
    by_rule ends_fit place_fits record_fits records_fit broken_with ring_fits record_after begun stored acted_by turn_of_by ran run_by history_by tally_of stock_of untaken_of
    acts tallied_from reads_in takers_of lost_from cut_to widened narrowed pushes forces
refuted_counts =
    record {
      reads = λ t. let q : ◌≡◌ {A = ℕ} 0 1 = t.reads read (omega arith) in omega arith;
      heads = λ t. let q : ◌≡◌ {A = ℕ} 0 1 = t.heads taken (omega arith) in omega arith;
      tallied = λ t. let q : ◌≡◌ {A = ℕ} 1 0 = t 1 2 1 one_two (does 0 0 5 5 ++ does 0 2 0 4) in omega arith;
      attained = λ t. let q : ◌≡◌ {A = ℕ} 1 2 = t 1 2 1 one_two in omega arith;
      losses_of_sixteen = λ t. let q : ◌≡◌ {A = ℕ} 2 1 = (t 1 2 1 one_two pop_loses 0).1 in omega arith;
      close_anywhere = λ o. true≢false (sym (o (reached closed_f) refl refl refl (acts 0 2)));
      words_of_64 = λ f. let q : 65536 < 65536 = (f.entry near_end 8 0 short).tail in omega arith;
      cut_to_fifteen = λ f. let q : ◌≡◌ {A = ℕ} 32764 65532 = ap (λ (m : Machine). m.ring.head.0) (f.uncut near_end short) in omega arith;
      same_numbers = λ s. let q : ◌≡◌ {A = ℕ} 32764 65532 = ap (λ (m : Machine). m.ring.head.0) (s.again near_end) in omega arith;
      not_run_lem = λ s. true≢false (sym (ap (λ (m : Machine). busy_at m 0) (s.reaches 1 2 1 one_two (0 ∷ 5 ∷ []) refl (readable, tt))));
    }
