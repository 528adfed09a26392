-- With no slip the face is that of 64 bits; each slip, refuted by computing.
use Prim.Native.Nat.{ℕ}
use mathlib.Core.Bool.{Bool, true≢false}
use mathlib.Core.List.{List, [], ◌∷◌}
use mathlib.Core.Path.{◌≡◌, refl, sym, ap}
use native.Mathlib.Omega.{arith}
use lib.Dec.{eqb}
use lib.ListN.{get_or}
use Rattle.queue_entries.specs.Limits.{in_limits, all}
use Rattle.queue_entries.specs.declared.Entry.TheVariants.{Unreadable}
use Rattle.queue_entries.specs.Entries.{stray_of, order_of, entry_of}
use Rattle.queue_entries.specs.Schedules.{run_by, search_by, schedule_by}
use Rattle.bounded_words.specs.Words.{stamp, doubled, mark_of, marked_of, unmarked_of, plus, minus, with_mark, next_of, same, one_past, lap_behind, lap_behind_one_past}
use Rattle.bounded_places.specs.declared.Kind.TheVariants.{Push}
use Rattle.bounded_places.specs.declared.Place.TheVariants.{P3}
use Rattle.bounded_places.specs.Places.{view_of, inside}
use Rattle.bounded_acts.specs.Acts.{goes, losing, exchange_of, after_tail, tail_to}
use Rattle.bounded_machine.specs.declared.Machine.{Machine}
use Rattle.bounded_machine.specs.declared.Did.{Did}
use Rattle.bounded_machine.specs.declared.Ran.{Ran}
use Rattle.bounded_machine.specs.Machine.{place_of, empty_slots, stamped, fresh_slots, idlers, fresh_with, fresh_of, blank, refused, accepted}
use Rattle.bounded_machine.specs.Broken.{by_rule, ends_fit, place_fits, record_fits, records_fit, ring_fits, broken_with}
use Rattle.bounded_machine.specs.Turn.{record_after, begun, stored, acted_by, turn_of_by}
use Rattle.bounded_machine.specs.Run.{ran}
use Rattle.bounded_step_machine.specs.Steps.{step_of_by, begin_step_of_by}
use Rattle.bounded.specs.Bounded.{make_of}
use Rattle.bounded_orders.specs.Orders.{metered_of}
use Rattle.bounded_demands.specs.Notions.{has, by_run, by_step, left_by_all, taken_by_all}
use Rattle.bounded_demands.specs.Lending.{holding}
use Rattle.bounded_proof_faces_slips.specs.Slips.{Faithful}
use Rattle.bounded_proof_faces_slips.specs.Refuted.{Refuted}

pub faithful : Faithful
faithful = record { face = refl; promises = refl }

-- a fresh machine of one slot and one worker
m₀ : Machine
m₀ = fresh_of 1 1 1

-- one whose worker is about to exchange tail
exchanging : Machine
exchanging = holding (metered_of (fresh_of 1 1 1)) (record { place = P3 Push (stamp 0) 5; differed = 0; failed = 0 } ∷ [])

busy : Machine → Bool
busy m = (view_of (place_of m.workers 0)).busy

unmetered : Machine → Bool
unmetered m = eqb m.meter 0

readable : entry_of 0 5 ≡ Unreadable → ⊥
unfolding stray_of order_of entry_of
readable e = let q : ◌≡◌ {A = ℕ} 0 1 = cc in omega arith

pub refuted : Refuted
unfolding m₀ exchanging busy unmetered inside doubled mark_of marked_of unmarked_of plus minus with_mark next_of same one_past lap_behind lap_behind_one_past stray_of
    order_of entry_of goes losing exchange_of after_tail tail_to empty_slots stamped fresh_slots idlers fresh_with blank refused accepted in_limits all by_rule ends_fit
    place_fits record_fits records_fit broken_with ring_fits record_after begun stored acted_by turn_of_by ran run_by search_by schedule_by step_of_by begin_step_of_by make_of
    has left_by_all taken_by_all
refuted =
    record {
      unchanged = λ r. true≢false (sym (ap unmetered (r.step m₀ 8 0 (λ e. omega (arith, e)))));
      numbered = λ r. true≢false (sym (r.run m₀ (0 ∷ [])));
      numbered_begin = λ r. true≢false (sym (r.begin m₀ 8 0));
      each_number = λ r. let q : ◌≡◌ {A = ℕ} 2 18 = ap (λ (l : List ℕ). get_or l 3 0) r.make in omega arith;
      exactly_make = λ r. let q : ◌≡◌ {A = ℕ} 2 18 = r.make 1 1 0 in omega arith;
      exactly_step = λ r. let q : ◌≡◌ {A = ℕ} 9 0 = r.step m₀ 0 5 in omega arith;
      exactly_begin = λ r. let q : ◌≡◌ {A = ℕ} 5 9 = r.begin m₀ 8 0 in omega arith;
      exactly_run = λ r. let q : ◌≡◌ {A = ℕ} 12 11 = ap (λ (x : Ran). x.refusal) ((r.run m₀ (0 ∷ [])).1 refl refl) in omega arith;
      list_first = λ r. true≢false (ap (λ (x : Ran). busy x.machine) (r.stops m₀ (0 ∷ 5 ∷ []) 1 10 0 [] refl refl refl (readable, tt) refl));
      stays_unbroken = λ r. true≢false (r.step exchanging 9 0 refl);
      only_one = λ r. true≢false (ap (λ (x : Did). busy x.machine) (r.step m₀ 8 0 (record { refusal = 5; machine = exchanging }) (record { refusal = 5; machine = m₀ }) refl refl));
      both_ways_number = λ b. let q : ◌≡◌ {A = ℕ} 0 6 = b.number_kept 6 0 in omega arith;
      both_ways_back = λ b. let q : ◌≡◌ {A = ℕ} 0 6 = b.number_kept 6 0 in omega arith;
      both_ways_values = λ b. let q : ◌≡◌ {A = ℕ} 3 2 = ap (λ (v : ℕ × ℕ). v.0) (b.values_kept (2, 3)) in omega arith;
      mixed_run = λ r. true≢false (sym (ap unmetered (r 1 1 1 refl (by_run (0 ∷ 5 ∷ 8 ∷ 0 ∷ []) ∷ [])).0.machine));
      mixed_step = λ r. true≢false (ap unmetered (r 1 1 1 refl (by_step 8 0 ∷ [])).0.machine);
      mixed_in_window = λ r. true≢false (sym (ap unmetered (r 1 1 1 refl (by_run (0 ∷ 5 ∷ 8 ∷ 0 ∷ []) ∷ [])).0.machine));
    }
