-- Each slip, refuted by computing.
use Prim.Native.Nat.{ℕ}
use mathlib.Core.Bool.{Bool, false, true≢false}
use mathlib.Core.List.{List, [], ◌∷◌}
use mathlib.Core.Path.{◌≡◌, refl, sym, ap, ◌∙◌}
use native.Mathlib.Omega.{arith}
use lib.Dec.{eqb}
use lib.ListN.{get_or}
use Rattle.queue_entries.specs.Limits.{in_limits, all}
use Rattle.queue_entries.specs.declared.Entry.TheVariants.{Unreadable}
use Rattle.queue_entries.specs.Entries.{stray_of, order_of, entry_of}
use Rattle.queue_entries.specs.Schedules.{run_by, search_by, schedule_by}
use Rattle.queue_entries.specs.Told.{told}
use Rattle.bounded_words.specs.Words.{stamp, doubled, mark_of, marked_of, unmarked_of, plus, minus, with_mark, next_of, same, one_past, lap_behind, lap_behind_one_past}
use Rattle.bounded_places.specs.declared.Kind.TheVariants.{Push}
use Rattle.bounded_places.specs.declared.Place.TheVariants.{P3}
use Rattle.bounded_places.specs.declared.Worker.{Worker}
use Rattle.bounded_places.specs.Places.{view_of, inside}
use Rattle.bounded_acts.specs.Acts.{goes, losing, exchange_of, after_tail, tail_to}
use Rattle.bounded_machine.specs.declared.Did.{Did}
use Rattle.bounded_machine.specs.declared.Machine.{Machine}
use Rattle.bounded_machine.specs.Machine.{empty_slots, stamped, fresh_slots, idler, idlers, fresh_with, blank, refused, accepted}
use Rattle.bounded_machine.specs.Broken.{by_rule, ends_fit, place_fits, record_fits, records_fit, ring_fits, broken_with}
use Rattle.bounded_machine.specs.Turn.{record_after, begun, stored, acted_by, turn_of_by}
use Rattle.bounded_machine.specs.Run.{ran}
use Rattle.bounded_step_machine.specs.Steps.{step_of_by}
use Rattle.bounded_orders.specs.declared.Metered.{Metered}
use Rattle.bounded_orders.specs.declared.Report.{Report}
use Rattle.bounded_orders.specs.Orders.{make_refusal_with, metered_of, contents_by}
use Rattle.bounded_lent.specs.Lent.{broken_lent, Lent, lent, step_lent, Gone, run_lent, make_lent, contents_lent}
use Rattle.bounded_demands.specs.Notions.{has, acts}
use Rattle.bounded_demands.specs.Lending.{steps, acts_lent, stepping, running, left_lent, all_taken_lent}
use Rattle.bounded_proof_lent_slips.specs.Refuted.{Refuted}

-- a fresh ring of one slot
ring : Metered
ring = metered_of (fresh_with 1 1 1 1)

-- a push about to exchange tail
pushing : Worker
pushing = record { place = P3 Push (stamp 0) 5; differed = 0; failed = 0 }

busy : Worker → Bool
busy r = (view_of r.place).busy

first_busy : List Worker → Bool
first_busy [] = false
first_busy (r ∷ rest) = busy r

-- a number that is not 0 is not 0
some_number : (n : ℕ) → eqb n 0 ≡ false → n ≡ 0 → ⊥
some_number n h e = true≢false (sym (ap (λ (k : ℕ). eqb k 0) e) ∙ h)

readable : entry_of 0 5 ≡ Unreadable → ⊥
unfolding stray_of order_of entry_of
readable e = let q : ◌≡◌ {A = ℕ} 0 1 = cc in omega arith

pub refuted : Refuted
unfolding inside ring pushing step_of_by busy first_busy doubled mark_of marked_of unmarked_of plus minus with_mark next_of same one_past lap_behind lap_behind_one_past
    stray_of order_of entry_of goes losing exchange_of after_tail tail_to empty_slots stamped fresh_slots idlers fresh_with blank refused accepted in_limits all by_rule
    ends_fit place_fits record_fits records_fit broken_with ring_fits record_after begun stored acted_by turn_of_by make_refusal_with broken_lent step_lent make_lent steps
    acts_lent ran run_by search_by schedule_by run_lent contents_by contents_lent told has left_lent all_taken_lent acts
refuted =
    record {
      as_held = λ r. true≢false (ap (λ (d : Did). eqb d.refusal 0) (r.step ring (idler ∷ []) 16 5 (omega arith)));
      others = λ r. true≢false (ap busy (r.others ring (idler ∷ idler ∷ []) 0 5 1 (λ e. omega arith)));
      refused = λ r. true≢false (sym (ap (λ (l : Metered). eqb l.meter 0) (r.refused ring (idler ∷ []) 8 0 (some_number _ refl)).0));
      unmade = λ r. true≢false (sym (ap first_busy (r.unmade (pushing ∷ []) 0 1 (some_number _ refl))));
      throughout = λ r. some_number _ refl (r (idler ∷ []) 1 1 refl (8 ∷ 0 ∷ [])).0.meter;
      unbroken = λ r. true≢false (r ring (pushing ∷ []) 9 0 refl);
      one = λ r. true≢false (ap (λ (x : Lent). first_busy x.records) (r.step ring (idler ∷ []) 8 0 (lent 5 ring (pushing ∷ [])) (lent 5 ring (idler ∷ [])) (refl, refl) (refl, refl)));
      most = λ r. some_number _ refl (sym (r.more (idlers 65) refl));
      refused_step = λ r. true≢false (sym (ap (λ (l : Metered). eqb l.meter 0) (r.step ring (idler ∷ []) 8 0 (some_number _ refl)).0));
      refused_make = λ r. true≢false (sym (ap first_busy (r.make (pushing ∷ []) 0 1 (some_number _ refl)).1));
      refused_run = λ r. true≢false (sym (ap first_busy (r.run ring (idler ∷ []) (0 ∷ 5 ∷ 0 ∷ 5 ∷ []) (some_number _ refl) (λ e. omega (arith, e))).1));
      refused_contents = λ r. true≢false (ap (λ (buffer : List ℕ). eqb (get_or buffer 0 0) 7) (r.contents ring [] (1 ∷ []) (some_number _ refl)));
      numbered = λ r. true≢false (sym (r.run ring (idler ∷ []) (0 ∷ [])));
      each_number = λ r. let q : ◌≡◌ {A = ℕ} 12 11 = ap (λ (l : List ℕ). get_or l 8 0) r.run in omega arith;
      refused_exactly = λ r. let q : ◌≡◌ {A = ℕ} 12 11 = ap (λ (x : Report). x.refusal) ((r.run ring (idler ∷ []) (0 ∷ [])).1 refl refl) in omega arith;
      list_first = λ r. true≢false (ap (λ (g : Gone). first_busy g.records) (r.stops ring (idler ∷ []) (0 ∷ 5 ∷ []) 1 10 0 [] refl refl refl (readable, tt) refl));
      stays_unbroken = λ r. true≢false (r.run ring (pushing ∷ []) (9 ∷ 0 ∷ []) refl);
      mixed = λ r. true≢false (sym (ap (λ (m : Machine). eqb m.meter 0) (r (idler ∷ []) 1 1 refl (running (0 ∷ 5 ∷ 8 ∷ 0 ∷ []) ∷ [])).0.machine));
      mixed_step = λ r. true≢false (ap (λ (m : Machine). eqb m.meter 0) (r (idler ∷ []) 1 1 refl (stepping 8 0 ∷ [])).0.machine);
    }
