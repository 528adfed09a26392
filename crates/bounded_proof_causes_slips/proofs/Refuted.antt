-- Each slip, refuted by computing its schedule.
use Prim.Native.Nat.{ℕ, ◌<◌, ◌≤◌}
use mathlib.Core.Bool.{Bool, false, true≢false}
use mathlib.Core.List.{List, [], ◌∷◌, ◌++◌}
use mathlib.Core.Path.{refl, sym, ap}
use native.Mathlib.Omega.{arith}
use Rattle.queue_entries.specs.Limits.{all}
use Rattle.queue_entries.specs.Schedules.{history_by}
use Rattle.queue_entries.specs.Entries.{stray_of, order_of, entry_of}
use Rattle.bounded_words.specs.declared.Width.TheVariants.{Sixteen, SixtyFour}
use Rattle.bounded_words.specs.Words.{stamp, doubled, mark_of, marked_of, unmarked_of, plus, minus, with_mark, next_of, same, one_past, lap_behind, lap_behind_one_past}
use Rattle.bounded_places.specs.declared.Kind.TheVariants.{Push}
use Rattle.bounded_places.specs.declared.Loss.TheVariants.{Nothing, BySchedule}
use Rattle.bounded_places.specs.declared.Place.TheVariants.{P1, P2, P3, P4, P6, O1, O2, O6, Len1, Len3}
use Rattle.bounded_acts.specs.Acts.{goes, losing, exchange_of, after_tail, tail_to, head_to, stamp_to, value_to, forced_tail, count_of}
use Rattle.bounded_machine.specs.Machine.{empty_slots, stamped, fresh_slots, idlers, fresh_with, refused, accepted}
use Rattle.bounded_machine.specs.Turn.{record_after, begun, stored, acted_by, turn_of_by}
use Rattle.bounded_machine.specs.declared.Event.{Event}
use Rattle.bounded_machine.specs.History.{event}
use Rattle.bounded_causes.specs.declared.Causes.{Causes}
use Rattle.bounded_causes.specs.Causes.{goes_back_of, deed_of, since_with, own_act, other_act, others_hold, watched_to, watched_of, causes_of, named_of}
use Rattle.bounded_demands.specs.Notions.{with_records, of_width, document01, AllowedWith, acts_of, acts, watches_from, Caused, by_schedule, by_own_end, by_other_end, by_hand}
use Rattle.bounded_demands.specs.Retries.{no_cause, Last, last_of, last_in, does, retries}
use Rattle.bounded_proof_demand2.proofs.Lone.{alone_keeps}
use Rattle.bounded_proof_demand2.proofs.Reached.{nil_split}
use Rattle.bounded_proof_causes_slips.specs.Slips.{since_answer}
use Rattle.bounded_proof_causes_slips.specs.Refuted.{Refuted}

uncaused : Caused no_cause → ⊥
uncaused (by_schedule h) = true≢false (sym h)
uncaused (by_own_end h) = true≢false (sym h)
uncaused (by_other_end h) = true≢false (sym h)
uncaused (by_hand h) = true≢false (sym h)

-- of the table's fifth retry, whether its own end is named
fifth : List Last → Bool
fifth [] = false
fifth (a ∷ []) = false
fifth (a ∷ b ∷ []) = false
fifth (a ∷ b ∷ c ∷ []) = false
fifth (a ∷ b ∷ c ∷ d ∷ []) = false
fifth (a ∷ b ∷ c ∷ d ∷ e ∷ rest) = e.causes.own

-- one slot, edition 1
one_slot : (records workers : ℕ) → 0 < workers → workers ≤ records → AllowedWith records 1 workers 1
one_slot records workers some most =
    record { slot_some = omega arith; slot_most = omega arith; worker_some = some; worker_most = most; edition_some = omega arith; edition_most = omega arith }

-- worker 0 alone has its exchange made to fail
alone : List ℕ
alone = does 0 0 5 2 ++ 9 ∷ 0 ∷ []

-- an act of the 65th worker that leaves it with a slot in hand
grabs : Event
grabs = event 64 (P3 Push (stamp 0) 5) (P4 (stamp 0) 5) Nothing

takes : Event
takes = event 0 (P3 Push (stamp 0) 5) (P4 (stamp 0) 5) Nothing

pub refuted : Refuted
unfolding doubled mark_of marked_of unmarked_of plus minus with_mark next_of same one_past lap_behind lap_behind_one_past stray_of order_of entry_of goes losing exchange_of
    after_tail tail_to head_to stamp_to value_to forced_tail count_of empty_slots stamped fresh_slots idlers fresh_with refused accepted record_after begun stored acted_by
    turn_of_by history_by all goes_back_of deed_of since_with own_act other_act others_hold watched_to watched_of causes_of named_of acts watches_from last_of last_in retries
    since_answer fifth alone grabs takes
refuted =
    record {
      schedule = λ r. uncaused (r (acts_of document01 1 2 1 (does 0 0 5 2)) [] (event 0 (P3 Push (stamp 0) 5) (P2 Push (stamp 0) 5) BySchedule) refl refl);
      own = λ r. uncaused (r (acts_of document01 2 2 1 (does 0 0 5 1 ++ does 1 0 6 5)) [] (event 0 (P2 Push (stamp 0) 5) (P1 Push 5) Nothing) refl refl);
      other =
          λ r. uncaused (r (acts_of document01 1 2 1 (does 1 0 6 5 ++ does 0 0 5 2 ++ does 1 2 0 5)) [] (event 0 (P6 (stamp 4) 5) (P1 Push 5) Nothing) refl refl);
      hand = λ r. uncaused (r (acts_of document01 1 2 1 (does 1 0 6 3 ++ does 0 2 0 2)) [] (event 0 (O6 (stamp 0)) O1 Nothing) refl refl);
      hand_now_lem =
          λ r.
          uncaused
          (r (acts_of document01 1 2 1 (does 1 0 6 5 ++ does 1 2 0 3 ++ does 0 0 5 2 ++ acts 1 2)) [] (event 0 (P6 (stamp 4) 5) (P1 Push 5) Nothing) refl refl);
      since_begin_lem = λ r. true≢false (ap fifth r);
      len_stamps =
          λ r.
          true≢false (ap (λ (k : Causes). k.hand)
          (r (acts_of document01 2 2 1 (does 1 0 6 3 ++ does 0 0 5 5 ++ acts 1 2 ++ does 0 3 0 2 ++ does 1 6 0 1)) [] (event 0 (Len3 (stamp 8) (stamp 0)) Len1 Nothing)
          (stamp 8) (stamp 0) refl refl refl));
      mark_unseen_lem =
          λ r.
          uncaused
          (r (acts_of document01 2 2 1 (does 1 0 6 3 ++ does 0 0 5 5 ++ acts 1 2 ++ does 0 3 0 2 ++ does 1 6 0 1)) [] (event 0 (Len3 (stamp 8) (stamp 0)) Len1 Nothing) refl refl);
      records =
          λ r.
          uncaused ((r 1 17 1 (one_slot 17 17 (omega arith) (omega arith)) (omega arith) (does 16 0 5 2 ++ 265 ∷ 0 ∷ [])).caused (acts_of (with_records 17 SixtyFour) 1 17 1 (does 16 0 5 2)) []
          (event 16 (P3 Push (stamp 0) 5) (P2 Push (stamp 0) 5) BySchedule) refl refl);
      in_window =
          λ r.
          uncaused ((r 1 1 1 (one_slot 16 1 (omega arith) (omega arith)) (omega arith) alone (alone_keeps Sixteen 1 1 (one_slot 16 1 (omega arith) (omega arith)) alone)).caused
          (acts_of (of_width Sixteen) 1 1 1 (does 0 0 5 2)) [] (event 0 (P3 Push (stamp 0) 5) (P2 Push (stamp 0) 5) BySchedule) refl refl);
      kept =
          λ k.
          true≢false (sym ((k (grabs ∷ []) 64 (omega arith)).hand.1 (record { earlier = []; act = grabs; later = []; is = refl; by = refl; did = refl; holds = refl; last = tt })));
      kept_nothing =
          λ k.
          true≢false (sym ((k.so (takes ∷ []) 0 (omega arith)).hand.1 (record { earlier = []; act = takes; later = []; is = refl; by = refl; did = refl; holds = refl; last = tt })));
      kept_first = λ k. let z = (k.so [] 0 (omega arith)).hand.0 refl in nil_split z.earlier z.act z.later z.is;
      load_before_lem = λ r. uncaused (r (acts_of document01 1 2 1 (does 1 0 6 5 ++ does 0 0 5 3 ++ does 1 1 7 3 ++ does 0 2 0 1)) [] (event 0 (O2 (stamp 4)) O1 Nothing) refl refl);
    }
