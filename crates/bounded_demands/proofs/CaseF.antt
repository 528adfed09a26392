-- Case F in both editions, computed from the definitions.
use mathlib.Core.Path.{refl, sym}
use mathlib.Core.Bool.{true≢false}
use mathlib.Core.List.{[], ◌∷◌}
use Rattle.queue_entries.specs.Schedules.{run_by, history_by}
use Rattle.queue_entries.specs.Entries.{stray_of, order_of, entry_of}
use Rattle.bounded_words.specs.Words.{stamp, doubled, mark_of, marked_of, unmarked_of, plus, minus, with_mark, next_of, same, one_past, lap_behind, lap_behind_one_past}
use Rattle.bounded_places.specs.declared.Answer.TheVariants.{Displaced, Yes}
use Rattle.bounded_places.specs.declared.Loss.TheVariants.{Nothing}
use Rattle.bounded_places.specs.declared.Place.TheVariants.{Idle, F6, F7, F8, F9, Close1}
use Rattle.bounded_acts.specs.Acts.{goes, losing, exchange_of, after_tail, tail_to, head_to, stamp_to, value_to, forced_tail}
use Rattle.bounded_machine.specs.Machine.{empty_slots, stamped, fresh_slots, idlers, fresh_with, refused, accepted}
use Rattle.bounded_machine.specs.Turn.{record_after, begun, stored, acted_by, turn_of_by}
use Rattle.bounded_machine.specs.Run.{ran}
use Rattle.bounded_machine.specs.History.{event}
use Rattle.bounded_demands.specs.Notions.{document01, acts_of, acts}
use Rattle.bounded_demands.specs.Eight.{past_load}
use Rattle.bounded_demands.specs.Demands.{CaseF}

pub case_f_lem : CaseF document01
unfolding doubled mark_of marked_of unmarked_of plus minus with_mark next_of same one_past lap_behind lap_behind_one_past stray_of order_of entry_of goes losing exchange_of
    after_tail tail_to head_to stamp_to value_to forced_tail empty_slots stamped fresh_slots idlers fresh_with refused accepted record_after begun stored acted_by turn_of_by
    ran run_by history_by acts
case_f_lem =
    record {
      still_claims =
          record {
            earlier = acts_of document01 1 2 2 past_load;
            close = event 1 Close1 (Idle Yes) Nothing;
            between = event 0 (F6 (stamp 4) 8) (F7 (stamp 4) 8) Nothing ∷ [];
            claim = event 0 (F7 (stamp 4) 8) (F8 (stamp 4) 8) Nothing;
            later = event 0 (F8 (stamp 4) 8) (F9 (stamp 4) 7) Nothing ∷ event 0 (F9 (stamp 4) 7) (Idle (Displaced 7)) Nothing ∷ [];
            is = refl;
            yes = (refl, refl);
            claims = refl;
          };
      forgets = λ o. true≢false (sym (o refl (acts 0 2)));
      yes_again =
          λ o.
          o (acts_of document01 1 2 1 past_load)
          (event 0 (F6 (stamp 4) 8) (F7 (stamp 4) 8) Nothing ∷ event 0 (F7 (stamp 4) 8) (F8 (stamp 4) 8) Nothing
          ∷ event 0 (F8 (stamp 4) 8) (F9 (stamp 4) 7) Nothing ∷ event 0 (F9 (stamp 4) 7) (Idle (Displaced 7)) Nothing ∷ [])
          [] (event 1 Close1 (Idle Yes) Nothing) (event 1 Close1 (Idle Yes) Nothing) refl (refl, refl) (refl, refl);
    }
