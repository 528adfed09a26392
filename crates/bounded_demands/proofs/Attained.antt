-- Demand 3's numbers, computed from the definitions.
use mathlib.Core.Path.{refl}
use Prim.Native.Nat.{◌≤◌}
use native.Mathlib.Omega.{arith}
use Rattle.queue_entries.specs.Schedules.{run_by, search_by, schedule_by}
use Rattle.queue_entries.specs.Entries.{stray_of, order_of, entry_of}
use Rattle.queue_entries.specs.Limits.{all, in_limits}
use Rattle.bounded_words.specs.Words.{doubled, mark_of, marked_of, unmarked_of, plus, minus, with_mark, next_of, same, one_past, lap_behind, lap_behind_one_past}
use Rattle.bounded_places.specs.Places.{inside}
use Rattle.bounded_words.specs.declared.Stamp.{Stamp}
use Rattle.bounded_words.specs.declared.Width.TheVariants.{Sixteen, SixtyFour}
use Rattle.bounded_places.specs.declared.Kind.TheVariants.{Push, Force}
use Rattle.bounded_places.specs.declared.Place.{Place}
use Rattle.bounded_places.specs.declared.Place.TheVariants.{Idle, P1, P2, P3, P4, P5, P6, F6, F7, F8, F9, O1, O2, O3, O4, O5, O6, Len1, Len2, Len3, Empty1, Empty2, Full1, Full2, Close1, IsClosed1}
use Rattle.bounded_acts.specs.Acts.{act_of, goes, losing, exchange_of, after_tail, tail_to, head_to, stamp_to, value_to, forced_tail, count_of}
use Rattle.bounded_machine.specs.Machine.{empty_slots, stamped, fresh_slots, idlers, fresh_with, refused, accepted}
use Rattle.bounded_machine.specs.Broken.{by_rule, ends_fit, place_fits, record_fits, records_fit, ring_fits, broken_with}
use Rattle.bounded_machine.specs.Turn.{record_after, begun, stored, acted_by, turn_of_by}
use Rattle.bounded_machine.specs.Run.{ran}
use Rattle.bounded_demands.specs.Notions.{acts, most_of, InHand, hand_p4, hand_p5, hand_f7, hand_f8, hand_f9, hand_o4, hand_o5}
use Rattle.bounded_demands.specs.Attained.{attained, seen_by, sight_of, needed, others_idle, seen_beside, attained_beside}
use Rattle.bounded_demands.specs.Demands.{Attained, AttainedBy, AttainedBeside, AtMost}

pub numbers_attained : Attained
unfolding doubled mark_of marked_of unmarked_of plus minus with_mark next_of same one_past lap_behind lap_behind_one_past inside stray_of order_of entry_of goes losing
    exchange_of after_tail tail_to head_to stamp_to value_to forced_tail count_of empty_slots stamped fresh_slots idlers fresh_with refused accepted all in_limits by_rule
    ends_fit place_fits record_fits records_fit broken_with ring_fits record_after begun stored acted_by turn_of_by ran run_by search_by schedule_by acts attained seen_by
    sight_of needed others_idle
numbers_attained = refl

pub attained_by : AttainedBy (act_of SixtyFour) 2 × AttainedBy (act_of Sixteen) 1 × AttainedBy (act_of Sixteen) 2
unfolding doubled mark_of marked_of unmarked_of plus minus with_mark next_of same one_past lap_behind lap_behind_one_past inside stray_of order_of entry_of goes losing
    exchange_of after_tail tail_to head_to stamp_to value_to forced_tail count_of empty_slots stamped fresh_slots idlers fresh_with refused accepted all in_limits by_rule
    ends_fit place_fits record_fits records_fit broken_with ring_fits record_after begun stored acted_by turn_of_by ran run_by search_by schedule_by acts attained seen_by
    sight_of needed others_idle
attained_by = (refl, refl, refl)

pub attained_beside_lem : AttainedBeside (act_of SixtyFour) 1 × AttainedBeside (act_of SixtyFour) 2 × AttainedBeside (act_of Sixteen) 1 × AttainedBeside (act_of Sixteen) 2
unfolding doubled mark_of marked_of unmarked_of plus minus with_mark next_of same one_past lap_behind lap_behind_one_past inside stray_of order_of entry_of goes losing
    exchange_of after_tail tail_to head_to stamp_to value_to forced_tail count_of empty_slots stamped fresh_slots idlers fresh_with refused accepted all in_limits by_rule
    ends_fit place_fits record_fits records_fit broken_with ring_fits record_after begun stored acted_by turn_of_by ran run_by search_by schedule_by acts attained_beside
    seen_beside needed others_idle
attained_beside_lem = (refl, refl, refl, refl)

-- in hand
hand_most : (p : Place) (t : Stamp) → InHand p t → most_of p ≤ 3
hand_most p t hand_p4 = omega arith
hand_most p t hand_p5 = omega arith
hand_most p t hand_f7 = omega arith
hand_most p t hand_f8 = omega arith
hand_most p t hand_f9 = omega arith
hand_most p t hand_o4 = omega arith
hand_most p t hand_o5 = omega arith

all_most : (p : Place) → most_of p ≤ 7
all_most (Idle a) = omega arith
all_most (P1 Push x) = omega arith
all_most (P1 Force x) = omega arith
all_most (P2 Push t x) = omega arith
all_most (P2 Force t x) = omega arith
all_most (P3 Push t x) = omega arith
all_most (P3 Force t x) = omega arith
all_most (P4 t x) = omega arith
all_most (P5 t) = omega arith
all_most (P6 t x) = omega arith
all_most (F6 t x) = omega arith
all_most (F7 t x) = omega arith
all_most (F8 t x) = omega arith
all_most (F9 t old) = omega arith
all_most O1 = omega arith
all_most (O2 h) = omega arith
all_most (O3 h) = omega arith
all_most (O4 h) = omega arith
all_most (O5 h v) = omega arith
all_most (O6 h) = omega arith
all_most Len1 = omega arith
all_most (Len2 t) = omega arith
all_most (Len3 t h) = omega arith
all_most Empty1 = omega arith
all_most (Empty2 h) = omega arith
all_most Full1 = omega arith
all_most (Full2 t) = omega arith
all_most Close1 = omega arith
all_most IsClosed1 = omega arith

pub at_most : AtMost most_of
at_most p = (all_most p, hand_most p)
