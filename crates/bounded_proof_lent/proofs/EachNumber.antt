-- Each number that a function of the lent face can refuse by is given, computed.
use mathlib.Core.Path.{refl}
use Rattle.queue_entries.specs.Limits.{in_limits, all}
use Rattle.queue_entries.specs.Entries.{stray_of, order_of, entry_of}
use Rattle.queue_entries.specs.Schedules.{run_by, search_by, schedule_by}
use Rattle.queue_entries.specs.Told.{told}
use Rattle.bounded_words.specs.Words.{doubled, mark_of, marked_of, unmarked_of, plus, minus, with_mark, next_of, same, one_past, lap_behind, lap_behind_one_past}
use Rattle.bounded_places.specs.Places.{inside}
use Rattle.bounded_acts.specs.Acts.{goes, losing, exchange_of, after_tail, tail_to, head_to, stamp_to, value_to, count_of}
use Rattle.bounded_machine.specs.Machine.{empty_slots, stamped, fresh_slots, idlers, fresh_with, blank, refused, accepted}
use Rattle.bounded_machine.specs.Broken.{by_rule, ends_fit, place_fits, record_fits, records_fit, ring_fits, broken_with, all_idle}
use Rattle.bounded_machine.specs.Contents.{count_on}
use Rattle.bounded_machine.specs.Turn.{record_after, begun, stored, acted_by, turn_of_by}
use Rattle.bounded_machine.specs.Run.{ran}
use Rattle.bounded_orders.specs.Orders.{make_refusal_with, capacity_told, contents_by}
use Rattle.bounded_lent.specs.Lent.{broken_lent, step_lent, run_lent, make_lent, contents_lent}
use Rattle.bounded_demands.specs.Notions.{acts}
use Rattle.bounded_demands.specs.Lending.{item11}
use Rattle.bounded_demands.specs.Demands.{LentEachNumber}

pub lent_each_number : LentEachNumber item11
unfolding inside doubled mark_of marked_of unmarked_of plus minus with_mark next_of same one_past lap_behind lap_behind_one_past stray_of order_of entry_of goes losing
    exchange_of after_tail tail_to head_to stamp_to value_to count_of empty_slots stamped fresh_slots idlers fresh_with blank refused accepted in_limits all by_rule ends_fit
    place_fits record_fits records_fit broken_with ring_fits all_idle count_on record_after begun stored acted_by turn_of_by ran run_by search_by schedule_by told
    make_refusal_with capacity_told broken_lent step_lent run_lent make_lent contents_by contents_lent acts
lent_each_number = record { make = refl; step = refl; run = refl; contents = refl; capacity = refl }
