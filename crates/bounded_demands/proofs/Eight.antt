-- The eight runs, computed from the definitions.
use mathlib.Core.Path.{refl}
use Rattle.queue_entries.specs.Schedules.{run_by, search_by, schedule_by, history_by}
use Rattle.queue_entries.specs.Entries.{stray_of, order_of, entry_of}
use Rattle.queue_entries.specs.Limits.{all, in_limits}
use Rattle.queue_entries.specs.Told.{told}
use Rattle.bounded_words.specs.Words.{doubled, mark_of, marked_of, unmarked_of, plus, minus, with_mark, next_of, same, one_past, lap_behind, lap_behind_one_past}
use Rattle.bounded_places.specs.Places.{inside}
use Rattle.bounded_acts.specs.Acts.{goes, losing, exchange_of, after_tail, tail_to, head_to, stamp_to, value_to, forced_tail, count_of}
use Rattle.bounded_machine.specs.Machine.{empty_slots, stamped, fresh_slots, idlers, fresh_with, blank, refused, accepted}
use Rattle.bounded_machine.specs.Broken.{by_rule, ends_fit, place_fits, record_fits, records_fit, ring_fits, broken_with, all_idle}
use Rattle.bounded_machine.specs.Contents.{count_on, wrapped, item_on, items_on, list_on}
use Rattle.bounded_machine.specs.Turn.{record_after, begun, stored, acted_by, turn_of_by}
use Rattle.bounded_machine.specs.Run.{ran}
use Rattle.bounded_machine.specs.History.{tally_of, stock_of}
use Rattle.bounded.specs.Bounded.{make_of}
use Rattle.bounded_demands.specs.Notions.{acts}
use Rattle.bounded_demands.specs.Eight.{EightRuns, found, found_in, table}

pub eight_runs : EightRuns
unfolding doubled mark_of marked_of unmarked_of plus minus with_mark next_of same one_past lap_behind lap_behind_one_past inside stray_of order_of entry_of goes losing
    exchange_of after_tail tail_to head_to stamp_to value_to forced_tail count_of empty_slots stamped fresh_slots idlers fresh_with blank refused accepted all in_limits
    by_rule ends_fit place_fits record_fits records_fit broken_with ring_fits all_idle told count_on wrapped item_on items_on list_on record_after begun stored acted_by
    turn_of_by ran run_by search_by schedule_by history_by tally_of stock_of make_of found found_in acts table
eight_runs = refl
