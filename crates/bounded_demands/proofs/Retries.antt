-- Each cause by itself, computed from the definitions.
use mathlib.Core.Path.{refl}
use Rattle.queue_entries.specs.Limits.{all}
use Rattle.queue_entries.specs.Schedules.{history_by}
use Rattle.queue_entries.specs.Entries.{stray_of, order_of, entry_of}
use Rattle.bounded_words.specs.Words.{doubled, mark_of, marked_of, unmarked_of, plus, minus, with_mark, next_of, same, one_past, lap_behind, lap_behind_one_past}
use Rattle.bounded_acts.specs.Acts.{goes, losing, exchange_of, after_tail, tail_to, head_to, stamp_to, value_to, forced_tail, count_of}
use Rattle.bounded_machine.specs.Machine.{empty_slots, stamped, fresh_slots, idlers, fresh_with, refused, accepted}
use Rattle.bounded_machine.specs.Turn.{record_after, begun, stored, acted_by, turn_of_by}
use Rattle.bounded_causes.specs.Causes.{goes_back_of, deed_of, since_with, own_act, other_act, others_hold, watched_to, watched_of, causes_of, named_of}
use Rattle.bounded_demands.specs.Notions.{acts, causes_in, watches_from}
use Rattle.bounded_demands.specs.Retries.{last_of, last_in, retries}
use Rattle.bounded_demands.specs.Demands.{EachNeeded}

pub each_needed : EachNeeded causes_in 1 × EachNeeded causes_in 2
unfolding doubled mark_of marked_of unmarked_of plus minus with_mark next_of same one_past lap_behind lap_behind_one_past stray_of order_of entry_of goes losing exchange_of
    after_tail tail_to head_to stamp_to value_to forced_tail count_of empty_slots stamped fresh_slots idlers fresh_with refused accepted record_after begun stored acted_by
    turn_of_by history_by all goes_back_of deed_of since_with own_act other_act others_hold watched_to watched_of causes_of named_of acts watches_from last_of last_in retries
each_needed = (refl, refl)
