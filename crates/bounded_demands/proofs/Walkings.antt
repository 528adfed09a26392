-- The numbers of sequences, computed from the definitions.
use mathlib.Core.Path.{refl}
use Rattle.queue_entries.specs.Limits.{all}
use Rattle.queue_entries.specs.Schedules.{run_by}
use Rattle.queue_entries.specs.Entries.{stray_of, order_of, entry_of}
use Rattle.queue_walks.specs.Walks.{after, in_turn, choice_by, walk_by}
use Rattle.bounded_words.specs.Words.{doubled, mark_of, marked_of, unmarked_of, plus, minus, with_mark, next_of, same, one_past, lap_behind, lap_behind_one_past}
use Rattle.bounded_acts.specs.Acts.{goes, losing, exchange_of, after_tail, tail_to, head_to, stamp_to, value_to, forced_tail}
use Rattle.bounded_machine.specs.Machine.{empty_slots, stamped, fresh_slots, idlers, fresh_with, refused, accepted}
use Rattle.bounded_machine.specs.Broken.{all_idle}
use Rattle.bounded_machine.specs.Turn.{record_after, begun, stored, acted_by, turn_of_by}
use Rattle.bounded_machine.specs.Run.{ran}
use Rattle.bounded_demands.specs.Notions.{acts}
use Rattle.bounded_demands.specs.Walkings.{walkings, walked}
use Rattle.bounded_demands.specs.Demands.{WalksCounted}

pub walks_counted : WalksCounted
unfolding doubled mark_of marked_of unmarked_of plus minus with_mark next_of same one_past lap_behind lap_behind_one_past stray_of order_of entry_of goes losing exchange_of
    after_tail tail_to head_to stamp_to value_to forced_tail empty_slots stamped fresh_slots idlers fresh_with refused accepted record_after begun stored acted_by turn_of_by
    ran run_by all all_idle acts after in_turn choice_by walk_by walkings walked
walks_counted = refl
