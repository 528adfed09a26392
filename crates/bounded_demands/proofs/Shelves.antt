-- The most stock, computed from the definitions.
use mathlib.Core.Path.{refl}
use Rattle.queue_entries.specs.Schedules.{history_by}
use Rattle.queue_entries.specs.Entries.{stray_of, order_of, entry_of}
use Rattle.bounded_words.specs.Words.{doubled, mark_of, marked_of, unmarked_of, plus, minus, with_mark, next_of, same, one_past, lap_behind, lap_behind_one_past}
use Rattle.bounded_acts.specs.Acts.{goes, losing, exchange_of, after_tail, tail_to, head_to, stamp_to, value_to, forced_tail}
use Rattle.bounded_machine.specs.Machine.{empty_slots, stamped, fresh_slots, idlers, fresh_with, refused, accepted}
use Rattle.bounded_machine.specs.Turn.{record_after, begun, stored, acted_by, turn_of_by}
use Rattle.bounded_machine.specs.History.{tally_of, stock_of}
use Rattle.bounded_demands.specs.Notions.{acts}
use Rattle.bounded_demands.specs.Shelves.{pushes, forces, stock_at_most, fullest}
use Rattle.bounded_demands.specs.Demands.{MostStock}

pub most_stock : MostStock
unfolding doubled mark_of marked_of unmarked_of plus minus with_mark next_of same one_past lap_behind lap_behind_one_past stray_of order_of entry_of goes losing exchange_of
    after_tail tail_to head_to stamp_to value_to forced_tail empty_slots stamped fresh_slots idlers fresh_with refused accepted record_after begun stored acted_by turn_of_by
    history_by tally_of stock_of acts pushes forces stock_at_most fullest
most_stock = refl
