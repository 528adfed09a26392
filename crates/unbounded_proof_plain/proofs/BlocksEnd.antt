-- is_empty's no at a block's end, computed: of blocks of two slots, since one of 31 takes more steps than a check may.
use mathlib.Core.Path.{refl}
use Rattle.queue_entries.specs.Schedules.{run_by, history_by}
use Rattle.queue_entries.specs.Entries.{stray_of, order_of, entry_of, entry_but}
use Rattle.queue_entries.specs.Limits.{all, in_limits}
use Rattle.queue_plain.specs.Story.{items_of, known_from}
use Rattle.unbounded_words.specs.Words.{past_slots, last_slot, marked_of, unmarked_of, with_mark, later, same, same_position, same_block, minus, settled, behind, count_of}
use Rattle.unbounded_acts.specs.Acts.{leave, head_to, front_to, tail_to, back_to_words, next_to, freed, state_to, value_to, has, with, first_or, answered, lacks_next}
use Rattle.unbounded_acts.specs.Acts.{push_from, set_aside, claimed, take_or, pop_from, new_head, taken, next_index, destroy_from, read_out_of, destroy_if, act_of}
use Rattle.unbounded_machine.specs.Machine.{live, free_blocks, empty_slots, idlers, fresh_of, refused, accepted}
use Rattle.unbounded_machine.specs.Drop.{last_fits, without, walk_from, items_from, walk_of}
use Rattle.unbounded_machine.specs.Drop as drop
use Rattle.unbounded_machine.specs.Broken.{record_fits, records_fit, all_idle, drop_fits, broken_in}
use Rattle.unbounded_machine.specs.Turn.{lowest_from, lowest_free, cleared_from, cleared, begun, stored, acted_at, moved_by, turn_with}
use Rattle.unbounded_machine.specs.Run.{ran}
use Rattle.unbounded_demands.specs.Notions.{definition, acts}
use Rattle.unbounded_demands.specs.Stories.{often}
use Rattle.unbounded_demands.specs.Demands.{SaidAtBlocksEnd}
use Rattle.unbounded_demands.specs.Runs.{short}

pub at_blocks_end : SaidAtBlocksEnd (definition short act_of) 0
unfolding past_slots last_slot marked_of unmarked_of with_mark later same same_position same_block minus settled behind count_of stray_of order_of entry_of leave head_to
    front_to tail_to back_to_words next_to freed state_to value_to has with first_or answered lacks_next push_from set_aside claimed take_or pop_from new_head taken next_index
    destroy_from read_out_of destroy_if live free_blocks empty_slots idlers fresh_of refused accepted last_fits without walk_from items_from walk_of drop.items_of all
    in_limits record_fits records_fit all_idle drop_fits broken_in entry_but lowest_from lowest_free cleared_from cleared begun stored acted_at moved_by turn_with history_by
    acts often items_of known_from ran run_by
at_blocks_end = record { len = refl; empty = refl; none_waits = refl }
