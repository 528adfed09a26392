-- The runs, computed from the definitions.
use mathlib.Core.Path.{refl}
use Rattle.queue_entries.specs.Schedules.{run_by, search_by, schedule_by}
use Rattle.queue_entries.specs.Entries.{stray_of, order_of, entry_of, entry_but}
use Rattle.queue_entries.specs.Limits.{all, in_limits}
use Rattle.unbounded_words.specs.Words.{past_slots, last_slot, marked_of, unmarked_of, with_mark, later, same, same_position, same_block, minus, settled, behind, count_of}
use Rattle.unbounded_acts.specs.Acts.{leave, head_to, front_to, tail_to, back_to_words, next_to, freed, state_to, value_to, has, with, first_or, answered, lacks_next}
use Rattle.unbounded_acts.specs.Acts.{push_from, set_aside, claimed, take_or, pop_from, new_head, taken, next_index, destroy_from, read_out_of, destroy_if}
use Rattle.unbounded_machine.specs.Machine.{live, free_blocks, empty_slots, idlers, fresh_of, blank, refused, accepted}
use Rattle.unbounded_machine.specs.Drop.{last_fits, without, walk_from, items_from, walk_of, items_of}
use Rattle.unbounded_machine.specs.Broken.{record_fits, records_fit, all_idle, drop_fits, broken_in}
use Rattle.unbounded_machine.specs.Turn.{lowest_from, lowest_free, cleared_from, cleared, begun, stored, acted_at, moved_by, turn_with}
use Rattle.unbounded_machine.specs.Contents.{contents_of}
use Rattle.unbounded_machine.specs.Run.{ran}
use Rattle.unbounded_demands.specs.Notions.{acts}
use Rattle.unbounded_demands.specs.Runs.{Runs, found, found_in}

pub runs : Runs
unfolding past_slots last_slot marked_of unmarked_of with_mark later same same_position same_block minus settled behind count_of stray_of order_of entry_of leave head_to
    front_to tail_to back_to_words next_to freed state_to value_to has with first_or answered lacks_next push_from set_aside claimed take_or pop_from new_head taken next_index
    destroy_from read_out_of destroy_if live free_blocks empty_slots idlers fresh_of blank refused accepted last_fits without walk_from items_from walk_of items_of all
    in_limits record_fits records_fit all_idle drop_fits broken_in entry_but lowest_from lowest_free cleared_from cleared begun stored acted_at moved_by turn_with contents_of
    ran run_by search_by schedule_by found found_in acts
runs = refl
