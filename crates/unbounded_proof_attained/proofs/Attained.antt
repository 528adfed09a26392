-- The most acts that a push and a pop need alone, computed for each row of the table.
use mathlib.Core.Path.{◌≡◌, refl, ap, ap₂, ◌∙◌}
use mathlib.Core.List.{List, [], ◌∷◌, map}
use Rattle.queue_entries.specs.Schedules.{run_by, search_by, schedule_by}
use Rattle.queue_entries.specs.Entries.{stray_of, order_of, entry_of, entry_but}
use Rattle.queue_entries.specs.Limits.{all, in_limits}
use Rattle.unbounded_words.specs.Words.{sizes, past_slots, last_slot, marked_of, unmarked_of, with_mark, later, same, same_position, same_block, minus, settled, behind, count_of}
use Rattle.unbounded_acts.specs.Acts.{leave, head_to, front_to, tail_to, back_to_words, next_to, freed, state_to, value_to, has, with, first_or, answered, lacks_next}
use Rattle.unbounded_acts.specs.Acts.{push_from, set_aside, claimed, take_or, pop_from, new_head, taken, next_index, destroy_from, read_out_of, destroy_if, act_of}
use Rattle.unbounded_machine.specs.declared.Ran.{Ran}
use Rattle.unbounded_machine.specs.Machine.{live, free_blocks, empty_slots, idlers, fresh_of, blank, refused, accepted}
use Rattle.unbounded_machine.specs.Broken.{record_fits, records_fit, all_idle, drop_fits, broken_in}
use Rattle.unbounded_machine.specs.Turn.{lowest_from, lowest_free, cleared_from, cleared, begun, stored, acted_at, moved_by, turn_with}
use Rattle.unbounded_machine.specs.Run.{ran, run_with}
use Rattle.unbounded_demands.specs.Notions.{acts}
use Rattle.unbounded_demands.specs.Attained.{Sight, Case, needed, sight_of, seen_by, exactly, pushes, pops, marked_pops, old_pops, crossing_pops, ending_pops, beginning_pushes, going_pushes, ending_pushes}
use Rattle.unbounded_demands.specs.Demands.{AttainedBy}
use Rattle.unbounded_proof_attained.proofs.First.{start, run_first}

-- what is seen once the third worker has begun
abbrev from : Case → Sight
from c = sight_of act_of (run_with (turn_with sizes act_of) start 1 c.schedule).machine

seen : (l : List Case) → map (seen_by act_of) l ≡ map from l
seen [] = refl
seen (c ∷ l) = ap₂ (λ (x : Sight) (xs : List Sight). x ∷ xs) (ap (λ (r : Ran). sight_of act_of r.machine) (run_first act_of c.schedule)) (seen l)

old_pops_seen : map from old_pops ≡ map (λ (c : Case). exactly c.place c.number) old_pops
unfolding past_slots last_slot marked_of unmarked_of with_mark later same same_position same_block minus settled behind count_of stray_of order_of entry_of leave head_to
    front_to tail_to back_to_words next_to freed state_to value_to has with first_or answered lacks_next push_from set_aside claimed take_or pop_from new_head taken next_index
    destroy_from read_out_of destroy_if live free_blocks empty_slots idlers fresh_of blank refused accepted all in_limits record_fits records_fit all_idle drop_fits broken_in
    entry_but lowest_from lowest_free cleared_from cleared begun stored acted_at moved_by turn_with ran run_by search_by schedule_by acts needed sight_of pushes pops marked_pops old_pops
old_pops_seen = refl

crossing_pops_seen : map from crossing_pops ≡ map (λ (c : Case). exactly c.place c.number) crossing_pops
unfolding past_slots last_slot marked_of unmarked_of with_mark later same same_position same_block minus settled behind count_of stray_of order_of entry_of leave head_to
    front_to tail_to back_to_words next_to freed state_to value_to has with first_or answered lacks_next push_from set_aside claimed take_or pop_from new_head taken next_index
    destroy_from read_out_of destroy_if live free_blocks empty_slots idlers fresh_of blank refused accepted all in_limits record_fits records_fit all_idle drop_fits broken_in
    entry_but lowest_from lowest_free cleared_from cleared begun stored acted_at moved_by turn_with ran run_by search_by schedule_by acts needed sight_of pushes pops marked_pops crossing_pops
crossing_pops_seen = refl

ending_pops_seen : map from ending_pops ≡ map (λ (c : Case). exactly c.place c.number) ending_pops
unfolding past_slots last_slot marked_of unmarked_of with_mark later same same_position same_block minus settled behind count_of stray_of order_of entry_of leave head_to
    front_to tail_to back_to_words next_to freed state_to value_to has with first_or answered lacks_next push_from set_aside claimed take_or pop_from new_head taken next_index
    destroy_from read_out_of destroy_if live free_blocks empty_slots idlers fresh_of blank refused accepted all in_limits record_fits records_fit all_idle drop_fits broken_in
    entry_but lowest_from lowest_free cleared_from cleared begun stored acted_at moved_by turn_with ran run_by search_by schedule_by acts needed sight_of pushes pops marked_pops ending_pops
ending_pops_seen = refl

beginning_pushes_seen : map from beginning_pushes ≡ map (λ (c : Case). exactly c.place c.number) beginning_pushes
unfolding past_slots last_slot marked_of unmarked_of with_mark later same same_position same_block minus settled behind count_of stray_of order_of entry_of leave head_to
    front_to tail_to back_to_words next_to freed state_to value_to has with first_or answered lacks_next push_from set_aside claimed take_or pop_from new_head taken next_index
    destroy_from read_out_of destroy_if live free_blocks empty_slots idlers fresh_of blank refused accepted all in_limits record_fits records_fit all_idle drop_fits broken_in
    entry_but lowest_from lowest_free cleared_from cleared begun stored acted_at moved_by turn_with ran run_by search_by schedule_by acts needed sight_of pushes pops marked_pops beginning_pushes
beginning_pushes_seen = refl

going_pushes_seen : map from going_pushes ≡ map (λ (c : Case). exactly c.place c.number) going_pushes
unfolding past_slots last_slot marked_of unmarked_of with_mark later same same_position same_block minus settled behind count_of stray_of order_of entry_of leave head_to
    front_to tail_to back_to_words next_to freed state_to value_to has with first_or answered lacks_next push_from set_aside claimed take_or pop_from new_head taken next_index
    destroy_from read_out_of destroy_if live free_blocks empty_slots idlers fresh_of blank refused accepted all in_limits record_fits records_fit all_idle drop_fits broken_in
    entry_but lowest_from lowest_free cleared_from cleared begun stored acted_at moved_by turn_with ran run_by search_by schedule_by acts needed sight_of pushes pops marked_pops going_pushes
going_pushes_seen = refl

ending_pushes_seen : map from ending_pushes ≡ map (λ (c : Case). exactly c.place c.number) ending_pushes
unfolding past_slots last_slot marked_of unmarked_of with_mark later same same_position same_block minus settled behind count_of stray_of order_of entry_of leave head_to
    front_to tail_to back_to_words next_to freed state_to value_to has with first_or answered lacks_next push_from set_aside claimed take_or pop_from new_head taken next_index
    destroy_from read_out_of destroy_if live free_blocks empty_slots idlers fresh_of blank refused accepted all in_limits record_fits records_fit all_idle drop_fits broken_in
    entry_but lowest_from lowest_free cleared_from cleared begun stored acted_at moved_by turn_with ran run_by search_by schedule_by acts needed sight_of pushes pops marked_pops ending_pushes
ending_pushes_seen = refl

pub attained_by : AttainedBy act_of
attained_by =
    record {
      old_pops_lem = seen old_pops ∙ old_pops_seen;
      crossing_pops_lem = seen crossing_pops ∙ crossing_pops_seen;
      ending_pops_lem = seen ending_pops ∙ ending_pops_seen;
      beginning_pushes_lem = seen beginning_pushes ∙ beginning_pushes_seen;
      going_pushes_lem = seen going_pushes ∙ going_pushes_seen;
      ending_pushes_lem = seen ending_pushes ∙ ending_pushes_seen;
    }
