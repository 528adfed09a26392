-- Each number that a function or a walk can refuse by is given, computed; and `OnlyOneMeets`.
use mathlib.Core.Path.{refl}
use Rattle.queue_entries.specs.Limits.{in_limits, all}
use Rattle.queue_entries.specs.Entries.{stray_of, order_of, entry_of}
use Rattle.queue_entries.specs.Schedules.{run_by, search_by, schedule_by}
use Rattle.bounded_words.specs.Words.{doubled, mark_of, marked_of, unmarked_of, plus, minus, with_mark, next_of, same, one_past, lap_behind, lap_behind_one_past}
use Rattle.bounded_places.specs.Places.{inside}
use Rattle.bounded_acts.specs.Acts.{goes, losing, exchange_of, after_tail, tail_to, head_to, stamp_to, value_to, count_of}
use Rattle.bounded_machine.specs.Machine.{empty_slots, stamped, fresh_slots, idlers, fresh_with, blank, refused, accepted}
use Rattle.bounded_machine.specs.Broken.{by_rule, ends_fit, place_fits, record_fits, records_fit, ring_fits, broken_with, all_idle}
use Rattle.bounded_machine.specs.Contents.{count_on, contents_refusal, capacity_refusal}
use Rattle.bounded_machine.specs.Turn.{record_after, begun, stored, acted_by, turn_of_by}
use Rattle.bounded_machine.specs.Run.{ran}
use Rattle.bounded_step_machine.specs.Steps.{step_of_by, begin_step_of_by, act_step_of_by}
use Rattle.bounded.specs.Bounded.{make_of}
use Rattle.queue_walks.specs.Walks.{walk_by}
use Rattle.queue_walks.specs.Listed.{bytes_of}
use Rattle.bounded_walks.specs.Walks.{all_busy, size_refusal, walk_refusal}
use Rattle.bounded_sixteen_bits.specs.SixteenBits.{widened, narrowed}
use Rattle.bounded_demands.specs.Notions.{Face, sixty_four, sixteen, promises_of, acts, pushing_in, at_the_end}
use Rattle.bounded_demands.specs.Demands.{OnlyOneMeets, EachNumber, WalkEachNumber}
use Rattle.bounded_demands.specs.Walkings.{item10}
use Rattle.bounded_demands.proofs.Refusals.{only_one}

pub only_one_meets : {M D R : Type 0} (f : Face M D R) → OnlyOneMeets (promises_of f)
only_one_meets f =
    let o = only_one f in
    record { make = o.make; step = o.step; begin = o.begin; act = o.act; run = o.run; contents = o.contents; capacity = o.capacity; broken = o.broken }

pub each_number : EachNumber sixty_four (at_the_end (pushing_in sixty_four))
unfolding inside doubled mark_of marked_of unmarked_of plus minus with_mark next_of same one_past lap_behind lap_behind_one_past stray_of order_of entry_of goes losing
    exchange_of after_tail tail_to head_to stamp_to value_to count_of empty_slots stamped fresh_slots idlers fresh_with blank refused accepted in_limits all by_rule ends_fit
    place_fits record_fits records_fit broken_with ring_fits all_idle count_on contents_refusal capacity_refusal record_after begun stored acted_by turn_of_by ran run_by
    search_by schedule_by step_of_by begin_step_of_by act_step_of_by make_of acts
each_number = record { make = refl; step = refl; begin = refl; act = refl; run = refl; contents = refl; capacity = refl }

pub each_number_narrow : EachNumber sixteen (narrowed (at_the_end (pushing_in sixty_four)))
unfolding inside doubled mark_of marked_of unmarked_of plus minus with_mark next_of same one_past lap_behind lap_behind_one_past stray_of order_of entry_of goes losing
    exchange_of after_tail tail_to head_to stamp_to value_to count_of empty_slots stamped fresh_slots idlers fresh_with blank refused accepted in_limits all by_rule ends_fit
    place_fits record_fits records_fit broken_with ring_fits all_idle count_on contents_refusal capacity_refusal record_after begun stored acted_by turn_of_by ran run_by
    search_by schedule_by step_of_by begin_step_of_by act_step_of_by make_of acts widened narrowed
each_number_narrow = record { make = refl; step = refl; begin = refl; act = refl; run = refl; contents = refl; capacity = refl }

pub walk_each_number : WalkEachNumber item10
unfolding inside doubled mark_of marked_of stray_of order_of entry_of goes empty_slots stamped fresh_slots idlers fresh_with blank refused accepted in_limits all by_rule
    ends_fit place_fits record_fits records_fit broken_with ring_fits record_after begun stored acted_by turn_of_by step_of_by make_of all_busy size_refusal walk_refusal
    bytes_of walk_by
walk_each_number = refl
