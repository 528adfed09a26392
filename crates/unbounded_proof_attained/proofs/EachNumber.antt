-- Each number that a function can refuse by is given, computed.
use Prim.Native.Nat.{ℕ, suc}
use mathlib.Core.Path.{◌≡◌, refl, ap, ◌∙◌}
use mathlib.Core.Bool.{true, false, cond}
use mathlib.Core.List.{List, [], ◌∷◌}
use lib.Dec.{ltb}
use Rattle.unbounded_words.specs.declared.Pointer.TheVariants.{None, To}
use Rattle.unbounded_words.specs.Words.{index}
use Rattle.unbounded_places.specs.declared.Block.{Block}
use Rattle.unbounded_machine.specs.Drop.{walk_from, walk_of}
use Rattle.unbounded_machine.specs.Contents.{count_in, contents_refusal}
use Rattle.unbounded.specs.Unbounded.{make_of, begin_step_of}
use Rattle.unbounded.specs.Unbounded as face
use Rattle.queue_entries.specs.Schedules.{run_by, search_by, schedule_by}
use Rattle.queue_entries.specs.Entries.{stray_of, order_of, entry_of, entry_but}
use Rattle.queue_entries.specs.Limits.{all, in_limits}
use Rattle.unbounded_words.specs.Words.{sizes, past_slots, last_slot, marked_of, unmarked_of, with_mark, later, same, same_position, same_block, minus, settled, behind, count_of}
use Rattle.unbounded_acts.specs.Acts.{leave, head_to, front_to, tail_to, back_to_words, next_to, freed, state_to, value_to, has, with, first_or, answered, lacks_next}
use Rattle.unbounded_acts.specs.Acts.{push_from, set_aside, claimed, take_or, pop_from, new_head, taken, next_index, destroy_from, read_out_of, destroy_if, act_of}
use Rattle.unbounded_machine.specs.declared.Machine.{Machine}
use Rattle.unbounded_machine.specs.declared.Ran.{Ran}
use Rattle.unbounded_machine.specs.Machine.{live, free_blocks, empty_slots, idlers, fresh_of, blank, refused, accepted}
use Rattle.unbounded_machine.specs.Broken.{record_fits, records_fit, all_idle, drop_fits, broken_in, broken_of}
use Rattle.unbounded_machine.specs.Turn.{lowest_from, lowest_free, cleared_from, cleared, begun, stored, acted_at, moved_by, turn_with}
use Rattle.unbounded_machine.specs.Run.{ran, run_with}
use Rattle.unbounded_demands.specs.Notions.{acts, fresh_one, fresh_two, stocked_one}
use Rattle.unbounded_demands.specs.Demands.{EachNumber, refusals}
use Rattle.unbounded_proof_demand2.proofs.Demand2.{demand2, unbroken, fresh_reached}
use Rattle.unbounded_proof_attained.proofs.First.{one, begins, run_push}

-- `Drop`'s walk of none and of one item, however many steps there might be
walk_none : (n : ℕ) (l : List Block) → (walk_from sizes (suc n) l None (index 0) (index 0) 0).count ≡ 0
unfolding walk_from same live
walk_none n l = refl

walk_one : (n : ℕ) (l : List Block) → live sizes l 0 ≡ true → (walk_from sizes (suc (suc n)) l (To 0) (index 0) (index 2) 0).count ≡ 1
unfolding walk_from same live past_slots later
walk_one n l h = rw h

-- all idle, and not broken: by what the walk counts
by_count : (m : Machine) (k : ℕ) → broken_of sizes m ≡ false → all_idle sizes m.workers ≡ true → count_in sizes m ≡ k → contents_refusal sizes m 0 ≡ cond (ltb 0 k) 10 0
unfolding contents_refusal
by_count m k u i c = rw (u, i, c)

abbrev pushed_one : Machine
pushed_one = (run_with (turn_with sizes act_of) begins 1 (acts 0 8)).machine

stocked_is : stocked_one ≡ pushed_one
stocked_is = ap (λ (r : Ran). r.machine) (run_push act_of (acts 0 8))

fresh_count : count_in sizes fresh_one ≡ 0
unfolding past_slots last_slot marked_of unmarked_of with_mark later same same_position same_block minus settled behind count_of stray_of order_of entry_of leave head_to
    front_to tail_to back_to_words next_to freed state_to value_to has with first_or answered lacks_next push_from set_aside claimed take_or pop_from new_head taken next_index
    destroy_from read_out_of destroy_if live free_blocks empty_slots idlers fresh_of blank refused accepted all in_limits record_fits records_fit all_idle drop_fits broken_in
    entry_but lowest_from lowest_free cleared_from cleared begun stored acted_at moved_by turn_with ran run_by search_by schedule_by acts count_in walk_of
fresh_count = walk_none 2079 fresh_one.blocks

stocked_count : count_in sizes pushed_one ≡ 1
unfolding past_slots last_slot marked_of unmarked_of with_mark later same same_position same_block minus settled behind count_of stray_of order_of entry_of leave head_to
    front_to tail_to back_to_words next_to freed state_to value_to has with first_or answered lacks_next push_from set_aside claimed take_or pop_from new_head taken next_index
    destroy_from read_out_of destroy_if live free_blocks empty_slots idlers fresh_of blank refused accepted all in_limits record_fits records_fit all_idle drop_fits broken_in
    entry_but lowest_from lowest_free cleared_from cleared begun stored acted_at moved_by turn_with ran run_by search_by schedule_by acts count_in walk_of
stocked_count = walk_one 2078 pushed_one.blocks refl

stocked_idle : all_idle sizes pushed_one.workers ≡ true
unfolding past_slots last_slot marked_of unmarked_of with_mark later same same_position same_block minus settled behind count_of stray_of order_of entry_of leave head_to
    front_to tail_to back_to_words next_to freed state_to value_to has with first_or answered lacks_next push_from set_aside claimed take_or pop_from new_head taken next_index
    destroy_from read_out_of destroy_if live free_blocks empty_slots idlers fresh_of blank refused accepted all in_limits record_fits records_fit all_idle drop_fits broken_in
    entry_but lowest_from lowest_free cleared_from cleared begun stored acted_at moved_by turn_with ran run_by search_by schedule_by acts
stocked_idle = refl

fresh_idle : all_idle sizes fresh_one.workers ≡ true
unfolding past_slots last_slot marked_of unmarked_of with_mark later same same_position same_block minus settled behind count_of stray_of order_of entry_of leave head_to
    front_to tail_to back_to_words next_to freed state_to value_to has with first_or answered lacks_next push_from set_aside claimed take_or pop_from new_head taken next_index
    destroy_from read_out_of destroy_if live free_blocks empty_slots idlers fresh_of blank refused accepted all in_limits record_fits records_fit all_idle drop_fits broken_in
    entry_but lowest_from lowest_free cleared_from cleared begun stored acted_at moved_by turn_with ran run_by search_by schedule_by acts
fresh_idle = refl

contents_fresh : contents_refusal sizes fresh_one 0 ≡ 0
contents_fresh = by_count fresh_one 0 (unbroken 1 one fresh_one [] (fresh_reached 1)) fresh_idle fresh_count

contents_stocked : contents_refusal sizes stocked_one 0 ≡ 10
contents_stocked =
    by_count stocked_one 1 (demand2 1 one (0 ∷ 5 ∷ acts 0 8)).unbroken (ap (λ (m : Machine). all_idle sizes m.workers) stocked_is ∙ stocked_idle)
    (ap (count_in sizes) stocked_is ∙ stocked_count)

contents_busy : contents_refusal sizes fresh_two 0 ≡ 4
unfolding past_slots last_slot marked_of unmarked_of with_mark later same same_position same_block minus settled behind count_of stray_of order_of entry_of leave head_to
    front_to tail_to back_to_words next_to freed state_to value_to has with first_or answered lacks_next push_from set_aside claimed take_or pop_from new_head taken next_index
    destroy_from read_out_of destroy_if live free_blocks empty_slots idlers fresh_of blank refused accepted all in_limits record_fits records_fit all_idle drop_fits broken_in
    entry_but lowest_from lowest_free cleared_from cleared begun stored acted_at moved_by turn_with ran run_by search_by schedule_by acts contents_refusal
contents_busy = refl

contents_broken : contents_refusal sizes (blank sizes) 0 ≡ 6
unfolding past_slots last_slot marked_of unmarked_of with_mark later same same_position same_block minus settled behind count_of stray_of order_of entry_of leave head_to
    front_to tail_to back_to_words next_to freed state_to value_to has with first_or answered lacks_next push_from set_aside claimed take_or pop_from new_head taken next_index
    destroy_from read_out_of destroy_if live free_blocks empty_slots idlers fresh_of blank refused accepted all in_limits record_fits records_fit all_idle drop_fits broken_in
    entry_but lowest_from lowest_free cleared_from cleared begun stored acted_at moved_by turn_with ran run_by search_by schedule_by acts contents_refusal
contents_broken = refl

four : (a b c d : ℕ) → a ≡ 0 → b ≡ 4 → c ≡ 6 → d ≡ 10 → a ∷ b ∷ c ∷ d ∷ [] ≡ 0 ∷ 4 ∷ 6 ∷ 10 ∷ []
four a b c d p q r s = rw (p, q, r, s)

pub each_number : EachNumber refusals
unfolding past_slots last_slot marked_of unmarked_of with_mark later same same_position same_block minus settled behind count_of stray_of order_of entry_of leave head_to
    front_to tail_to back_to_words next_to freed state_to value_to has with first_or answered lacks_next push_from set_aside claimed take_or pop_from new_head taken next_index
    destroy_from read_out_of destroy_if live free_blocks empty_slots idlers fresh_of blank refused accepted all in_limits record_fits records_fit all_idle drop_fits broken_in
    entry_but lowest_from lowest_free cleared_from cleared begun stored acted_at moved_by turn_with ran run_by search_by schedule_by acts make_of begin_step_of face.act_step_of
each_number =
    record {
      make = refl;
      step = refl;
      begin = refl;
      act = refl;
      run = refl;
      contents = four _ _ _ _ contents_fresh contents_busy contents_broken contents_stocked;
    }
