-- Each slip at full size, refuted by computing its schedule, with `Drop`'s walk left shut.
use Prim.Native.Nat.{ℕ, suc}
use mathlib.Core.Path.{◌≡◌, refl, sym, ap, ◌∙◌, subst}
use mathlib.Core.Bool.{Bool, true, false, not, true≢false}
use mathlib.Core.List.{List, [], ◌∷◌, ◌++◌}
use native.Mathlib.Omega.{arith}
use lib.ListN.{get_or, replicate}
use Rattle.queue_entries.specs.Schedules.{run_by, search_by, schedule_by, history_by}
use Rattle.queue_entries.specs.Entries.{stray_of, order_of, entry_of, entry_but}
use Rattle.queue_entries.specs.Limits.{all, in_limits}
use Rattle.unbounded_words.specs.declared.Pointer.TheVariants.{None, To}
use Rattle.unbounded_words.specs.Words.{index, past_slots, last_slot, marked_of, unmarked_of, with_mark, later, same, same_position, same_block, minus, settled, behind, count_of}
use Rattle.unbounded_places.specs.declared.Place.TheVariants.{Idle}
use Rattle.unbounded_places.specs.Places.{view_of}
use Rattle.unbounded_acts.specs.Acts.{leave, head_to, front_to, tail_to, back_to_words, next_to, freed, state_to, value_to, has, with, first_or, answered, lacks_next}
use Rattle.unbounded_acts.specs.Acts.{push_from, set_aside, claimed, take_or, pop_from, new_head, taken, next_index, destroy_from, read_out_of, destroy_if, act_of}
use Rattle.unbounded_machine.specs.declared.Machine.{Machine}
use Rattle.unbounded_machine.specs.Machine.{live, free_blocks, empty_slots, idlers, fresh_of, blank, refused, accepted, place_of, free_block, idler}
use Rattle.unbounded_machine.specs.Drop.{walk_from, items_from, walk_of}
use Rattle.unbounded_machine.specs.Drop as drop
use Rattle.unbounded_machine.specs.Broken.{record_fits, records_fit, all_idle, drop_fits, broken_in}
use Rattle.unbounded_machine.specs.Turn.{entry_here, lowest_from, lowest_free, cleared_from, cleared, begun, stored, acted_at, moved_by, turn_with}
use Rattle.unbounded_machine.specs.Contents.{contents_of}
use Rattle.unbounded_machine.specs.Run.{ran}
use Rattle.unbounded_demands.specs.Notions.{Allowed, acts, items_of, takers_of, takings_of, freeings_of, waiting, Fifo, push12, read11}
use Rattle.unbounded_demands.specs.Notions as notions
use Rattle.unbounded_demands.specs.Demands.{ClaimRule, OnceOut, OneHand, ReadsWritten, NoneFree, AnswersTrue, FreedOnce, TakenChained, ContentsWait}
use Rattle.queue_entries.specs.declared.Entry.TheVariants.{Unreadable}
use Rattle.unbounded_machine.specs.declared.Ran.{Ran}
use Rattle.unbounded_machine.specs.declared.Event.{Event}
use Rattle.unbounded_machine.specs.Broken.{broken_of}
use Rattle.unbounded_machine.specs.Machine.{slot_at}
use Rattle.unbounded_machine.specs.Run.{run_with}
use Rattle.unbounded_machine.specs.History.{event, history_with}
use Rattle.unbounded_words.specs.Words.{sizes}
use Rattle.unbounded_acts.specs.Acts.{new_block}
use Rattle.unbounded_places.specs.declared.Slot.{Slot}
use Rattle.unbounded_places.specs.declared.Block.{Block}
use Rattle.unbounded_places.specs.declared.Answer.TheVariants.{Closed, Popped, Empty}
use Rattle.unbounded_places.specs.declared.Place.TheVariants.{U4, V1, V2, V3, V12}
use Rattle.unbounded_proof_demand2.proofs.Demand2.{whole_schedules}
use Rattle.unbounded_proof_attained.proofs.First.{start, three, run_first, past_first}
use Rattle.unbounded_slips.specs.Slips.{reads_early, skips_reader, empty_unseen, closed_unseen, keeps_block, aside_kept, untied, unwritten, act_with}
use Rattle.unbounded_slips.specs.Refuted.{Trial, does, two_pushes, push_loses, pop_looks, two_pops, pop_of_nothing, pop_waits, pop_reads}
use Rattle.unbounded_slips.specs.Whole.{whole, whole_machine, whole_past, pushes, pops, first_push, block_full, one_push, closed_aside, reader_waits, block_done, RefutedWhole}
use Rattle.unbounded_slips.proofs.Refuted.{sole, other_item, said, balanced}

abbrev busy_at : Machine → ℕ → Bool
busy_at m w = (view_of sizes (place_of m.workers w)).busy

abbrev pub ends : Trial → Machine
ends t = (run_with (turn_with sizes (act_with t.slip)) start 1 t.schedule).machine

abbrev past : Trial → List Event
past t = history_with (turn_with sizes (act_with t.slip)) start t.schedule

pub machine_is : (t : Trial) → whole_machine t ≡ ends t
machine_is t = ap (λ (r : Ran). r.machine) (run_first (act_with t.slip) t.schedule)

pub past_is : (t : Trial) → whole_past t ≡ past t
past_is t = past_first (act_with t.slip) t.schedule

pub both_are : (P : Machine → List Event → Type 0) (t : Trial) → P (whole_machine t) (whole_past t) → P (ends t) (past t)
both_are P t h = subst (P (ends t)) (past_is t) (subst (λ (m : Machine). P m (whole_past t)) (machine_is t) h)

-- ---- a walk of one or two steps, and however many more there might be
walk_none : (n : ℕ) (l : List Block) → (walk_from sizes (suc n) l None (index 0) (index 2) 0).sound ≡ false
unfolding walk_from same live
walk_none n l = refl

pub items_one : (n : ℕ) (s : List Slot) (l : List Block) → items_from sizes s (suc (suc n)) l (To 0) (index 0) (index 2) ≡ (slot_at sizes s 0 0).value ∷ []
unfolding items_from same past_slots later
items_one n s l = refl

-- ---- the statements of what each trial reaches
broken_then : broken_of sizes (ends first_push) ≡ true
unfolding past_slots last_slot marked_of unmarked_of with_mark later same same_position same_block minus settled behind count_of stray_of order_of entry_of leave head_to
    front_to tail_to back_to_words next_to freed state_to value_to has with first_or answered lacks_next push_from set_aside claimed take_or pop_from new_head taken next_index
    destroy_from read_out_of destroy_if live free_blocks empty_slots idlers fresh_of blank refused accepted all in_limits record_fits records_fit all_idle drop_fits broken_in
    entry_but lowest_from lowest_free cleared_from cleared begun stored acted_at moved_by turn_with ran run_by search_by schedule_by history_by acts items_of takers_of
    takings_of freeings_of notions.chained pushes pops walk_of
broken_then = ap not (walk_none 2079 (ends first_push).blocks)

one_hand : OneHand (ends two_pushes) → ⊥
unfolding past_slots last_slot marked_of unmarked_of with_mark later same same_position same_block minus settled behind count_of stray_of order_of entry_of leave head_to
    front_to tail_to back_to_words next_to freed state_to value_to has with first_or answered lacks_next push_from set_aside claimed take_or pop_from new_head taken next_index
    destroy_from read_out_of destroy_if live free_blocks empty_slots idlers fresh_of blank refused accepted all in_limits record_fits records_fit all_idle drop_fits broken_in
    entry_but lowest_from lowest_free cleared_from cleared begun stored acted_at moved_by turn_with ran run_by search_by schedule_by history_by acts items_of takers_of
    takings_of freeings_of notions.chained pushes pops
one_hand h = let q : ◌≡◌ {A = ℕ} 0 1 = h.0 0 1 (index 0) (index 0) push12 push12 refl in omega arith

claim_rule : ClaimRule (past pop_reads) → ⊥
unfolding past_slots last_slot marked_of unmarked_of with_mark later same same_position same_block minus settled behind count_of stray_of order_of entry_of leave head_to
    front_to tail_to back_to_words next_to freed state_to value_to has with first_or answered lacks_next push_from set_aside claimed take_or pop_from new_head taken next_index
    destroy_from read_out_of destroy_if live free_blocks empty_slots idlers fresh_of blank refused accepted all in_limits record_fits records_fit all_idle drop_fits broken_in
    entry_but lowest_from lowest_free cleared_from cleared begun stored acted_at moved_by turn_with ran run_by search_by schedule_by history_by acts items_of takers_of
    takings_of freeings_of notions.chained pushes pops
claim_rule r =
    other_item _ 1 5 0 refl (λ z. omega arith)
    (r (history_with (turn_with sizes (act_with reads_early)) start (does 0 0 5 6 ++ does 1 2 0 6)) [] (event 1 (V12 (index 0) (To 0) 0) (Idle (Popped 0))) 0 refl refl)

once_out : OnceOut (past two_pops) → ⊥
unfolding past_slots last_slot marked_of unmarked_of with_mark later same same_position same_block minus settled behind count_of stray_of order_of entry_of leave head_to
    front_to tail_to back_to_words next_to freed state_to value_to has with first_or answered lacks_next push_from set_aside claimed take_or pop_from new_head taken next_index
    destroy_from read_out_of destroy_if live free_blocks empty_slots idlers fresh_of blank refused accepted all in_limits record_fits records_fit all_idle drop_fits broken_in
    entry_but lowest_from lowest_free cleared_from cleared begun stored acted_at moved_by turn_with ran run_by search_by schedule_by history_by acts items_of takers_of
    takings_of freeings_of notions.chained pushes pops
once_out o =
    o (history_with (turn_with sizes (act_with two_pops.slip)) start (does 0 0 5 8 ++ does 0 2 0 6)) (event 0 V1 (V2 (index 2)) ∷ event 0 (V2 (index 2)) (V3 (index 2) (To 0)) ∷ []) []
    (event 0 (V12 (index 0) (To 0) 5) (Idle (Popped 5))) (event 0 (V3 (index 2) (To 0)) (Idle (Popped 0))) 5 0 0 refl refl refl (sole 0) (sole 0)

reads : ReadsWritten (whole reads_early) (ends pop_waits) (past pop_waits) → ⊥
unfolding past_slots last_slot marked_of unmarked_of with_mark later same same_position same_block minus settled behind count_of stray_of order_of entry_of leave head_to
    front_to tail_to back_to_words next_to freed state_to value_to has with first_or answered lacks_next push_from set_aside claimed take_or pop_from new_head taken next_index
    destroy_from read_out_of destroy_if live free_blocks empty_slots idlers fresh_of blank refused accepted all in_limits record_fits records_fit all_idle drop_fits broken_in
    entry_but lowest_from lowest_free cleared_from cleared begun stored acted_at moved_by turn_with ran run_by search_by schedule_by history_by acts items_of takers_of
    takings_of freeings_of notions.chained pushes pops
reads r = true≢false (sym (r 1 (To 0) (index 0) read11).3)

answers_empty : AnswersTrue (whole empty_unseen) (ends pop_looks) → ⊥
unfolding past_slots last_slot marked_of unmarked_of with_mark later same same_position same_block minus settled behind count_of stray_of order_of entry_of leave head_to
    front_to tail_to back_to_words next_to freed state_to value_to has with first_or answered lacks_next push_from set_aside claimed take_or pop_from new_head taken next_index
    destroy_from read_out_of destroy_if live free_blocks empty_slots idlers fresh_of blank refused accepted all in_limits record_fits records_fit all_idle drop_fits broken_in
    entry_but lowest_from lowest_free cleared_from cleared begun stored acted_at moved_by turn_with ran run_by search_by schedule_by history_by acts items_of takers_of
    takings_of freeings_of notions.chained pushes pops
answers_empty a = let q = (said (whole empty_unseen) (ends pop_looks) 1 Empty a refl refl refl).1 in omega arith

answers_closed : AnswersTrue (whole closed_unseen) (ends push_loses) → ⊥
unfolding past_slots last_slot marked_of unmarked_of with_mark later same same_position same_block minus settled behind count_of stray_of order_of entry_of leave head_to
    front_to tail_to back_to_words next_to freed state_to value_to has with first_or answered lacks_next push_from set_aside claimed take_or pop_from new_head taken next_index
    destroy_from read_out_of destroy_if live free_blocks empty_slots idlers fresh_of blank refused accepted all in_limits record_fits records_fit all_idle drop_fits broken_in
    entry_but lowest_from lowest_free cleared_from cleared begun stored acted_at moved_by turn_with ran run_by search_by schedule_by history_by acts items_of takers_of
    takings_of freeings_of notions.chained pushes pops
answers_closed a = true≢false (sym (said (whole closed_unseen) (ends push_loses) 0 (Closed 5) a refl refl refl))

contents : ContentsWait (whole unwritten) (ends one_push) (past one_push) → ⊥
unfolding past_slots last_slot marked_of unmarked_of with_mark later same same_position same_block minus settled behind count_of stray_of order_of entry_of leave head_to
    front_to tail_to back_to_words next_to freed state_to value_to has with first_or answered lacks_next push_from set_aside claimed take_or pop_from new_head taken next_index
    destroy_from read_out_of destroy_if live free_blocks empty_slots idlers fresh_of blank refused accepted all in_limits record_fits records_fit all_idle drop_fits broken_in
    entry_but lowest_from lowest_free cleared_from cleared begun stored acted_at moved_by turn_with ran run_by search_by schedule_by history_by acts items_of takers_of
    takings_of freeings_of notions.chained pushes pops contents_of drop.items_of
contents c =
    let q : ◌≡◌ {A = ℕ} 0 5 = ap (λ (l : List ℕ). get_or l 0 0) (sym (items_one 2078 (ends one_push).slots (ends one_push).blocks) ∙ c refl) in omega arith

fifo : Fifo (past pop_of_nothing) (waiting (past pop_of_nothing)) → ⊥
unfolding past_slots last_slot marked_of unmarked_of with_mark later same same_position same_block minus settled behind count_of stray_of order_of entry_of leave head_to
    front_to tail_to back_to_words next_to freed state_to value_to has with first_or answered lacks_next push_from set_aside claimed take_or pop_from new_head taken next_index
    destroy_from read_out_of destroy_if live free_blocks empty_slots idlers fresh_of blank refused accepted all in_limits record_fits records_fit all_idle drop_fits broken_in
    entry_but lowest_from lowest_free cleared_from cleared begun stored acted_at moved_by turn_with ran run_by search_by schedule_by history_by acts items_of takers_of
    takings_of freeings_of notions.chained pushes pops
fifo f = let q : ◌≡◌ {A = ℕ} 1 2 = balanced (past pop_of_nothing) [] f in omega arith

chained : TakenChained (whole untied) (ends block_full) → ⊥
unfolding past_slots last_slot marked_of unmarked_of with_mark later same same_position same_block minus settled behind count_of stray_of order_of entry_of leave head_to
    front_to tail_to back_to_words next_to freed state_to value_to has with first_or answered lacks_next push_from set_aside claimed take_or pop_from new_head taken next_index
    destroy_from read_out_of destroy_if live free_blocks empty_slots idlers fresh_of blank refused accepted all in_limits record_fits records_fit all_idle drop_fits broken_in
    entry_but lowest_from lowest_free cleared_from cleared begun stored acted_at moved_by turn_with ran run_by search_by schedule_by history_by acts items_of takers_of
    takings_of freeings_of notions.chained pushes pops
chained c = true≢false ((c refl).0 1 (omega arith))

freed_once_aside : FreedOnce (whole aside_kept) (ends closed_aside) (past closed_aside) → ⊥
unfolding past_slots last_slot marked_of unmarked_of with_mark later same same_position same_block minus settled behind count_of stray_of order_of entry_of leave head_to
    front_to tail_to back_to_words next_to freed state_to value_to has with first_or answered lacks_next push_from set_aside claimed take_or pop_from new_head taken next_index
    destroy_from read_out_of destroy_if live free_blocks empty_slots idlers fresh_of blank refused accepted all in_limits record_fits records_fit all_idle drop_fits broken_in
    entry_but lowest_from lowest_free cleared_from cleared begun stored acted_at moved_by turn_with ran run_by search_by schedule_by history_by acts items_of takers_of
    takings_of freeings_of notions.chained pushes pops
freed_once_aside f = let q : ◌≡◌ {A = ℕ} 1 2 = f 1 (omega arith) in omega arith

none_free : NoneFree (whole skips_reader) (ends reader_waits) → ⊥
unfolding past_slots last_slot marked_of unmarked_of with_mark later same same_position same_block minus settled behind count_of stray_of order_of entry_of leave head_to
    front_to tail_to back_to_words next_to freed state_to value_to has with first_or answered lacks_next push_from set_aside claimed take_or pop_from new_head taken next_index
    destroy_from read_out_of destroy_if live free_blocks empty_slots idlers fresh_of blank refused accepted all in_limits record_fits records_fit all_idle drop_fits broken_in
    entry_but lowest_from lowest_free cleared_from cleared begun stored acted_at moved_by turn_with ran run_by search_by schedule_by history_by acts items_of takers_of
    takings_of freeings_of notions.chained pushes pops
none_free f = true≢false (sym (f 0))

freed_once : FreedOnce (whole keeps_block) (ends block_done) (past block_done) → ⊥
unfolding past_slots last_slot marked_of unmarked_of with_mark later same same_position same_block minus settled behind count_of stray_of order_of entry_of leave head_to
    front_to tail_to back_to_words next_to freed state_to value_to has with first_or answered lacks_next push_from set_aside claimed take_or pop_from new_head taken next_index
    destroy_from read_out_of destroy_if live free_blocks empty_slots idlers fresh_of blank refused accepted all in_limits record_fits records_fit all_idle drop_fits broken_in
    entry_but lowest_from lowest_free cleared_from cleared begun stored acted_at moved_by turn_with ran run_by search_by schedule_by history_by acts items_of takers_of
    takings_of freeings_of notions.chained pushes pops
freed_once f = let q : ◌≡◌ {A = ℕ} 1 2 = f 0 (omega arith) in omega arith

-- ---- beside the table
-- every block but the last is taken, and worker 0 wants one
abbrev pub last_free : Machine
last_free =
    record {
      ends = start.ends;
      blocks = replicate 63 new_block ++ free_block ∷ [];
      slots = start.slots;
      workers = record { place = U4 None (index 0) 5 } ∷ replicate 15 idler;
      count = 3;
      meter = 0;
    }

readable : entry_here 37 0 ≡ Unreadable → ⊥
unfolding stray_of order_of entry_of entry_but
readable e = let q : ◌≡◌ {A = ℕ} 0 1 = cc in omega arith

pub refuted_whole : RefutedWhole
unfolding past_slots last_slot marked_of unmarked_of with_mark later same same_position same_block minus settled behind count_of stray_of order_of entry_of leave head_to
    front_to tail_to back_to_words next_to freed state_to value_to has with first_or answered lacks_next push_from set_aside claimed take_or pop_from new_head taken next_index
    destroy_from read_out_of destroy_if live free_blocks empty_slots idlers fresh_of blank refused accepted all in_limits record_fits records_fit all_idle drop_fits broken_in
    entry_but lowest_from lowest_free cleared_from cleared begun stored acted_at moved_by turn_with ran run_by search_by schedule_by history_by acts items_of takers_of
    takings_of freeings_of notions.chained pushes pops
refuted_whole =
    record {
      act_by_act = λ a. true≢false (sym (ap (λ (m : Machine). busy_at m 0) (a start [] 0 5 refl refl refl).0));
      whole_schedules =
          λ w.
          let q : ◌≡◌ {A = ℕ} 0 1 = ap (λ (r : Ran). r.place) (sym ((w 3 three (37 ∷ 0 ∷ [])).0 refl (readable, tt))
          ∙ (whole_schedules 3 three (37 ∷ 0 ∷ [])).0 refl (readable, tt) ∙ run_first act_of []) in
          omega arith;
      no_block =
          λ n.
          let q : ◌≡◌ {A = ℕ} 23 0 = (n last_free 0 8 0 refl (record { asks = refl; known = omega arith; busy = refl; in_time = omega arith })).2 refl (omega arith) in
          omega arith;
      unbroken = λ z. true≢false (sym broken_then ∙ sym (ap (broken_of sizes) (machine_is first_push)) ∙ z);
      claim_rule = λ r. claim_rule (subst ClaimRule (past_is pop_reads) r);
      once_out = λ o. once_out (subst OnceOut (past_is two_pops) o);
      one_hand = λ h. one_hand (subst OneHand (machine_is two_pushes) h);
      reads = λ r. reads (both_are (ReadsWritten (whole reads_early)) pop_waits r);
      none_free = λ f. none_free (subst (NoneFree (whole skips_reader)) (machine_is reader_waits) f);
      answers_empty = λ a. answers_empty (subst (AnswersTrue (whole empty_unseen)) (machine_is pop_looks) a);
      answers_closed = λ a. answers_closed (subst (AnswersTrue (whole closed_unseen)) (machine_is push_loses) a);
      freed_once = λ f. freed_once (both_are (FreedOnce (whole keeps_block)) block_done f);
      freed_once_aside = λ f. freed_once_aside (both_are (FreedOnce (whole aside_kept)) closed_aside f);
      chained = λ c. chained (subst (TakenChained (whole untied)) (machine_is block_full) c);
      contents = λ c. contents (both_are (ContentsWait (whole unwritten)) one_push c);
      fifo = λ f. fifo (subst (λ (h : List Event). Fifo h (waiting h)) (past_is pop_of_nothing) f);
    }
