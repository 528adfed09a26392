-- Each table that is no plain queue's, refuted at full size: by computing, with `Drop`'s walk left shut.
use Prim.Native.Nat.{ℕ, ◌<◌}
use native.Mathlib.Omega.{arith}
use mathlib.Core.Bool.{Bool, true, false, cond, true≢false}
use mathlib.Core.List.{List, [], ◌∷◌, ◌++◌}
use mathlib.Core.Path.{◌≡◌, refl, sym, ap, ◌∙◌, subst}
use lib.Dec.{eqb}
use Rattle.queue_entries.specs.declared.Call.TheVariants as call
use Rattle.queue_entries.specs.Schedules.{run_by, history_by}
use Rattle.queue_entries.specs.Entries.{stray_of, order_of, entry_of, entry_but}
use Rattle.queue_entries.specs.Limits.{all, in_limits}
use Rattle.queue_schedules.proofs.Splits.{cons_first, cons_rest, no_cons, no_split}
use Rattle.queue_plain.specs.Story.{Begun, Does, items_of, known_from, followed_from}
use Rattle.unbounded_words.specs.declared.Pointer.TheVariants.{None, To}
use Rattle.unbounded_words.specs.Words.{index, past_slots, last_slot, marked_of, unmarked_of, with_mark, later, same, same_position, same_block, minus, settled, behind, count_of}
use Rattle.unbounded_places.specs.declared.Answer.TheVariants.{Nothing, Pushed, Closed, Popped, Empty, PopClosed, Len, Yes, No}
use Rattle.unbounded_places.specs.declared.Place.{Place}
use Rattle.unbounded_places.specs.declared.Place.TheVariants.{Idle, U1, U7, U12, V3, V4, V10, V12, Len3, Empty1, Empty2, Full1, Close1, IsClosed1}
use Rattle.unbounded_acts.specs.Acts.{leave, head_to, front_to, tail_to, back_to_words, next_to, freed, state_to, value_to, has, with, first_or, answered, lacks_next}
use Rattle.unbounded_acts.specs.Acts.{push_from, set_aside, claimed, take_or, pop_from, new_head, taken, next_index, destroy_from, read_out_of, destroy_if}
use Rattle.unbounded_machine.specs.declared.Machine.{Machine}
use Rattle.unbounded_machine.specs.declared.Did.{Did}
use Rattle.unbounded_machine.specs.declared.Event.{Event}
use Rattle.unbounded_machine.specs.Machine.{live, free_blocks, empty_slots, idlers, fresh_of, blank, refused, accepted}
use Rattle.unbounded_machine.specs.Drop as drop
use Rattle.unbounded_machine.specs.Broken.{record_fits, records_fit, all_idle, drop_fits, broken_in}
use Rattle.unbounded_machine.specs.Turn.{lowest_from, lowest_free, cleared_from, cleared, begun, stored, acted_at, moved_by, turn_with}
use Rattle.unbounded_machine.specs.Contents.{contents_of}
use Rattle.unbounded_machine.specs.Run.{ran}
use Rattle.unbounded_machine.specs.History.{event, history_with}
use Rattle.unbounded_demands.specs.Notions.{acts, takers_of}
use Rattle.unbounded_demands.specs.Claims.{closed_by}
use Rattle.unbounded_demands.specs.Stories.{Story, story_from, often, place_in, Emptying, leaving6, leaving7, leaving8, leaving9}
use Rattle.unbounded_demands.specs.Demands.{PlainThroughout, CloseHolds, OwnClaim}
use Rattle.unbounded_proof_attained.proofs.First.{start, turn_first}
use Rattle.unbounded_slips.specs.Slips.{hands_out_again, reads_early, push_drops, closed_after_claim, claims_closed, pops_another, empty_after_taking}
use Rattle.unbounded_slips.specs.Slips.{pushes_another, takes_unseen, len_none, empty_yes, close_idle, act_with}
use Rattle.unbounded_slips.specs.Refuted.{Trial, does}
use Rattle.unbounded_slips.specs.RefutedPlain.{pushed, push_acts, push_pop, closed_between, pop_more, len_of_one, empty_of_one, empty_of_none, full_of_none}
use Rattle.unbounded_slips.specs.RefutedPlain.{closed_of_open, pop_closed_between, close_once, close_twice, pop_of_none, pop_too_early}
use Rattle.unbounded_slips.specs.Whole.{whole, whole_machine, whole_past, one_push}
use Rattle.unbounded_slips.specs.PlainWhole.{whole_told, PlainWhole, RefutedPlainWhole}
use Rattle.unbounded_slips.proofs.RefutedPlain.{untrue, none_leaving, unended, writes_in, unwritten_in, no_is_yes, one_is_none}
use Rattle.unbounded_slips.proofs.Whole.{ends, machine_is, past_is, both_are, items_one}

-- ---- the story: the third worker's begin, and the rest

abbrev tells : ℕ → List ℕ → Story
tells slip s = Begun 2 call.IsFull ∷ story_from (whole slip) start s

story_is : (t : Trial) → whole_told t ≡ tells t.slip t.schedule
unfolding history_by accepted stray_of order_of entry_of entry_but
story_is t =
    ap (λ (d : Did). cond (eqb d.refusal 0) (Begun 2 call.IsFull ∷ story_from (whole t.slip) d.machine t.schedule) []) (turn_first (act_with t.slip) t.schedule)

told_of : (t : Trial) → PlainWhole t → PlainThroughout (whole t.slip) (ends t) (whole_past t) (tells t.slip t.schedule)
told_of t p =
    subst (λ (m : Machine). PlainThroughout (whole t.slip) m (whole_past t) (tells t.slip t.schedule)) (machine_is t)
    (subst (PlainThroughout (whole t.slip) (whole_machine t) (whole_past t)) (story_is t) p)

-- ---- no worker is at a block's end where worker 1 begins is_empty next

abbrev asks : Story
asks = Begun 2 call.IsFull ∷ Begun 1 call.IsEmpty ∷ Does (event 1 Empty1 (Empty2 (index 0))) ∷ []

not_full : (p : Place) → p ≡ Full1 → Emptying p → ⊥
not_full p e leaving6 = let q : ◌≡◌ {A = ℕ} 0 1 = cc in omega arith
not_full p e leaving7 = let q : ◌≡◌ {A = ℕ} 0 1 = cc in omega arith
not_full p e leaving8 = let q : ◌≡◌ {A = ℕ} 0 1 = cc in omega arith
not_full p e leaving9 = let q : ◌≡◌ {A = ℕ} 0 1 = cc in omega arith

nobody_there : (v : ℕ) (b c : Bool) → Emptying (cond b Empty1 (cond c Full1 (Idle Nothing))) → ⊥
nobody_there v true c o = none_leaving v true o
nobody_there v false true o = not_full Full1 refl o
nobody_there v false false o = none_leaving v false o

no_end : (before : Story) (load : Event) (since : Story) → asks ≡ before ++ Does load ∷ since → (v : ℕ) → Emptying (place_in v before) → ⊥
unfolding followed_from
no_end [] load since e v o = let z : Begun 2 call.IsFull ≡ Does load = cons_first e in let q : ◌≡◌ {A = ℕ} 0 1 = cc in omega arith
no_end (x ∷ []) load since e v o = let z : Begun 1 call.IsEmpty ≡ Does load = cons_first (cons_rest e) in let q : ◌≡◌ {A = ℕ} 0 1 = cc in omega arith
no_end (x ∷ y ∷ []) load since e v o =
    nobody_there v (eqb v 1) (eqb v 2) (subst (λ (s : Story). Emptying (place_in v s))
    (sym (ap (λ (z : _). z ∷ y ∷ []) (cons_first e)) ∙ sym (ap (λ (z : _). Begun 2 call.IsFull ∷ z ∷ []) (cons_first (cons_rest e)))) o)
no_end (x ∷ y ∷ z ∷ before) load since e v o = no_split before (Does load) since (cons_rest (cons_rest (cons_rest e)))

abbrev past_of : ℕ → List ℕ → List Event
past_of slip s = history_with (whole slip).turn start s

pub refuted_plain_whole : RefutedPlainWhole
unfolding past_slots last_slot marked_of unmarked_of with_mark later same same_position same_block minus settled behind count_of stray_of order_of entry_of leave head_to
    front_to tail_to back_to_words next_to freed state_to value_to has with first_or answered lacks_next push_from set_aside claimed take_or pop_from new_head taken next_index
    destroy_from read_out_of destroy_if live free_blocks empty_slots idlers fresh_of blank refused accepted drop.items_of all in_limits record_fits records_fit all_idle
    drop_fits broken_in entry_but lowest_from lowest_free cleared_from cleared begun stored acted_at moved_by turn_with contents_of ran run_by history_by acts often items_of
    known_from followed_from takers_of closed_by writes_in
refuted_plain_whole =
    record {
      push_drops_lem = λ p. no_cons ((told_of (push_acts push_drops 1) p).answers (tells push_drops (does 0 0 5 0)) [] (event 0 (U1 None 5) (Idle Pushed)) Pushed refl refl).1.put;
      closed_after_claim_lem =
          λ p. no_cons (sym ((told_of (push_acts closed_after_claim 7) p).answers (tells closed_after_claim (does 0 0 5 6)) []
          (event 0 (U12 None (index 0) (To 0) 5) (Idle (Closed 5))) (Closed 5) refl refl).1.put);
      pushes_another_lem = λ p. let q : ◌≡◌ {A = ℕ} 5 6 = cons_first {xs = []} {ys = []} ((told_of (push_acts pushes_another 6) p).item_kept 0 6 refl) in omega arith;
      pops_another_lem =
          λ p. let q : ◌≡◌ {A = ℕ} 5 6 = cons_first {xs = []} {ys = []}
          ((told_of (push_pop pops_another) p).answers (tells pops_another (pushed ++ does 1 2 0 6)) [] (event 1 (V12 (index 0) (To 0) 6) (Idle (Popped 6))) (Popped 6) refl refl).1.took in omega arith;
      empty_after_taking_lem =
          λ p. no_cons (sym ((told_of (push_pop empty_after_taking) p).answers (tells empty_after_taking (pushed ++ does 1 2 0 6)) []
          (event 1 (V12 (index 0) (To 0) 5) (Idle Empty)) Empty refl refl).1.took);
      claims_closed_lem =
          λ p. true≢false (((told_of closed_between p).changes (tells claims_closed (does 0 0 5 5 ++ does 1 6 0 1)) []
          (event 0 (U7 None (index 0) (To 0) 5) (U12 None (index 0) (To 0) 5)) refl).while_open refl);
      takes_unseen_lem = λ p. let q : 0 < 0 = ((told_of pop_more p).changes (tells takes_unseen (pushed ++ does 1 2 0 7 ++ does 1 2 0 3)) []
          (event 1 (V4 (index 2) (To 0) (index 4)) (V10 (index 2) (To 0))) refl).takes refl in omega arith;
      unwritten =
          λ p. let q : ◌≡◌ {A = ℕ} 0 5 = cons_first {xs = []} {ys = []}
          (sym (items_one 2078 (ends one_push).slots (ends one_push).blocks) ∙ (told_of one_push p).nothing_lost.contents refl) in omega arith;
      len_none_lem =
          λ p. untrue (tells len_none (pushed ++ does 1 3 0 2)) (event 1 (Len3 (index 2) (index 0)) (Idle (Len 0))) (Len 0) call.Len 12 refl refl
          one_is_none ((told_of len_of_one p).answers _ [] _ (Len 0) refl refl).0;
      empty_yes_lem =
          λ p. untrue (tells empty_yes (pushed ++ does 1 4 0 1)) (event 1 (Empty2 (index 0)) (Idle Yes)) Yes call.IsEmpty 12 refl refl
          no_is_yes ((told_of empty_of_one p).answers _ [] _ Yes refl refl).0;
      empty_no_lem = λ p. unended asks no_end (event 1 (Empty2 (index 0)) (Idle No)) No refl ((told_of empty_of_none p).answers asks [] (event 1 (Empty2 (index 0)) (Idle No)) No refl refl).0;
      full_yes_lem =
          λ p. untrue (Begun 2 call.IsFull ∷ Begun 1 call.IsFull ∷ []) (event 1 Full1 (Idle Yes)) Yes call.IsFull 2 refl refl
          no_is_yes ((told_of full_of_none p).answers _ [] _ Yes refl refl).0;
      closed_yes_lem =
          λ p. untrue (Begun 2 call.IsFull ∷ Begun 1 call.IsClosed ∷ []) (event 1 IsClosed1 (Idle Yes)) Yes call.IsClosed 2 refl refl
          no_is_yes ((told_of closed_of_open p).answers _ [] _ Yes refl refl).0;
      close_idle_lem =
          λ p. untrue (tells close_idle (does 0 6 0 1 ++ does 0 6 0 0)) (event 0 Close1 (Idle Yes)) Yes call.Close 4 refl refl
          no_is_yes ((told_of close_twice p).answers _ [] _ Yes refl refl).0;
      mark = λ c. true≢false (sym (both_are CloseHolds close_once c).mark);
      yes_once = λ c. (both_are CloseHolds close_twice c).yes_once [] [] [] (event 0 Close1 (Idle Yes)) (event 0 Close1 (Idle Yes)) refl (refl, refl) (refl, refl);
      none_after =
          λ c. no_cons (sym ((both_are CloseHolds pop_closed_between c).none_after (past_of claims_closed (does 0 0 5 5 ++ does 1 6 0 1 ++ does 1 2 0 2))
          (event 0 (U7 None (index 0) (To 0) 5) (U12 None (index 0) (To 0) 5) ∷ [])
          (event 1 (V3 (index 0) (To 0)) (Idle PopClosed)) refl refl).0);
      own_claim =
          λ o. let k = (subst OwnClaim (past_is pop_of_none) o (past_of hands_out_again (does 0 2 0 2)) [] (event 0 (V3 (index 0) None) (Idle (Popped 0))) 0 refl refl).2.made in omega arith;
      unwritten_out =
          λ o. let z = subst OwnClaim (past_is pop_too_early) o (past_of reads_early (does 0 0 0 6 ++ does 1 2 0 6)) [] (event 1 (V12 (index 0) (To 0) 0) (Idle (Popped 0))) 0 refl refl in
          unwritten_in (past_of reads_early (does 0 0 0 6 ++ does 1 2 0 6)) z.0 0 refl z.4;
    }
