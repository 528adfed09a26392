-- Each slip of the statements on numbers, on the pool and on progress, refuted by computing.
use Prim.Native.Nat.{ℕ, zero, suc, ◌≤◌}
use mathlib.Core.Path.{◌≡◌, refl, sym, ap, ◌∙◌, subst}
use mathlib.Core.Logic.{◌⊎◌, inl, inr}
use mathlib.Core.Bool.{Bool, true, false, cond, true≢false}
use mathlib.Core.List.{List, [], ◌∷◌, ◌++◌}
use native.Mathlib.Omega.{arith}
use lib.Dec.{eqb}
use lib.ListN.{get_or, replicate}
use Rattle.queue_rows.proofs.Alike.{all_alike}
use Rattle.queue_numbers.specs.Numbers.{has as among}
use Rattle.queue_schedules.specs.Alone.{passed_by, own_acts_by}
use Rattle.queue_schedules.specs.Alone as one_by_one
use Rattle.queue_entries.specs.Schedules.{run_by, search_by, schedule_by, history_by}
use Rattle.queue_entries.specs.Entries.{stray_of, order_of, entry_of, entry_but}
use Rattle.queue_entries.specs.Limits.{all, in_limits}
use Rattle.queue_entries.specs.declared.Entry.TheVariants.{Unreadable}
use Rattle.queue_schedules.proofs.Splits.{no_cons}
use Rattle.queue_entries.proofs.Pick.{both_left, both_right}
use Rattle.unbounded_words.specs.declared.Pointer.TheVariants.{To}
use Rattle.unbounded_words.specs.Words.{index, past_slots, last_slot, marked_of, unmarked_of, with_mark, later, same, same_position, same_block, minus, settled, behind, count_of}
use Rattle.unbounded_places.specs.declared.Worker.{Worker}
use Rattle.unbounded_places.specs.declared.Answer.TheVariants.{Nothing}
use Rattle.unbounded_places.specs.declared.Place.{Place}
use Rattle.unbounded_places.specs.declared.Place.TheVariants.{Idle, V1}
use Rattle.unbounded_places.specs.Places.{view_of}
use Rattle.unbounded_acts.specs.Acts.{leave, head_to, front_to, tail_to, back_to_words, next_to, freed, state_to, value_to, has, with, first_or, answered, lacks_next}
use Rattle.unbounded_acts.specs.Acts.{push_from, set_aside, claimed, take_or, pop_from, new_head, taken, next_index, destroy_from, read_out_of, destroy_if}
use Rattle.unbounded_machine.specs.declared.Machine.{Machine}
use Rattle.unbounded_machine.specs.Machine.{live, free_blocks, empty_slots, idlers, fresh_of, blank, refused, accepted, place_of, free_block, idler}
use Rattle.unbounded_machine.specs.Broken.{record_fits, records_fit, all_idle, drop_fits, broken_in}
use Rattle.unbounded_machine.specs.Contents.{contents_refusal}
use Rattle.unbounded_machine.specs.Turn.{entry_here, lowest_from, lowest_free, cleared_from, cleared, begun, stored, acted_at, moved_by, turn_with}
use Rattle.unbounded_machine.specs.Run.{ran}
use Rattle.unbounded_demands.specs.Notions.{Definition, acts, items_of, takers_of, takings_of, freeings_of, push12, fresh_two}
use Rattle.unbounded_demands.specs.Waiting.{in12, Holding, push_left, passed}
use Rattle.unbounded_demands.specs.Notions as notions
use Rattle.unbounded_demands.specs.Demands.{WantsBlock, OneAside, OneHandInPool, RefusedByMeterOrPool, Holders, AnswersPushed, PushEnds, EndsAlone, PopAlone, PushAlone, LookAlone, AttainedBy}
use Rattle.unbounded_demands.specs.Attained.{Sight, needed, sight_of, exactly, ending_pushes}
use Rattle.unbounded_demands.specs.Attained as table
use Rattle.unbounded_machine.specs.declared.Ran.{Ran}
use Rattle.unbounded_proof_attained.proofs.First.{run_first}
use Rattle.unbounded_demands.specs.Runs.{short}
use Rattle.unbounded_words.specs.Words.{sizes}
use Rattle.unbounded_proof_progress.proofs.PopRank.{holds_at, holding_at, in_left}
use Rattle.unbounded_proof_progress.proofs.PushRank.{cross_left}
use Rattle.unbounded_slips.specs.Slips.{aside_first, unset, writes_on, frees_on, gives_on, looks_again, act_with}
use Rattle.unbounded_slips.specs.Whole.{whole, pushes, pops, stingy_whole}
use Rattle.unbounded_slips.proofs.Whole.{ends, last_free, machine_is}
use Rattle.unbounded_slips.specs.Further.{FurtherRefuted, FaithfulFace, refusing, loses_twice, block_again, push_begun, pop_waits_on, push_writes, pop_frees, push_gives, empty_looks}

abbrev busy_at : Machine → ℕ → Bool
busy_at m w = (view_of sizes (place_of m.workers w)).busy

-- ---- three workers, the third at is_full, and thirteen that were never begun
-- what is none of worker 1, of Full1 and of one never begun is none of any but worker 0
but_one : (f : Place → ℕ) (ws : List Worker) → f (place_of ws 1) ≡ 0 → f (place_of ws 2) ≡ 0 → f (Idle Nothing) ≡ 0
    → ((v : ℕ) → get_or ws (suc (suc (suc v))) idler ≡ get_or (replicate 13 idler) v idler) → (v : ℕ) → (v ≡ 0 → ⊥) → f (place_of ws v) ≡ 0
but_one f ws b c d quiet zero ne = absurd (ne refl)
but_one f ws b c d quiet (suc zero) ne = b
but_one f ws b c d quiet (suc (suc zero)) ne = c
but_one f ws b c d quiet (suc (suc (suc v))) ne = ap (λ (x : Worker). f x.place) (quiet v ∙ all_alike 13 v idler) ∙ d

-- nor of worker 0
nobody : (f : Place → ℕ) (ws : List Worker) → f (place_of ws 0) ≡ 0 → f (place_of ws 1) ≡ 0 → f (place_of ws 2) ≡ 0 → f (Idle Nothing) ≡ 0
    → ((v : ℕ) → get_or ws (suc (suc (suc v))) idler ≡ get_or (replicate 13 idler) v idler) → (v : ℕ) → f (place_of ws v) ≡ 0
nobody f ws a b c d quiet zero = a
nobody f ws a b c d quiet (suc v) = but_one f ws b c d quiet (suc v) (λ e. omega arith)

abbrev held : Place → ℕ
held p = cond (holds_at p) 1 0

not_held : (p : Place) → held p ≡ 0 → Holding p → ⊥
not_held p z h = let q : ◌≡◌ {A = ℕ} 1 0 = sym (ap {B = ℕ} (λ (t : Bool). cond t 1 0) (holding_at p h)) ∙ z in omega arith

-- ---- a call whose last act does not end it
no_end : (d : Definition) (m : Machine) (w : ℕ) → (view_of d.sizes (place_of (d.run m 0 (one_by_one.acts w 1)).machine.workers w)).busy ≡ true → EndsAlone d m w 1 → ⊥
no_end d m w b e =
    let z : e.before ≡ 0 = omega (arith, e.within) in
    true≢false (sym (ap (λ (n : ℕ). (view_of d.sizes (place_of (d.run m 0 (one_by_one.acts w (suc n))).machine.workers w)).busy) z ∙ b) ∙ e.idle)

-- ---- a push that never ends
unfoldable busy_along : Definition → Machine → ℕ → List ℕ → Bool
busy_along d m w [] = busy_at m w
busy_along d m w (first ∷ []) = busy_at m w
busy_along d m w (first ∷ second ∷ others) = cond (busy_at m w) (busy_along d (d.turn m first second).machine w others) false

holds_on : (d : Definition) (m : Machine) (w n : ℕ) (entries : List ℕ) → busy_along d m w entries ≡ true → AnswersPushed d m w entries n → ⊥
unfolding busy_along passed_by
holds_on d m w n entries b l =
    true≢false (sym (along m l.before l.after (ap (busy_along d m w) (sym l.split) ∙ b)) ∙ ap (λ (p : Place). (view_of sizes p).busy) l.ends)
  where
    here : (m : Machine) (entries : List ℕ) → busy_along d m w entries ≡ true → busy_at m w ≡ true
    here m [] b = b
    here m (first ∷ []) b = b
    here m (first ∷ second ∷ others) b = both_left (busy_at m w) _ b

    along : (m : Machine) (before after : List ℕ) → busy_along d m w (before ++ after) ≡ true → busy_at (passed d m before) w ≡ true
    along m [] after b = here m after b
    along m (first ∷ []) after b = here m (first ∷ after) b
    along m (first ∷ second ∷ others) after b = along (d.turn m first second).machine others after (both_right (busy_at m w) _ b)

one_aside : OneAside (ends loses_twice) → ⊥
unfolding past_slots last_slot marked_of unmarked_of with_mark later same same_position same_block minus settled behind count_of stray_of order_of entry_of leave head_to
    front_to tail_to back_to_words next_to freed state_to value_to has with first_or answered lacks_next push_from set_aside claimed take_or pop_from new_head taken next_index
    destroy_from read_out_of destroy_if live free_blocks empty_slots idlers fresh_of blank refused accepted all in_limits record_fits records_fit all_idle drop_fits broken_in
    entry_but lowest_from lowest_free cleared_from cleared begun stored acted_at moved_by turn_with ran run_by search_by schedule_by history_by acts items_of takers_of
    takings_of freeings_of notions.chained pushes pops
one_aside o = o 1 (To 1) (To 2) 6 refl

one_hand : OneHandInPool (whole aside_first) (ends block_again) → ⊥
unfolding past_slots last_slot marked_of unmarked_of with_mark later same same_position same_block minus settled behind count_of stray_of order_of entry_of leave head_to
    front_to tail_to back_to_words next_to freed state_to value_to has with first_or answered lacks_next push_from set_aside claimed take_or pop_from new_head taken next_index
    destroy_from read_out_of destroy_if live free_blocks empty_slots idlers fresh_of blank refused accepted all in_limits record_fits records_fit all_idle drop_fits broken_in
    entry_but lowest_from lowest_free cleared_from cleared begun stored acted_at moved_by turn_with ran run_by search_by schedule_by history_by acts items_of takers_of
    takings_of freeings_of notions.chained pushes pops
one_hand h = let q : ◌≡◌ {A = ℕ} 0 1 = h.0 0 1 (To 0) (To 0) (index 0) (index 64) in12 in12 (refl, refl) in omega arith

holders : Holders (whole unset) (ends pop_waits_on) → ⊥
unfolding past_slots last_slot marked_of unmarked_of with_mark later same same_position same_block minus settled behind count_of stray_of order_of entry_of leave head_to
    front_to tail_to back_to_words next_to freed state_to value_to has with first_or answered lacks_next push_from set_aside claimed take_or pop_from new_head taken next_index
    destroy_from read_out_of destroy_if live free_blocks empty_slots idlers fresh_of blank refused accepted all in_limits record_fits records_fit all_idle drop_fits broken_in
    entry_but lowest_from lowest_free cleared_from cleared begun stored acted_at moved_by turn_with ran run_by search_by schedule_by history_by acts items_of takers_of
    takings_of freeings_of notions.chained pushes pops
holders h =
    let o = h.write 1 (index 0) (To 0) refl refl in
    in_left _ (To 0) o.1 o.2 (nobody push_left (ends pop_waits_on).workers refl refl refl refl (λ v. refl) o.0)

push_ends : PushEnds (whole writes_on) → ⊥
unfolding past_slots last_slot marked_of unmarked_of with_mark later same same_position same_block minus settled behind count_of stray_of order_of entry_of leave head_to
    front_to tail_to back_to_words next_to freed state_to value_to has with first_or answered lacks_next push_from set_aside claimed take_or pop_from new_head taken next_index
    destroy_from read_out_of destroy_if live free_blocks empty_slots idlers fresh_of blank refused accepted all in_limits record_fits records_fit all_idle drop_fits broken_in
    entry_but lowest_from lowest_free cleared_from cleared begun stored acted_at moved_by turn_with ran run_by search_by schedule_by history_by acts items_of takers_of
    takings_of freeings_of notions.chained pushes pops among passed_by own_acts_by busy_along one_by_one.acts
push_ends e = holds_on (whole writes_on) (ends push_writes) 0 2 (acts 0 2) refl (e.ends (ends push_writes) 0 (index 0) (acts 0 2) push12 (let q : 2 ≤ 2 = omega arith in q))

pop_alone : PopAlone (whole frees_on) (ends pop_frees) → ⊥
unfolding past_slots last_slot marked_of unmarked_of with_mark later same same_position same_block minus settled behind count_of stray_of order_of entry_of leave head_to
    front_to tail_to back_to_words next_to freed state_to value_to has with first_or answered lacks_next push_from set_aside claimed take_or pop_from new_head taken next_index
    destroy_from read_out_of destroy_if live free_blocks empty_slots idlers fresh_of blank refused accepted all in_limits record_fits records_fit all_idle drop_fits broken_in
    entry_but lowest_from lowest_free cleared_from cleared begun stored acted_at moved_by turn_with ran run_by search_by schedule_by history_by acts items_of takers_of
    takings_of freeings_of notions.chained pushes pops among passed_by own_acts_by busy_along one_by_one.acts
pop_alone p =
    no_end (whole frees_on) (ends pop_frees) 0 refl
    (p 0 (omega arith) (omega arith) (λ v ne h. not_held (place_of (ends pop_frees).workers v) (but_one held (ends pop_frees).workers refl refl refl (λ u. refl) v ne) h))

push_alone : PushAlone (whole gives_on) (ends push_gives) → ⊥
unfolding past_slots last_slot marked_of unmarked_of with_mark later same same_position same_block minus settled behind count_of stray_of order_of entry_of leave head_to
    front_to tail_to back_to_words next_to freed state_to value_to has with first_or answered lacks_next push_from set_aside claimed take_or pop_from new_head taken next_index
    destroy_from read_out_of destroy_if live free_blocks empty_slots idlers fresh_of blank refused accepted all in_limits record_fits records_fit all_idle drop_fits broken_in
    entry_but lowest_from lowest_free cleared_from cleared begun stored acted_at moved_by turn_with ran run_by search_by schedule_by history_by acts items_of takers_of
    takings_of freeings_of notions.chained pushes pops among passed_by own_acts_by busy_along one_by_one.acts
push_alone p =
    no_end (whole gives_on) (ends push_gives) 0 refl
    (p 0 (omega arith) (omega arith) (λ v t ne c. cross_left (place_of (ends push_gives).workers v) t c
    (but_one push_left (ends push_gives).workers refl refl refl (λ u. refl) v ne)) (63, omega arith, refl))

look_alone : LookAlone (whole looks_again) (ends empty_looks) → ⊥
unfolding past_slots last_slot marked_of unmarked_of with_mark later same same_position same_block minus settled behind count_of stray_of order_of entry_of leave head_to
    front_to tail_to back_to_words next_to freed state_to value_to has with first_or answered lacks_next push_from set_aside claimed take_or pop_from new_head taken next_index
    destroy_from read_out_of destroy_if live free_blocks empty_slots idlers fresh_of blank refused accepted all in_limits record_fits records_fit all_idle drop_fits broken_in
    entry_but lowest_from lowest_free cleared_from cleared begun stored acted_at moved_by turn_with ran run_by search_by schedule_by history_by acts one_by_one.acts
look_alone l = no_end (whole looks_again) (ends empty_looks) 0 refl (l 0 (omega arith) (omega arith))

-- the row of U14: its act is done, and again
attained : AttainedBy (act_with gives_on) → ⊥
unfolding past_slots last_slot marked_of unmarked_of with_mark later same same_position same_block minus settled behind count_of stray_of order_of entry_of leave head_to
    front_to tail_to back_to_words next_to freed state_to value_to has with first_or answered lacks_next push_from set_aside claimed take_or pop_from new_head taken next_index
    destroy_from read_out_of destroy_if live free_blocks empty_slots idlers fresh_of blank refused accepted all in_limits record_fits records_fit all_idle drop_fits broken_in
    entry_but lowest_from lowest_free cleared_from cleared begun stored acted_at moved_by turn_with ran run_by search_by schedule_by history_by acts needed sight_of table.pushes ending_pushes
attained a =
    let row : List ℕ = (get_or ending_pushes 3 (record { schedule = []; place = V1; number = 0 })).schedule in
    let q : ◌≡◌ {A = ℕ} 50 1 =
    sym (ap (λ (r : Ran). (sight_of (act_with gives_on) r.machine).acts_needed) (run_first (act_with gives_on) row))
    ∙ ap (λ (l : List Sight). (get_or l 3 (exactly V1 0)).acts_needed) a.ending_pushes_lem in
    omega arith

pub faithful_face : FaithfulFace
faithful_face = refl

-- ---- a face: the meter, what is in a buffer, and which entry can be read
unmetered : Machine → Bool
unmetered m = eqb m.meter 0

readable : entry_here 0 5 ≡ Unreadable → ⊥
unfolding stray_of order_of entry_of entry_but
readable e = let q : ◌≡◌ {A = ℕ} 0 1 = cc in omega arith

pub further_refuted : FurtherRefuted
unfolding past_slots last_slot marked_of unmarked_of with_mark later same same_position same_block minus settled behind count_of stray_of order_of entry_of leave head_to
    front_to tail_to back_to_words next_to freed state_to value_to has with first_or answered lacks_next push_from set_aside claimed take_or pop_from new_head taken next_index
    destroy_from read_out_of destroy_if live free_blocks empty_slots idlers fresh_of blank refused accepted all in_limits record_fits records_fit all_idle drop_fits broken_in
    entry_but lowest_from lowest_free cleared_from cleared begun stored acted_at moved_by turn_with ran run_by search_by schedule_by history_by acts items_of takers_of
    takings_of freeings_of notions.chained pushes pops among passed_by own_acts_by busy_along one_by_one.acts unmetered contents_refusal
further_refuted =
    record {
      unchanged = λ r. true≢false (sym (ap unmetered (r.step fresh_two 8 0 (λ e. omega (arith, e)))));
      unchanged_buffer = λ r. no_cons (r.contents (blank sizes) (7 ∷ []) (λ e. omega (arith, e)));
      list_first = λ r. true≢false (ap (λ (x : Ran). busy_at x.machine 0) (r.stops fresh_two (0 ∷ 5 ∷ []) 1 10 0 [] refl refl refl (readable, tt) refl));
      numbered = λ n. true≢false (sym (n.make 1));
      lowest_first = λ l. true≢false (l.lower short (free_block ∷ free_block ∷ []) 0 (omega arith));
      twenty_three = λ t. let q : WantsBlock stingy_whole last_free 8 0 = (t last_free 8 0).0 refl in true≢false (q.none_free 63 (omega arith));
      one_aside = λ o. one_aside (subst OneAside (machine_is loses_twice) o);
      one_hand = λ h. one_hand (subst (OneHandInPool (whole aside_first)) (machine_is block_again) h);
      refused_by = λ r. eight (subst (RefusedByMeterOrPool refusing) (machine_is push_begun) r 0 refl);
      holders = λ h. holders (subst (Holders (whole unset)) (machine_is pop_waits_on) h);
      push_ends = push_ends;
      pop_alone = λ p. pop_alone (subst (PopAlone (whole frees_on)) (machine_is pop_frees) p);
      push_alone = λ p. push_alone (subst (PushAlone (whole gives_on)) (machine_is push_gives) p);
      look_alone = λ l. look_alone (subst (LookAlone (whole looks_again)) (machine_is empty_looks) l);
      attained = attained;
      each_number = λ n. let q : ◌≡◌ {A = ℕ} 1 0 = ap (λ (l : List ℕ). get_or l 0 0) n.make in omega arith;
      refused_exactly = λ n. let q : ◌≡◌ {A = ℕ} 1 0 = n.make 1 in omega arith;
      both_ways = λ b. let q : ◌≡◌ {A = ℕ} 0 6 = b.number_kept 6 tt in omega arith;
    }
  where
    eight : {m : ℕ} → (◌≡◌ {A = ℕ} 8 0) ⊎ ((◌≡◌ {A = ℕ} 8 7 × (4294967295 ≤ m)) ⊎ (◌≡◌ {A = ℕ} 8 23)) → ⊥
    eight (inl e) = omega arith
    eight (inr (inl e)) = let z = e.0 in omega arith
    eight (inr (inr e)) = omega arith
