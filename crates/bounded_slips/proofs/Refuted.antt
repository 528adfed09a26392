-- Each slip, refuted by computing its schedule.
use Prim.Native.Nat.{ℕ, ◌≤◌}
use native.Mathlib.Omega.{arith}
use mathlib.Core.Bool.{true, false, true≢false}
use mathlib.Core.List.{List, [], ◌∷◌, ◌++◌}
use mathlib.Core.Path.{◌≡◌, refl, sym, ap}
use mathlib.Core.Logic.{◌≢◌}
use lib.ListN.{length, get_or}
use Rattle.queue_entries.specs.declared.Entry.TheVariants.{Unreadable}
use Rattle.queue_entries.specs.Schedules.{run_by, search_by, schedule_by, history_by}
use Rattle.queue_entries.specs.Entries.{stray_of, order_of, entry_of}
use Rattle.queue_entries.specs.Limits.{all, in_limits}
use Rattle.queue_entries.specs.declared.Call.TheVariants as call
use Rattle.queue_entries.specs.declared.Order.TheVariants.{Begin}
use Rattle.bounded_words.specs.declared.Stamp.{Stamp}
use Rattle.bounded_words.specs.Words.{doubled, mark_of, marked_of, unmarked_of, plus, minus, with_mark, next_of, same, one_past, lap_behind, lap_behind_one_past, stamp}
use Rattle.bounded_places.specs.declared.Answer.{Answer}
use Rattle.bounded_places.specs.declared.Answer.TheVariants.{Nothing, Pushed, Full, Closed, Displaced, Popped, Empty, PopClosed, Len, Yes, No}
use Rattle.bounded_places.specs.declared.Kind.TheVariants.{Push}
use Rattle.bounded_places.specs.declared.Loss.TheVariants as loss
use Rattle.bounded_places.specs.declared.Place.TheVariants.{Idle, P3, P4, F8, F9, O1, O2, O3, O4, O5, O6}
use Rattle.bounded_places.specs.Places.{inside}
use Rattle.bounded_acts.specs.Acts.{forced_tail, goes, losing, exchange_of, after_tail, tail_to, head_to, stamp_to, value_to, count_of}
use Rattle.bounded_machine.specs.declared.Machine.{Machine}
use Rattle.bounded_machine.specs.declared.Did.{Did}
use Rattle.bounded_machine.specs.declared.Ran.{Ran}
use Rattle.bounded_machine.specs.Machine.{empty_slots, stamped, fresh_slots, record_of_worker, idler, idlers, fresh_with, fresh_of, refused, accepted}
use Rattle.bounded_machine.specs.Broken.{by_rule, ends_fit, place_fits, record_fits, records_fit, ring_fits, broken_with, all_idle}
use Rattle.bounded_machine.specs.Contents.{count_on, wrapped, item_on, items_on, list_on}
use Rattle.bounded_machine.specs.Turn.{record_after, begun, stored, acted_by, turn_of_by}
use Rattle.bounded_machine.specs.Run.{ran}
use Rattle.bounded_machine.specs.History.{event, tally_of, stock_of, untaken_of}
use Rattle.bounded_demands.specs.Notions.{acts, items_of, tailers_of, takers_of, hand_p4, hand_o4, Reads, read_o4, read_f8, unread_by, exchange_p3, lost_from, struck, popped, passed, own_acts, acts_of, Allowed}
use Rattle.bounded_proof_demand2.proofs.Stock.{reading}
use Rattle.bounded_slips.specs.Slips.{none, act_with, slipped, how_many, empty_unseen, full_unseen, closed_unseen, empty_tail_first, full_head_first, len_looks_once}
use Rattle.bounded_slips.specs.Slips.{pop_keeps_its_word, lost_force_keeps_its_word, lost_force_takes_the_head, unstamped, releases_with_next, never_lets_go}
use Rattle.bounded_slips.specs.Slips.{hands_out_again, reads_after_its_store, stamp_before_value, push_writes_late, closed_too_soon}
use Rattle.bounded_slips.specs.Refuted.{overtaken, Trial, trial, reached, past, does, pop_loses, Refuted, pop_of_nothing, pop_looks_late, push_looks_late}
use Rattle.bounded_slips.specs.Refuted.{push_loses, empty_looks, full_looks, pop_after_push, second_lap, pop_out_of_date, force_out_of_date, pop_in_hand, len_looks}
use Rattle.bounded_slips.specs.Refuted.{len_out_of_date, closed_before}
use Rattle.bounded_places.specs.declared.Place.{Place}
use Rattle.bounded_places.specs.declared.Place.TheVariants.{P2, Len1}
use Rattle.bounded_places.specs.declared.Kind.TheVariants.{Force}
use Rattle.bounded_places.specs.declared.Moved.TheVariants.{Neither, Tail, Head}
use Rattle.bounded_places.specs.Places.{view_of}
use Rattle.bounded_causes.specs.Causes.{stand_of, goes_back_of, deed_of, since_with, own_act, other_act, others_hold, watched_to, watched_of, causes_of, named_of}
use Rattle.bounded_demands.specs.Notions.{rounds, watches_from, goings_back, WayBack, p2_p1, p3_p2, p6_p1, f6_p1, o2_o1, o3_o2, o6_o1, len3_len1}
use Rattle.bounded_demands.specs.Attained.{Sight, attained, seen_by, sight_of, needed, others_idle, exactly, seen_beside, attained_beside}
use Rattle.bounded_demands.specs.Foretold.{Told, tellings, told_on, told_by, as_foretold}
use Rattle.bounded_slips.proofs.Forgets.{alone_keeps}
use Rattle.bounded_slips.proofs.Ways.{busy_at, nowhere, wrong_item, unclaimed, sole, acting, said, no_cons, untouched, quiet, no_hand, still_busy, late, rests, at_once, busy_along, holds_on}

pub one_two : Allowed 1 2 1
one_two =
    record {
      slot_some = omega arith;
      slot_most = omega arith;
      worker_some = omega arith;
      worker_most = omega arith;
      edition_some = omega arith;
      edition_most = omega arith;
    }

-- the number that len answered
abbrev len_in : Answer → ℕ
len_in Nothing = 0
len_in Pushed = 0
len_in (Full x) = 0
len_in (Closed x) = 0
len_in (Displaced v) = 0
len_in (Popped v) = 0
len_in Empty = 0
len_in PopClosed = 0
len_in (Len n) = n
len_in Yes = 0
len_in No = 0

-- the machine after worker 1's act
abbrev next : Trial → Machine
next t = (turn_of_by (act_with t.slip) (reached t) 24 0).machine

claimed : Head ≡ Neither → ⊥
claimed e = let q : ◌≡◌ {A = ℕ} 0 1 = cc in omega arith

pub readable : entry_of 0 5 ≡ Unreadable → ⊥
unfolding stray_of order_of entry_of
readable e = let q : ◌≡◌ {A = ℕ} 0 1 = cc in omega arith

head_tail : Head ≡ Tail → ⊥
head_tail e = let q : ◌≡◌ {A = ℕ} 0 1 = cc in omega arith

words_schedule : loss.BySchedule ≡ loss.ByWords → ⊥
words_schedule e = let q : ◌≡◌ {A = ℕ} 0 1 = cc in omega arith

-- O3 reads no value
loses_nothing : (t : Stamp) → Reads (O3 (stamp 0)) t → ⊥
loses_nothing t r = true≢false (sym (reading (O3 (stamp 0)) t r).0)

one_one : Allowed 1 1 1
one_one =
    record {
      slot_some = omega arith;
      slot_most = omega arith;
      worker_some = omega arith;
      worker_most = omega arith;
      edition_some = omega arith;
      edition_most = omega arith;
    }

unscheduled : loss.Nothing ≢ loss.BySchedule
unscheduled e = let q : ◌≡◌ {A = ℕ} 0 1 = cc in omega arith

-- no way back leads to a place with a slot in hand
back_free : (p q : Place) → WayBack p q → (stand_of q).hand ≡ false
back_free p q p2_p1 = refl
back_free p q p3_p2 = refl
back_free p q p6_p1 = refl
back_free p q f6_p1 = refl
back_free p q o2_o1 = refl
back_free p q o3_o2 = refl
back_free p q o6_o1 = refl
back_free p q len3_len1 = refl

pub refuted : Refuted
unfolding attained seen_by sight_of needed others_idle attained_beside seen_beside tellings told_on told_by rounds goes_back_of deed_of since_with own_act other_act
    others_hold watched_to watched_of causes_of named_of watches_from goings_back forced_tail doubled mark_of marked_of unmarked_of plus minus with_mark next_of same one_past
    lap_behind lap_behind_one_past inside stray_of order_of entry_of goes losing exchange_of after_tail tail_to head_to stamp_to value_to count_of empty_slots stamped
    fresh_slots idlers fresh_with refused accepted all in_limits by_rule ends_fit place_fits record_fits records_fit broken_with ring_fits all_idle count_on wrapped item_on
    items_on list_on record_after begun stored acted_by turn_of_by ran run_by search_by schedule_by history_by tally_of stock_of untaken_of how_many unread_by acts items_of
    tailers_of takers_of lost_from struck passed own_acts nowhere still_busy busy_along
refuted =
    record {
      act_by_act = λ a. true≢false (sym (ap (λ (m : Machine). busy_at m 0) (a (fresh_of 1 2 1) [] 0 5 refl refl refl).0));
      whole_schedules = λ w. true≢false (ap (λ (r : Ran). busy_at r.machine 0) ((w 1 2 1 one_two (0 ∷ 5 ∷ [])).0 refl (readable, tt)));
      claim_rule = λ r. wrong_item _ 1 6 refl (r (acts_of (slipped reads_after_its_store) 1 2 1 (does 0 0 5 5 ++ does 1 2 0 4 ++ does 0 0 6 5)) []
          (event 1 (O5 (stamp 0) 0) (Idle (Popped 6)) loss.Nothing) 6 refl popped);
      claim_rule_push = λ r. wrong_item _ 1 0 refl (r (acts_of (slipped push_writes_late) 1 2 1 (does 0 0 5 4 ++ does 1 2 0 4)) []
          (event 1 (O5 (stamp 0) 0) (Idle (Popped 0)) loss.Nothing) 0 refl popped);
      claim_rule_force = λ r. wrong_item _ 0 5 refl (r (acts_of (slipped stamp_before_value) 1 2 1 (does 0 0 5 5 ++ does 1 1 6 5 ++ does 0 2 0 4)) []
          (event 0 (O5 (stamp 4) 5) (Idle (Popped 5)) loss.Nothing) 5 refl popped);
      once_out =
          λ o.
          o (acts_of (slipped hands_out_again) 1 2 1 (does 0 0 5 5 ++ does 0 2 0 4)) (event 0 O1 (O2 (stamp 4)) loss.Nothing ∷ event 0 (O2 (stamp 4)) (O6 (stamp 4)) loss.Nothing ∷ []) []
          (event 0 (O5 (stamp 0) 5) (Idle (Popped 5)) loss.Nothing) (event 0 (O6 (stamp 4)) (Idle (Popped 5)) loss.Nothing) 5 5 0 refl popped popped sole sole;
      one_hand = λ h. let q : ◌≡◌ {A = ℕ} 0 1 = h 0 1 (stamp 0) (stamp 0) hand_p4 hand_p4 refl in omega arith;
      answers_empty = λ a. let q = ap (λ (s : Stamp). s.0) (said (slipped empty_unseen) (reached pop_looks_late) 1 Empty a refl refl refl).1 in omega arith;
      answers_full = λ a. true≢false (sym (said (slipped full_unseen) (reached push_looks_late) 1 (Full 6) a refl refl refl));
      answers_closed = λ a. true≢false (sym (said (slipped closed_unseen) (reached push_loses) 1 (Closed 6) a refl refl refl));
      reads = λ r. unclaimed (past pop_of_nothing) 0 0 refl (r 0 (stamp 0) read_o4);
      unbroken = true≢false;
      words = λ p. let q = p.head in omega arith;
      plain = λ p. let q = p.head in omega arith;
      untaken = λ s. let q : ◌≡◌ {A = ℕ} 1 0 = s in omega arith;
      contents = λ c. let q : ◌≡◌ {A = ℕ} 0 5 = ap (λ (l : List ℕ). get_or l 0 0) (c refl) in omega arith;
      fifo = λ f. no_cons (untouched (past pop_of_nothing) [] f refl).0;
      empty =
          λ e.
          let q = ap (λ (s : Stamp). s.0) (e 1 (next empty_looks) (stamp 0) refl (acting (slipped empty_tail_first) (reached empty_looks) 1 refl refl) refl) in
          omega arith;
      full = λ f. true≢false (sym (f 1 (next full_looks) (stamp 0) refl (acting (slipped full_head_first) (reached full_looks) 1 refl refl) refl));
      len =
          λ l.
          let q : ◌≡◌ {A = ℕ} 0 1 =
          l 1 2 1 one_two len_looks.schedule 1 0
          (record {
            tail = stamp 0;
            loads = refl;
            loaded = next len_looks;
            load = acting (slipped len_looks_once) (reached len_looks) 1 refl refl;
            rest = [];
            still = tt;
            answered = (turn_of_by (act_with len_looks_once) (next len_looks) 24 0).machine;
            answer = acting (slipped len_looks_once) (next len_looks) 1 refl refl;
            is = refl;
          })
          in
          omega arith;
      accepted = λ n. let q : ◌≡◌ {A = ℕ} 8 0 = n 0 refl (omega arith) in omega arith;
      alone_pop = λ a. late (slipped pop_keeps_its_word) (reached pop_out_of_date) (past pop_out_of_date) 1 6 refl (a 1 refl (omega arith) (no_hand (reached pop_out_of_date) 1 refl refl quiet));
      alone_force = λ a. late (slipped lost_force_keeps_its_word) (reached (force_out_of_date lost_force_keeps_its_word))
          (past (force_out_of_date lost_force_keeps_its_word)) 1 7 refl (a 1 refl (omega arith)
          (no_hand (reached (force_out_of_date lost_force_keeps_its_word)) 1 refl refl quiet));
      alone_force_too = λ a. late (slipped lost_force_takes_the_head) (reached (force_out_of_date lost_force_takes_the_head))
          (past (force_out_of_date lost_force_takes_the_head)) 1 7 refl (a 1 refl (omega arith)
          (no_hand (reached (force_out_of_date lost_force_takes_the_head)) 1 refl refl quiet));
      alone_stamp = λ a. late (slipped unstamped) (reached pop_after_push) (past pop_after_push) 0 5 refl (a 0 refl (omega arith) (no_hand (reached pop_after_push) 0 refl refl quiet));
      alone_next = λ a. late (slipped releases_with_next) (reached second_lap) (past second_lap) 0 5 refl (a 0 refl (omega arith) (no_hand (reached second_lap) 0 refl refl quiet));
      alone_early =
          λ a.
          true≢false (sym (at_once (slipped full_unseen) (reached push_looks_late) (past push_looks_late) 1 6 (Full 6) refl
          (λ n. ap (λ (m : Machine). busy_at m 1) (rests (act_with full_unseen) (next push_looks_late) 1 1 n refl))
          (a 1 refl (omega arith) (no_hand (reached push_looks_late) 1 refl refl quiet))).0);
      alone_other =
          λ a.
          let q : ◌≡◌ {A = ℕ} 0 1 =
          ap len_in (at_once (slipped len_looks_once) (reached len_out_of_date) (past len_out_of_date) 1 4 (Len 0) refl
          (λ n. ap (λ (m : Machine). busy_at m 1) (rests (act_with len_looks_once) (next len_out_of_date) 1 1 n refl))
          (a 1 refl (omega arith) (no_hand (reached len_out_of_date) 1 refl refl quiet))).1 in
          omega arith;
      in_the_way = λ i. no_hand (reached pop_after_push) 0 refl refl quiet (i 0 (omega arith) refl);
      waits_hand = λ i. let o = i 0 (omega arith) refl in no_hand (reached pop_after_push) 0 refl refl quiet (o.hand.0, o.hand.1, o.hand.2, o.hand.3);
      waits_needed = λ i. let q : ◌≡◌ {A = ℕ} 0 1 = ap length (i 1 (omega arith) refl).needed in omega (arith, q);
      -- P6 answers at once
      attained_beside_lem = λ a. let q : ◌≡◌ {A = ℕ} 2 7 = ap (λ (l : List Sight). (get_or l 0 (exactly Len1 0)).acts_needed) a in omega arith;
      lets_go = λ l. holds_on (slipped never_lets_go) (reached pop_in_hand) 0 2 (acts 0 2) refl (l 0 (stamp 0) (acts 0 2) hand_o4 (let q : 2 ≤ 2 = omega arith in q));
      as_run = λ p. true≢false (ap (λ (m : Machine). busy_at m 0) (p (0 ∷ 5 ∷ []) refl));
      nine_as_eight =
          λ n.
          let q : ◌≡◌ {A = ℕ} 1 0 =
          ap (λ (d : Did). (record_of_worker d.machine.workers 0).failed) (n (reached overtaken) 0 (stamp 4) (stamp 0) exchange_p3
          (λ e. let q : ◌≡◌ {A = ℕ} 4 0 = ap (λ (t : Stamp). t.0) e in omega (arith, q))) in
          omega arith;
      own_record =
          λ d.
          let q : ◌≡◌ {A = ℕ} 7 0 =
          d.refusal (reached (trial none 1 [])) (record { place = Idle Nothing; differed = 0; failed = 1 } ∷ idler ∷ []) 1 (Begin (call.Push 5)) 16 5 refl refl in
          omega arith;
      at_most = λ a. let q : 8 ≤ 7 = (a (P2 Force (stamp 0) 0)).0 in omega arith;
      -- the row of Len3
      attained = λ a. let q : ◌≡◌ {A = ℕ} 1 4 = ap (λ (l : List Sight). (get_or l 21 (exactly Len1 0)).acts_needed) a in omega arith;
      -- a pop of what was pushed after its stamp load
      foretold = λ f. true≢false (ap (λ (l : List Told). (view_of (get_or l 9 (as_foretold Yes)).ends_at).busy) f);
      rises = λ s. let q : ◌≡◌ {A = ℕ} 0 1 = s (acts_of (slipped none) 1 2 1 (does 0 0 5 2)) [] (event 0 (P3 Push (stamp 0) 5) (P4 (stamp 0) 5) loss.Nothing) refl refl in omega arith;
      falls =
          λ s.
          let q : ◌≡◌ {A = ℕ} 2 3 =
          s (acts_of (slipped none) 1 2 1 (does 0 0 5 5 ++ does 0 1 6 4)) (event 0 (F9 (stamp 4) 5) (Idle (Displaced 5)) loss.Nothing ∷ [])
          (event 0 (F8 (stamp 4) 6) (F9 (stamp 4) 5) loss.Nothing) (stamp 4) refl read_f8 in
          omega arith;
      stays =
          λ s.
          let q : ◌≡◌ {A = ℕ} 0 1 =
          s (acts_of (slipped none) 1 2 1 (does 0 0 5 5 ++ does 0 2 0 2)) [] (event 0 (O3 (stamp 0)) (O4 (stamp 0)) loss.Nothing) refl (λ e. head_tail e) (λ t r. loses_nothing t r) in
          omega arith;
      hands = λ s. let q : ◌≡◌ {A = ℕ} 0 1 = s in omega arith;
      number = λ s. let q : ◌≡◌ {A = ℕ} 2 1 = (s refl).0 in omega arith;
      number_push = λ s. let q : ◌≡◌ {A = ℕ} 1 0 = (s refl).0 in omega arith;
      most = λ s. let q : 3 ≤ 2 = s in omega arith;
      both = λ c. let q : ◌≡◌ {A = ℕ} 0 1 = (c 1).0 in omega arith;
      force = λ c. let q : ◌≡◌ {A = ℕ} 0 1 = (c 1).1 in omega arith;
      won = λ c. let q : ◌≡◌ {A = ℕ} 1 0 = (c 0).0 in omega arith;
      twice_counted = λ c. let q : ◌≡◌ {A = ℕ} 2 1 = (c 0).1 in omega arith;
      ended = λ c. let q : ◌≡◌ {A = ℕ} 0 1 = (c 0).1 in omega arith;
      begun_anew = λ c. let q : ◌≡◌ {A = ℕ} 1 0 = (c 0).1 in omega arith;
      told = λ t. words_schedule (t.differed (stamp 4) (stamp 0) true exchange_p3 (λ e. let q : ◌≡◌ {A = ℕ} 4 0 = ap (λ (z : Stamp). z.0) e in omega arith));
      aside = λ a. let q : ◌≡◌ {A = ℕ} 7 0 = (a (reached (trial none 1 pop_loses)) 8 0).0 in omega arith;
      once_closed = λ o. true≢false (sym (o refl (acts 0 2)));
      closed_last =
          λ o.
          let q = o (acts_of (slipped closed_too_soon) 1 2 1 closed_before)
          (event 0 O1 (O2 (stamp 0)) loss.Nothing ∷ event 0 (O2 (stamp 0)) (O3 (stamp 0)) loss.Nothing ∷ event 0 (O3 (stamp 0)) (O4 (stamp 0)) loss.Nothing
          ∷ []) (event 1 (O6 (stamp 0)) (Idle PopClosed) loss.Nothing) refl refl in
          claimed q.1.1.0;
      eight_ways =
          λ e.
          true≢false (back_free _ _ ((e 1 2 1 one_two (pop_in_hand.schedule ++ acts 0 2) (acts_of (slipped never_lets_go) 1 2 1 (pop_in_hand.schedule ++ acts 0 1)) []
          (event 0 (O5 (stamp 0) 5) (O4 (stamp 0)) loss.Nothing) refl).0 refl));
      back_once =
          λ b.
          let q : 2 ≤ 1 =
          b 1 2 1 one_two (pop_out_of_date.schedule ++ acts 1 2) (acts_of (slipped pop_keeps_its_word) 1 2 1 pop_out_of_date.schedule)
          (event 1 (O6 (stamp 0)) (O2 (stamp 0)) loss.Nothing ∷ event 1 (O2 (stamp 0)) O1 loss.Nothing ∷ []) [] 1 refl (refl, unscheduled, (refl, unscheduled, tt)) refl in
          omega arith;
      alone_keeps = alone_keeps;
      rounds_claim = λ r. let q : ◌≡◌ {A = ℕ} 0 1 = (r 1 1 one_one 1 (omega arith)).1 in omega arith;
    }
