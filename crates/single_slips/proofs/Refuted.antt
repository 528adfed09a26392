-- Each slip, refuted by computing its schedule.
use Prim.Native.Nat.{ℕ, ◌≤◌}
use native.Mathlib.Omega.{arith}
use mathlib.Core.Bool.{Bool, false, true≢false}
use mathlib.Core.List.{List, [], ◌∷◌, ◌++◌}
use mathlib.Core.Path.{◌≡◌, refl, sym, ap, subst}
use borrow.Author.Tests.{eqb-true}
use lib.Dec.{eqb}
use lib.ListN.{get_or}
use Rattle.queue_entries.specs.declared.Call.TheVariants as call
use Rattle.queue_entries.specs.declared.Entry.TheVariants.{Unreadable}
use Rattle.queue_entries.specs.Schedules.{run_by, search_by, schedule_by, history_by}
use Rattle.queue_entries.specs.Entries.{stray_of, order_of, entry_of}
use Rattle.queue_entries.specs.Limits.{all, in_limits}
use Rattle.queue_schedules.specs.Alone.{acts, passed_by, own_acts_by}
use Rattle.queue_numbers.specs.Numbers.{has}
use Rattle.single_words.specs.Words.{state, same, locked_in, pushed_in, closed_in, unlocked, taken_of, closed_of_word}
use Rattle.single_places.specs.declared.Answer.{Answer}
use Rattle.single_places.specs.declared.Answer.TheVariants.{Nothing, Pushed, Full, Closed, Displaced, Popped, Empty, PopClosed, Len, Yes, No}
use Rattle.single_places.specs.declared.Place.{Place}
use Rattle.single_places.specs.declared.Place.TheVariants.{Idle, A1, A2, A3, B1, B2, B3, B4, B5, C1, C2, C3, Len1, Empty1, Full1, Close1, IsClosed1}
use Rattle.single_places.specs.Places.{view_of}
use Rattle.single_acts.specs.Acts.{goes, state_to, value_to, exchanged, unlocked_in}
use Rattle.single_machine.specs.declared.Machine.{Machine}
use Rattle.single_machine.specs.declared.Ran.{Ran}
use Rattle.single_machine.specs.declared.Event.{Event}
use Rattle.single_machine.specs.Machine.{idlers, fresh_of, refused, accepted}
use Rattle.single_machine.specs.Broken.{record_fits, idle_from, broken_of}
use Rattle.single_machine.specs.Contents.{contents_of, contents_refusal, written}
use Rattle.single_machine.specs.Turn.{begun, stored, acted_by, turn_of_by}
use Rattle.single_machine.specs.Run.{ran}
use Rattle.single_machine.specs.History.{event}
use Rattle.single.specs.Single.{step_of}
use Rattle.single_demands.specs.Notions.{Allowed, machine_after, acts_of, InHand, Popping, popping_c2, popping_c3, Latest, Came, popped, holds_c3, waiting_from, closed_by, looks_len, looks_empty}
use Rattle.queue_schedules.proofs.Splits.{no_cons}
use Rattle.single_slips.specs.Slips.{slipped, close_adds, unwritten, reads_after_unlock, displaces_its_own, always_full, empty_unclosed, pop_waits, push_waits}
use Rattle.single_slips.specs.Slips.{len_unlocked, empty_is_zero, force_keeps_its_word, pop_keeps_its_word, stays_locked, never_lets_go}
use Rattle.single_slips.specs.Refuted.{Trial, reached, past, does, Refuted, one_push}
use Rattle.single_slips.specs.Refuted.{pop_of_nothing, force_of_nothing, pop_after_close, pop_beside_pop, push_beside_pop, push_begun, len_beside_push}
use Rattle.single_slips.specs.Refuted.{empty_after_close, push_on_full, force_on_full, pop_of_closed, pop_after_push, pop_in_hand}
use Rattle.single_slips.proofs.Meanings.{plain_push_drops, plain_force_drops, plain_another_in, plain_another_out, plain_own_out, plain_peeks}
use Rattle.single_slips.proofs.Meanings.{plain_full, plain_empty, plain_close, plain_len, plain_room, plain_two_pops, plain_goes_back, plain_lost}
use Rattle.single_slips.proofs.Ways.{busy_at, any_in, held_by, holds_got, standing, runs_from, never_written, not_latest, never_got, never_took}
use Rattle.single_slips.proofs.Ways.{nothing_stands, plain_runs, acting, quiet, popping_busy, nobody, no_hand, always, late, at_once, busy_along}
use Rattle.single_slips.proofs.Ways.{holds_on}

two : Allowed 2
two = record { some = omega arith; most = omega arith }

-- the machine after worker 1's act
abbrev next : Trial → Machine
next t = ((slipped t.slip).turn (reached t) 24 0).machine

-- ---- the acts of a push and two pops of it
abbrev push₁ : List Event
push₁ = event 0 (A1 5) (A2 5) ∷ []

abbrev write : Event
write = event 0 (A2 5) A3

abbrev pushed : Event
pushed = event 0 A3 (Idle Pushed)

abbrev takes : Event
takes = event 0 (C1 (state 2)) C2

abbrev read : Event
read = event 0 C2 (C3 5)

abbrev answer : Event
answer = event 0 (C3 5) (Idle (Popped 5))

first_came : Came (push₁ ++ write ∷ pushed ∷ takes ∷ read ∷ []) 0 5 1
first_came =
    record {
      earlier = push₁ ++ write ∷ pushed ∷ takes ∷ [];
      read = read;
      since = [];
      is = refl;
      by = refl;
      reading = refl;
      got = holds_c3;
      of = record { earlier = push₁; write = write; since = pushed ∷ takes ∷ []; is = refl; number = refl; item = refl; unwritten = (refl, (refl, tt)) };
      rests = tt;
    }

second_came : Came (push₁ ++ write ∷ pushed ∷ takes ∷ read ∷ answer ∷ takes ∷ read ∷ []) 0 5 1
second_came =
    record {
      earlier = push₁ ++ write ∷ pushed ∷ takes ∷ read ∷ answer ∷ takes ∷ [];
      read = read;
      since = [];
      is = refl;
      by = refl;
      reading = refl;
      got = holds_c3;
      of = record {
        earlier = push₁;
        write = write;
        since = pushed ∷ takes ∷ read ∷ answer ∷ takes ∷ [];
        is = refl;
        number = refl;
        item = refl;
        unwritten = (refl, (refl, (refl, (refl, (refl, tt)))));
      };
      rests = tt;
    }

-- ---- told apart
abbrev answer_in : Place → Answer
answer_in (Idle a) = a
answer_in (A1 x) = Nothing
answer_in (A2 x) = Nothing
answer_in A3 = Nothing
answer_in (B1 e x) = Nothing
answer_in (B2 x) = Nothing
answer_in B3 = Nothing
answer_in (B4 x) = Nothing
answer_in (B5 old) = Nothing
answer_in (C1 e) = Nothing
answer_in C2 = Nothing
answer_in (C3 v) = Nothing
answer_in Len1 = Nothing
answer_in Empty1 = Nothing
answer_in Full1 = Nothing
answer_in Close1 = Nothing
answer_in IsClosed1 = Nothing

-- Full and No, and the number of Len
abbrev tell_in : Answer → ℕ
tell_in Nothing = 0
tell_in Pushed = 0
tell_in (Full x) = 1
tell_in (Closed x) = 0
tell_in (Displaced v) = 0
tell_in (Popped v) = 0
tell_in Empty = 0
tell_in PopClosed = 0
tell_in (Len n) = n
tell_in Yes = 0
tell_in No = 1

abbrev tell_at : Place → ℕ
tell_at p = tell_in (answer_in p)

pushing : Popping (A1 6) → ⊥
pushing k = no_a1 (A1 6) k refl
  where
    hand : Place → Bool
    hand p = (view_of p).hand

    no_a1 : (p : Place) → Popping p → hand p ≡ false → ⊥
    no_a1 p popping_c2 e = true≢false e
    no_a1 p popping_c3 e = true≢false e

readable : entry_of 0 5 ≡ Unreadable → ⊥
unfolding stray_of order_of entry_of
readable e = let q : ◌≡◌ {A = ℕ} 0 1 = cc in omega arith

unmetered : Machine → Bool
unmetered m = eqb m.meter 0

pub refuted : Refuted
unfolding has step_of contents_refusal written unmetered same locked_in pushed_in closed_in unlocked taken_of closed_of_word stray_of order_of entry_of goes state_to value_to
    exchanged unlocked_in idlers fresh_of refused accepted all in_limits record_fits idle_from broken_of contents_of begun stored acted_by turn_of_by ran run_by search_by
    schedule_by history_by acts passed_by own_acts_by waiting_from closed_by any_in held_by standing runs_from always busy_along
refuted =
    record {
      plain_push_drops = plain_push_drops;
      plain_force_drops = plain_force_drops;
      plain_another_in = plain_another_in;
      plain_another_out = plain_another_out;
      plain_own_out = plain_own_out;
      plain_peeks = plain_peeks;
      plain_full = plain_full;
      plain_empty = plain_empty;
      plain_close = plain_close;
      plain_len = plain_len;
      plain_room = plain_room;
      plain_two_pops = plain_two_pops;
      plain_goes_back = plain_goes_back;
      plain_lost = plain_lost;
      act_by_act = λ a. true≢false (sym (ap (λ (m : Machine). busy_at m 0) (a (fresh_of 2) [] 0 5 refl refl refl).0));
      whole_schedules = λ w. true≢false (ap (λ (r : Ran). busy_at r.machine 0) ((w 2 two (0 ∷ 5 ∷ [])).0 refl (readable, tt)));
      unbroken = true≢false;
      goes_out_unwritten =
          λ g. never_written _ 0 0 refl (g (acts_of (slipped unwritten) 2 (does 0 0 5 3 ++ does 0 2 0 2)) [] (event 0 (C3 0) (Idle (Popped 0))) refl 0 popped);
      goes_out_late =
          λ g. never_got _ 1 6 refl (g (acts_of (slipped reads_after_unlock) 2 (does 0 0 5 3 ++ does 1 2 0 2 ++ does 0 0 6 3)) [] (event 1 (C3 0) (Idle (Popped 6))) refl 6 popped);
      once_out =
          λ o.
          o (push₁ ++ write ∷ pushed ∷ takes ∷ read ∷ answer ∷ takes ∷ read ∷ []) [] answer refl 5 1 popped second_came
          (push₁ ++ write ∷ pushed ∷ takes ∷ read ∷ []) (takes ∷ read ∷ []) answer refl 5 popped first_came;
      reads_latest =
          λ r. let s = r (push₁ ++ write ∷ pushed ∷ takes ∷ read ∷ answer ∷ takes ∷ []) (answer ∷ []) read refl refl in nothing_stands _ s.0 s.1 refl s.2;
      reads_own =
          λ r.
          let s = r (acts_of (slipped displaces_its_own) 2 (does 0 0 5 3 ++ does 0 1 6 2)) (event 0 (B5 6) (Idle (Displaced 6)) ∷ []) (event 0 (B4 6) (B5 6)) refl refl in
          let six : 6 ≡ s.0 = eqb-true 6 s.0 (holds_got (B5 6) s.0 s.3) in
          not_latest _ 6 s.1 refl (subst (λ (v : ℕ). Latest (acts_of (slipped displaces_its_own) 2 (does 0 0 5 3 ++ does 0 1 6 2)) v s.1) (sym six) s.2.latest);
      reads_pop = λ r. let s = r 0 refl in nothing_stands (past pop_of_nothing) 0 s.0 refl s.1;
      reads_force = λ r. let s = r 0 refl in nothing_stands (past force_of_nothing) 0 s.0 refl s.1;
      takes_out =
          λ t. never_took _ 0 5 refl (t (push₁ ++ write ∷ pushed ∷ []) [] (event 0 (C1 (state 2)) (Idle (Popped 5))) refl 5 popped);
      one_hand_push = λ h. let q : ◌≡◌ {A = ℕ} 0 1 = h 0 1 refl refl in omega arith;
      one_hand_force = λ h. let q : ◌≡◌ {A = ℕ} 0 1 = h 0 1 refl refl in omega arith;
      one_hand_pop = λ h. let q : ◌≡◌ {A = ℕ} 0 1 = h 0 1 refl refl in omega arith;
      locked = λ l. true≢false (sym (l.1 (0, refl)));
      locked_still = λ l. let i = l.0 refl in nobody InHand (reached (one_push stays_locked)) (λ k. true≢false (sym k)) (λ k. true≢false (sym k)) (λ k. true≢false (sym k)) quiet i.0 i.1;
      locked_close = λ l. true≢false (sym (l.1 (0, refl)));
      pushed = λ p. let q : ◌≡◌ {A = ℕ} 0 1 = p in omega arith;
      pushed_close = λ p. let q : ◌≡◌ {A = ℕ} 0 1 = p in omega arith;
      closed = λ c. true≢false (sym c);
      plain = λ p. true≢false (sym (plain_runs _ _ p).0);
      contents = λ c. no_cons (c refl);
      answers = λ a. true≢false (a 1 (next pop_after_close) Empty (acting (slipped empty_unclosed) (reached pop_after_close) 1 refl refl) refl).1;
      decides_pop =
          λ d. true≢false (ap (λ (p : Place). (view_of p).busy) ((d.pop_empty 1 (state 2) (next pop_beside_pop) (acting (slipped pop_waits) (reached pop_beside_pop) 1 refl refl) refl).1 (refl, refl)));
      decides_push =
          λ d. true≢false (ap (λ (p : Place). (view_of p).busy) ((d.push_full 1 6 (next push_beside_pop)
          (acting (slipped push_waits) (reached push_beside_pop) 1 refl refl) refl).1 ((λ z. omega arith), refl)));
      decides_full =
          λ d. true≢false (sym (ap (λ (p : Place). (view_of p).busy) ((d.push_takes 1 6 (next (push_begun always_full))
          (acting (slipped always_full) (reached (push_begun always_full)) 1 refl refl) refl).1 refl)));
      means =
          λ m.
          let v = (m.full 1 6 (next (push_begun always_full)) (acting (slipped always_full) (reached (push_begun always_full)) 1 refl refl) refl).1 refl in
          nobody Popping (reached (push_begun always_full)) (λ k. true≢false (sym (popping_busy _ k))) (λ k. pushing k) (λ k. true≢false (sym (popping_busy _ k))) quiet v.0 v.2;
      lookers_len =
          λ l. let q : ◌≡◌ {A = ℕ} 0 1 = ap tell_at (l 1 (next len_beside_push) call.Len looks_len (acting (slipped len_unlocked) (reached len_beside_push) 1 refl refl) refl) in omega arith;
      lookers_empty =
          λ l. let q : ◌≡◌ {A = ℕ} 1 0 = ap tell_at (l 1 (next empty_after_close) call.IsEmpty looks_empty (acting (slipped empty_is_zero) (reached empty_after_close) 1 refl refl) refl) in omega arith;
      unchanged = λ r. true≢false (sym (ap unmetered (r.step (fresh_of 2) 8 0 (λ e. omega (arith, e)))));
      unchanged_buffer = λ r. no_cons (r.contents (fresh_of 0) (7 ∷ []) (λ e. omega (arith, e)));
      numbered = λ n. true≢false (sym (n.make 1));
      each_number = λ n. let q : ◌≡◌ {A = ℕ} 1 0 = ap (λ (l : List ℕ). get_or l 0 0) n.make in omega arith;
      refused_exactly = λ n. let q : ◌≡◌ {A = ℕ} 1 0 = n.make 1 in omega arith;
      list_first = λ r. true≢false (ap (λ (x : Ran). busy_at x.machine 0) (r.stops (fresh_of 2) (0 ∷ 5 ∷ []) 1 10 0 [] refl refl refl (readable, tt) refl));
      stays_unbroken = λ r. true≢false (r.step (machine_after (slipped close_adds) 2 (does 0 6 0 1 ++ does 0 6 0 0)) 8 0 refl);
      at_most = λ a. let q : 5 ≤ 4 = (a (C1 (state 0))).0 in omega arith;
      accepted = λ n. let q : ◌≡◌ {A = ℕ} 8 0 = n 1 refl (omega arith) in omega arith;
      alone_push =
          λ a. late (slipped push_waits) (reached push_on_full) (past push_on_full) 1 3 refl (a 1 refl (omega arith) (no_hand (reached push_on_full) 1 (λ e. refl) (λ e. absurd (e refl)) quiet));
      alone_force =
          λ a. late (slipped force_keeps_its_word) (reached force_on_full) (past force_on_full) 1 4 refl (a 1 refl (omega arith) (no_hand (reached force_on_full) 1 (λ e. refl) (λ e. absurd (e refl)) quiet));
      alone_pop =
          λ a. late (slipped pop_keeps_its_word) (reached pop_of_closed) (past pop_of_closed) 1 4 refl (a 1 refl (omega arith) (no_hand (reached pop_of_closed) 1 (λ e. refl) (λ e. absurd (e refl)) quiet));
      alone_locked =
          λ a. late (slipped stays_locked) (reached pop_after_push) (past pop_after_push) 1 4 refl (a 1 refl (omega arith) (no_hand (reached pop_after_push) 1 (λ e. refl) (λ e. absurd (e refl)) quiet));
      alone_early =
          λ a.
          let q : ◌≡◌ {A = ℕ} 1 0 =
          ap tell_in (at_once (slipped always_full) (reached (push_begun always_full)) (past (push_begun always_full)) 1 3 answer_in (Full 6) refl refl (λ b. refl) refl
          (a 1 refl (omega arith) (no_hand (reached (push_begun always_full)) 1 (λ e. refl) (λ e. absurd (e refl)) quiet))) in
          omega arith;
      in_the_way = λ i. no_hand (reached push_on_full) 1 (λ e. refl) (λ e. absurd (e refl)) quiet (i 1 (omega arith) refl);
      lets_go = λ l. holds_on (slipped never_lets_go) (reached pop_in_hand) 0 2 (acts 0 2) refl (l 0 (acts 0 2) refl (let q : 2 ≤ 2 = omega arith in q));
      as_run = λ p. true≢false (ap (λ (m : Machine). busy_at m 0) (p (0 ∷ 5 ∷ []) refl));
    }
