-- Each clause by itself is false of its table: its schedule, computed.
use Prim.Native.Nat.{ℕ, ◌<◌}
use native.Mathlib.Omega.{arith}
use mathlib.Core.Bool.{true, true≢false}
use mathlib.Core.List.{List, [], ◌∷◌, ◌++◌}
use mathlib.Core.Path.{◌≡◌, refl, sym, ap, ◌∙◌}
use lib.ListN.{length, get_or, take, drop}
use Rattle.queue_entries.specs.Schedules.{run_by, history_by}
use Rattle.queue_entries.specs.Entries.{stray_of, order_of, entry_of}
use Rattle.queue_entries.specs.Limits.{all}
use Rattle.queue_plain.specs.Story.{Does, known_from}
use Rattle.queue_plain.specs.Story.{items_of as items_begun}
use Rattle.bounded_words.specs.declared.Stamp.{Stamp}
use Rattle.bounded_words.specs.Words.{stamp, doubled, mark_of, marked_of, unmarked_of, plus, minus, with_mark, next_of, same, one_past, lap_behind, lap_behind_one_past}
use Rattle.bounded_places.specs.declared.Held.{Held}
use Rattle.bounded_places.specs.declared.Held.TheVariants as held
use Rattle.bounded_places.specs.declared.Answer.TheVariants.{Pushed, Full, Popped, Yes, No}
use Rattle.bounded_places.specs.Places.{view_of}
use Rattle.bounded_acts.specs.Acts.{forced_tail, goes, losing, exchange_of, after_tail, tail_to, head_to, stamp_to, value_to, count_of}
use Rattle.bounded_machine.specs.declared.Event.{Event}
use Rattle.bounded_machine.specs.Machine.{empty_slots, stamped, fresh_slots, idlers, fresh_with, refused, accepted}
use Rattle.bounded_machine.specs.Turn.{record_after, begun, stored, acted_by, turn_of_by}
use Rattle.bounded_machine.specs.Run.{ran}
use Rattle.bounded_demands.specs.Notions.{Allowed, acts}
use Rattle.bounded_demands.specs.Stories.{Story, story_of, moment_from}
use Rattle.bounded_proof_plain.proofs.BetweenClaims.{is_act, act_of, act_at_lem}
use Rattle.bounded_slips.specs.Slips.{slipped}
use Rattle.bounded_slips.specs.Refuted.{Trial}
use Rattle.bounded_slips.specs.RefutedPlain.{push_drops, pop_of_none, force_of_nothing, closed_twice}
use Rattle.bounded_slips.specs.Clauses.{TheClauses, RefutedClauses, push_of_another, push_beyond, close_of_open, push_into_closed, pop_of_two, pop_after_close}
use Rattle.bounded_slips.proofs.Refuted.{one_two}

pub the_clauses : TheClauses
the_clauses =
    record {
      meant = λ capacity edition earlier act a. (λ o. (o.put, o.took, o.back, o.closed), λ o. record { put = o.0; took = o.1; back = o.2; closed = o.3 });
      changes = λ edition q act. (λ o. (o.takes, o.puts, o.while_open, o.full, o.closes), λ o. record { takes = o.0; puts = o.1; while_open = o.2; full = o.3; closes = o.4 });
    }

-- a trial's story, and its element k, which is an act
abbrev story_in : Trial → Story
story_in t = story_of (slipped t.slip) t.capacity 2 1 t.schedule

abbrev before : Trial → ℕ → Story
before t k = take k (story_in t)

abbrev act_at : Trial → ℕ → Event
act_at t k = act_of (drop k (story_in t))

abbrev rest : Trial → ℕ → Story
rest t k = drop 1 (drop k (story_in t))

at : (t : Trial) (k : ℕ) → is_act (drop k (story_in t)) ≡ true → story_in t ≡ before t k ++ Does (act_at t k) ∷ rest t k
at t k h = act_at_lem (story_in t) k h

abbrev word_in : Held → Stamp
word_in held.Nothing = stamp 0
word_in (held.End w) = w
word_in (held.Tail t) = t
word_in (held.Both t h) = t

two_two : Allowed 2 2 1
two_two = record { slot_some = omega arith; slot_most = omega arith; worker_some = omega arith; worker_most = omega arith; edition_some = omega arith; edition_most = omega arith }

pub refuted_clauses : RefutedClauses
unfolding forced_tail doubled mark_of marked_of unmarked_of plus minus with_mark next_of same one_past lap_behind lap_behind_one_past stray_of order_of entry_of goes losing
    exchange_of after_tail tail_to head_to stamp_to value_to count_of empty_slots stamped fresh_slots idlers fresh_with refused accepted all record_after begun stored
    acted_by turn_of_by ran run_by history_by acts items_begun known_from moment_from
refuted_clauses =
    record {
      -- nothing was put in, and it says Pushed; nothing taken out, and it says Popped
      put = λ r. let q : ◌≡◌ {A = ℕ} 0 1 = ap length (r 2 2 1 two_two push_drops.schedule (before push_drops 9) (rest push_drops 9) (act_at push_drops 9) Pushed
          (at push_drops 9 refl) refl) in omega arith;
      took = λ r. let q : ◌≡◌ {A = ℕ} 0 1 = ap length (r 1 2 1 one_two pop_of_none.schedule (before pop_of_none 3) (rest pop_of_none 3) (act_at pop_of_none 3)
          (Popped 0) (at pop_of_none 3 refl) refl) in omega arith;
      -- 6 came, and 7 is given back
      back =
          λ r. let q : ◌≡◌ {A = ℕ} 6 7 = ap (λ (l : List ℕ). get_or l 0 0)
          (r 1 2 1 one_two push_of_another.schedule (before push_of_another 9) (rest push_of_another 9) (act_at push_of_another 9) (Full 7)
          (at push_of_another 9 refl) refl 7 refl) in omega arith;
      closed = λ r. true≢false (sym (r 1 2 1 one_two close_of_open.schedule (before close_of_open 1) (rest close_of_open 1) (act_at close_of_open 1) No (at close_of_open 1 refl) refl refl));
      -- nothing waits; one waits, and there is room for one; it is closed; nothing waits, and it is not full; it is closed
      takes = λ r. let q : 0 < 0 = r 1 2 1 one_two force_of_nothing.schedule (before force_of_nothing 15) (rest force_of_nothing 15) (act_at force_of_nothing 15)
          (at force_of_nothing 15 refl) refl in omega (arith, q);
      puts = λ r. let q : 1 < 1 = r 1 2 1 one_two push_beyond.schedule (before push_beyond 9) (rest push_beyond 9) (act_at push_beyond 9) (at push_beyond 9 refl) refl in omega (arith, q);
      while_open = λ r. true≢false (r 1 2 1 one_two push_into_closed.schedule (before push_into_closed 5) (rest push_into_closed 5) (act_at push_into_closed 5) (at push_into_closed 5 refl) refl refl);
      full =
          λ r.
          let q : ◌≡◌ {A = ℕ} 0 1 = r 1 2 1 one_two force_of_nothing.schedule (before force_of_nothing 15) (rest force_of_nothing 15) (act_at force_of_nothing 15)
          (at force_of_nothing 15 refl) (word_in (view_of (act_at force_of_nothing 15).after).held) 6 refl in
          omega arith;
      closes = λ r. true≢false (r 1 2 1 one_two closed_twice.schedule (before closed_twice 3) (rest closed_twice 3) (act_at closed_twice 3) (at closed_twice 3 refl) refl);
      -- 5 and 6 taken out by one pop
      hands = λ r. let q : ◌≡◌ {A = ℕ} 1 0 = ap length (r 2 2 1 two_two pop_of_two.schedule 1 5 (6 ∷ []) refl refl).0 in omega arith;
      -- the close has moment 1, the pop that began after it 0
      call_order =
          λ r.
          let between : Story = take 3 (rest pop_after_close 1) in
          let second : Event = act_of (drop 3 (rest pop_after_close 1)) in
          let is : story_in pop_after_close ≡ before pop_after_close 1 ++ Does (act_at pop_after_close 1) ∷ between ++ Does second ∷ drop 1 (drop 3 (rest pop_after_close 1)) =
          at pop_after_close 1 refl ∙ ap (λ (l : Story). before pop_after_close 1 ++ Does (act_at pop_after_close 1) ∷ l) (act_at_lem (rest pop_after_close 1) 3 refl) in
          let q : 1 < 0 = r 1 2 1 one_two pop_after_close.schedule (before pop_after_close 1) between (drop 1 (drop 3 (rest pop_after_close 1)))
          (act_at pop_after_close 1) second Yes (Popped 0) 1 0 is refl refl (omega arith) refl refl in
          omega (arith, q);
    }
