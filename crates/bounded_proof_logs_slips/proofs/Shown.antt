-- Each row is shown by the log of its schedule: by computing.
use Prim.Native.Nat.{ℕ, zero, suc, ◌<◌}
use native.Mathlib.Omega.{arith}
use mathlib.Core.Bool.{Bool, true, false, cond, true≢false}
use mathlib.Core.List.{List, [], ◌∷◌}
use mathlib.Core.Path.{◌≡◌, refl, sym, ap, ◌∙◌}
use lib.Dec.{eqb, ltb}
use borrow.Author.Tests.{ltb-true, ltb-false, eqb-true}
use Rattle.queue_entries.specs.Schedules.{run_by, history_by}
use Rattle.queue_entries.specs.Entries.{stray_of, order_of, entry_of}
use Rattle.queue_entries.specs.Limits.{all}
use Rattle.queue_entries.specs.declared.Call.{Call}
use Rattle.queue_entries.specs.declared.Call.TheVariants as call
use Rattle.queue_plain.specs.Story.{items_of, known_from, followed_from}
use Rattle.queue_logs.specs.Logs.{Log, Seen, NeverShown, total, weigh, only, any, handed_in, says_empty, push_full_said, push_closed_said, is_closed_no, too_many, too_few, pushed_into, is_full_no}
use Rattle.bounded_words.specs.Words.{doubled, mark_of, marked_of, unmarked_of, plus, minus, with_mark, next_of, same, one_past, lap_behind, lap_behind_one_past}
use Rattle.bounded_acts.specs.Acts.{forced_tail, goes, losing, exchange_of, after_tail, tail_to, head_to, stamp_to, value_to, count_of}
use Rattle.bounded_machine.specs.Machine.{empty_slots, stamped, fresh_slots, idlers, fresh_with, refused, accepted}
use Rattle.bounded_machine.specs.Turn.{record_after, begun, stored, acted_by, turn_of_by}
use Rattle.bounded_machine.specs.Run.{ran}
use Rattle.bounded_demands.specs.Notions.{acts, AllowedWith}
use Rattle.bounded_slips.specs.Refuted.{Trial}
use Rattle.bounded_proof_logs_slips.specs.Shown.{trial_log, pop_of_none, pop_again, items_mixed, empty_beside_one, full_beside_room, closed_by_nobody, open_again}
use Rattle.bounded_proof_logs_slips.specs.Shown.{count_too_many, count_too_few, room_of_full, full_denied, empty_denied, RowsShown, Unshown, RefutedLogs}

-- what is so of every place below n
unfoldable all_below : ℕ → (ℕ → Bool) → Bool
all_below zero t = true
all_below (suc n) t = cond (t n) (all_below n t) false

below : (n : ℕ) (t : ℕ → Bool) → all_below n t ≡ true → (x : ℕ) → x < n → t x ≡ true
unfolding all_below
below zero t h x l = absurd (omega (arith, l))
below (suc n) t h x l = go (λ r less. below n t r x less) (t n) refl h (ltb x n) refl
  where
    go : (all_below n t ≡ true → x < n → t x ≡ true) → (b : Bool) → t n ≡ b → cond b (all_below n t) false ≡ true → (s : Bool) → ltb x n ≡ s → t x ≡ true
    go more true e h true q = more h (ltb-true x n q)
    go more true e h false q = let z : x ≡ n = omega (arith, l, ltb-false x n q) in ap t z ∙ e
    go more false e h s q = absurd (true≢false (sym h))

is_close : List Call → Bool
is_close [] = false
is_close (call.Push x ∷ l) = false
is_close (call.ForcePush x ∷ l) = false
is_close (call.Pop ∷ l) = false
is_close (call.Len ∷ l) = false
is_close (call.IsEmpty ∷ l) = false
is_close (call.IsFull ∷ l) = false
is_close (call.Close ∷ l) = true
is_close (call.IsClosed ∷ l) = false

pub rows_shown : RowsShown
unfolding forced_tail doubled mark_of marked_of unmarked_of plus minus with_mark next_of same one_past lap_behind lap_behind_one_past stray_of order_of entry_of goes losing
    exchange_of after_tail tail_to head_to stamp_to value_to count_of empty_slots stamped fresh_slots idlers fresh_with refused accepted all record_after begun stored
    acted_by turn_of_by ran run_by history_by acts items_of known_from followed_from total weigh all_below is_close
rows_shown =
    record {
      from_nowhere =
          record {
            there = omega arith;
            out = refl;
            later =
                λ x i ne h.
                let none : weigh (only 0) (handed_in ((trial_log pop_of_none).line x)) ≡ 0 =
                eqb-true (weigh (only 0) (handed_in ((trial_log pop_of_none).line x))) 0 (below 4 (λ z. eqb (weigh (only 0) (handed_in ((trial_log pop_of_none).line z))) 0) refl x i) in
                absurd (omega (arith, h, none));
          };
      twice = omega arith;
      overtaken =
          record {
            there = (omega arith, omega arith, omega arith, omega arith);
            a_in = refl;
            b_in = refl;
            a_out = refl;
            b_out = refl;
            a_once = refl;
            b_once = refl;
            in_order = refl;
            out_of_order = refl;
          };
      empty_beside = ((λ v. omega arith), says_empty (omega arith, refl, refl), omega arith);
      full_beside = (push_full_said 8 (omega arith, refl, refl), omega arith);
      closed_never =
          record {
            says = push_closed_said 5 (omega arith, refl, refl);
            later =
                λ x i ne c.
                absurd (true≢false (sym (below 10 (λ z. cond (is_close ((trial_log closed_by_nobody).line z).calls) false true) refl x i) ∙ ap (λ (l : List Call). cond (is_close l) false true) c));
          };
      open_after = record { there = omega arith; closes = refl; earlier = refl; says = is_closed_no (omega arith, refl, refl) };
      too_many = too_many (omega arith, refl, refl) (omega arith);
      too_few = too_few (omega arith, refl, refl) (omega arith);
      room_beside = (pushed_into 6 (omega arith, refl, refl), omega arith);
      full_no = (is_full_no (omega arith, refl, refl), omega arith);
      some_beside = ((omega arith, refl, refl), omega arith);
    }

-- a log is seen as it is
as_it_is : (l : Log) → Seen l l
as_it_is l = record { size = refl; calls = λ x. refl; reply = λ x. refl; order = λ x y h. h }

module _ (t : Trial) (some : 0 < t.capacity) (few : t.capacity < 4) (first : 0 < t.edition) (last : t.edition < 3) where
  allowed : AllowedWith 16 t.capacity 2 t.edition
  allowed = record { slot_some = some; slot_most = omega arith; worker_some = omega arith; worker_most = omega arith; edition_some = first; edition_most = omega arith }

  -- where one row is shown
  refuted : (NeverShown t.capacity (eqb t.edition 2) true (trial_log t) → ⊥) → Unshown t
  refuted shown none = shown (none t.capacity 2 t.edition allowed t.schedule (trial_log t) (as_it_is (trial_log t)))

pub refuted_logs : RefutedLogs
refuted_logs =
    let r = rows_shown in
    record {
      hands_out_again_lem = refuted pop_of_none (omega arith) (omega arith) (omega arith) (omega arith) (λ n. n.from_nowhere 0 0 r.from_nowhere);
      hands_out_twice = refuted pop_again (omega arith) (omega arith) (omega arith) (omega arith) (λ n. n.twice 5 r.twice);
      another_item_lem = refuted items_mixed (omega arith) (omega arith) (omega arith) (omega arith) (λ n. n.overtaken 7 8 0 12 24 18 r.overtaken);
      empty_unseen_lem = refuted empty_beside_one (omega arith) (omega arith) (omega arith) (omega arith) (λ n. n.empty_beside 10 any r.empty_beside);
      full_unseen_lem = refuted full_beside_room (omega arith) (omega arith) (omega arith) (omega arith) (λ n. n.full_beside 22 r.full_beside);
      closed_unseen_lem = refuted closed_by_nobody (omega arith) (omega arith) (omega arith) (omega arith) (λ n. n.closed_never 0 r.closed_never);
      force_forgets_lem = refuted open_again (omega arith) (omega arith) (omega arith) (omega arith) (λ n. n.open_after refl 9 15 r.open_after);
      len_looks_once_lem = refuted count_too_many (omega arith) (omega arith) (omega arith) (omega arith) (λ n. n.wrong_count 0 2 r.too_many);
      tail_unmoved_lem = refuted count_too_few (omega arith) (omega arith) (omega arith) (omega arith) (λ n. n.wrong_count 6 0 r.too_few);
      push_untested = refuted room_of_full (omega arith) (omega arith) (omega arith) (omega arith) (λ n. n.room_beside 6 r.room_beside);
      full_says_no_lem = refuted full_denied (omega arith) (omega arith) (omega arith) (omega arith) (λ n. n.room_beside 6 r.full_no);
      empty_says_no_lem = refuted empty_denied (omega arith) (omega arith) (omega arith) (omega arith) (λ n. n.some_beside refl 0 r.some_beside);
    }
