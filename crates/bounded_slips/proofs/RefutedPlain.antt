-- Each table that is no plain queue's, refuted by computing its schedule.
use Prim.Native.Nat.{ℕ, ◌<◌}
use native.Mathlib.Omega.{arith}
use mathlib.Core.Bool.{Bool, true, false, cond, true≢false}
use mathlib.Core.List.{List, [], ◌∷◌, ◌++◌, append_assoc}
use mathlib.Core.Path.{◌≡◌, refl, sym, ap, ◌∙◌}
use lib.Dec.{eqb, ltb}
use lib.ListN.{length, get_or}
use borrow.Author.Tests.{eq-eqb, lt-ltb}
use Rattle.queue_entries.specs.Schedules.{run_by, history_by}
use Rattle.queue_entries.specs.Entries.{stray_of, order_of, entry_of}
use Rattle.queue_entries.specs.Limits.{all}
use Rattle.queue_entries.specs.declared.Call.{Call}
use Rattle.queue_plain.specs.Plain.{Reply, Queue, answer_of}
use Rattle.queue_plain.specs.Plain as plain
use Rattle.queue_plain.specs.Story.{Begun, Does, Doing, known_from}
use Rattle.queue_plain.specs.Story.{items_of as items_begun}
use Rattle.bounded_words.specs.Words.{doubled, mark_of, marked_of, unmarked_of, plus, minus, with_mark, next_of, same, one_past, lap_behind, lap_behind_one_past}
use Rattle.bounded_places.specs.declared.Answer.{Answer}
use Rattle.bounded_places.specs.declared.Place.{Place}
use Rattle.bounded_places.specs.declared.Place.TheVariants.{Idle}
use Rattle.bounded_places.specs.Places.{view_of}
use Rattle.bounded_acts.specs.Acts.{forced_tail, goes, losing, exchange_of, after_tail, tail_to, head_to, stamp_to, value_to, count_of}
use Rattle.bounded_machine.specs.declared.Event.{Event}
use Rattle.bounded_machine.specs.Machine.{empty_slots, stamped, fresh_slots, idlers, fresh_with, refused, accepted}
use Rattle.bounded_machine.specs.Turn.{record_after, begun, stored, acted_by, turn_of_by}
use Rattle.bounded_machine.specs.Run.{ran}
use Rattle.bounded_demands.specs.Notions.{acts, AllowedWith}
use Rattle.bounded_demands.specs.Stories.{Story, story_of, known, queue_at, change_of, reply_of, put_by, Moment, At, AfterNextTail, AfterNextHead, moment_from, moment_of}
use Rattle.bounded_demands.specs.Demands.{Answered, Meant, Changes}
use Rattle.bounded_proof_each_act.proofs.Sight.{look, answer_in}
use Rattle.bounded_proof_demand2.proofs.Pictured.{idle_is}
use Rattle.bounded_slips.specs.Slips.{slipped}
use Rattle.bounded_slips.specs.Refuted.{Trial}
use Rattle.bounded_slips.specs.RefutedPlain.{Unplain, RefutedPlain, push_changes, force_changes, push_drops, push_unmarks, push_closes, push_overwrites}
use Rattle.bounded_slips.specs.RefutedPlain.{push_beside_pop, push_of_nothing, pop_too_early, pop_of_displaced, force_of_nothing, close_forgotten, close_kept}
use Rattle.bounded_slips.specs.RefutedPlain.{pop_beside_push, pop_of_closed, pop_of_shut, pop_again, len_beside, never_empty, never_full, empty_denied, full_denied}
use Rattle.bounded_slips.specs.RefutedPlain.{closed_twice, closed_denied}

-- a reply as two numbers: which it is, and what it holds
abbrev kind_of : Reply → ℕ
kind_of plain.Pushed = 0
kind_of plain.Empty = 1
kind_of plain.EmptyAndClosed = 2
kind_of plain.Yes = 3
kind_of plain.No = 4
kind_of (plain.Full x) = 5
kind_of (plain.Closed x) = 6
kind_of (plain.Displaced x) = 7
kind_of (plain.Popped x) = 8
kind_of (plain.Count x) = 9

abbrev number_in : Reply → ℕ
number_in plain.Pushed = 0
number_in plain.Empty = 0
number_in plain.EmptyAndClosed = 0
number_in plain.Yes = 0
number_in plain.No = 0
number_in (plain.Full x) = x
number_in (plain.Closed x) = x
number_in (plain.Displaced x) = x
number_in (plain.Popped x) = x
number_in (plain.Count x) = x

unfoldable replies_are : List Reply → List Reply → Bool
replies_are [] [] = true
replies_are [] (b ∷ l) = false
replies_are (a ∷ k) [] = false
replies_are (a ∷ k) (b ∷ l) = cond (eqb (kind_of a) (kind_of b)) (cond (eqb (number_in a) (number_in b)) (replies_are k l) false) false

replies_same : (k : List Reply) → replies_are k k ≡ true
unfolding replies_are
replies_same [] = refl
replies_same (a ∷ k) = rw (eq-eqb (kind_of a) (kind_of a) refl, eq-eqb (number_in a) (number_in a) refl) (replies_same k)

-- the reply of the plain queue at the moment named, if it is inside the call, to the call that the worker is in
unfoldable asked : Queue → List Call → List Reply
asked q [] = []
asked q (c ∷ others) = answer_of q c ∷ []

abbrev asked_at : ℕ → ℕ → Story → Doing → Moment → List Reply
asked_at capacity edition earlier d (At n) = cond (ltb d.begun n) (asked (queue_at capacity edition n earlier) d.calls) []
asked_at capacity edition earlier d AfterNextTail = []
asked_at capacity edition earlier d AfterNextHead = []

unfoldable said : ℕ → ℕ → Story → Event → List Reply
said capacity edition earlier act = asked_at capacity edition earlier ((known capacity edition earlier).each act.worker) (moment_of capacity edition act.worker (earlier ++ Does act ∷ []))

said_is : (capacity edition : ℕ) (earlier : Story) (act : Event) (a : Answer) → Answered capacity edition earlier act a → said capacity edition earlier act ≡ reply_of a
unfolding said asked
said_is capacity edition earlier act a o = rw (o.named, lt-ltb _ _ o.begun, o.its) o.plain

-- ---- the statement as a test of one story: each answer is the plain queue's at its moment, what it puts in is as many as it says, and nothing is taken out of an empty queue

abbrev answer_at : Event → Answer
answer_at e = answer_in (look 1 e.after)

unfoldable rightly : ℕ → ℕ → Story → Event → Bool
rightly capacity edition past e =
    cond (view_of e.after).busy
    (cond (change_of edition e).takes (ltb 0 (length (known capacity edition past).queue.items)) true)
    (cond (replies_are (said capacity edition past e) (reply_of (answer_at e)))
    (eqb (length ((known capacity edition (past ++ Does e ∷ [])).each e.worker).puts) (length (put_by (answer_at e) (items_begun ((known capacity edition past).each e.worker).calls)))) false)

unfoldable checked_from : ℕ → ℕ → Story → Story → Bool
checked_from capacity edition past [] = true
checked_from capacity edition past (Begun w c ∷ s) = checked_from capacity edition (past ++ Begun w c ∷ []) s
checked_from capacity edition past (Does e ∷ s) = cond (rightly capacity edition past e) (checked_from capacity edition (past ++ Does e ∷ []) s) false

module _ (capacity edition : ℕ) (whole : Story)
    (answers : (earlier later : Story) (act : Event) (a : Answer) → whole ≡ earlier ++ Does act ∷ later → act.after ≡ Idle a
    → Answered capacity edition earlier act a × Meant capacity edition earlier act a)
    (changes : (earlier later : Story) (act : Event) → whole ≡ earlier ++ Does act ∷ later → Changes edition (known capacity edition earlier).queue act) where
  right : (past later : Story) (e : Event) → whole ≡ past ++ Does e ∷ later → rightly capacity edition past e ≡ true
  unfolding rightly
  right past later e is = go (view_of e.after).busy refl
    where
      taken : (b : Bool) → (change_of edition e).takes ≡ b → cond b (ltb 0 (length (known capacity edition past).queue.items)) true ≡ true
      taken true h = lt-ltb 0 _ ((changes past later e is).takes h)
      taken false h = refl

      go : (b : Bool) → (view_of e.after).busy ≡ b
          → cond b (cond (change_of edition e).takes (ltb 0 (length (known capacity edition past).queue.items)) true)
          (cond (replies_are (said capacity edition past e) (reply_of (answer_at e)))
          (eqb (length ((known capacity edition (past ++ Does e ∷ [])).each e.worker).puts)
          (length (put_by (answer_at e) (items_begun ((known capacity edition past).each e.worker).calls)))) false) ≡ true
      go true h = taken (change_of edition e).takes refl
      go false h =
          let idle = idle_is e.after h in
          let o = answers past later e idle.0 is idle.1 in
          let which : answer_at e ≡ idle.0 = ap (λ (p : Place). answer_in (look 1 p)) idle.1 in
          rw (which, said_is capacity edition past e idle.0 o.0, replies_same (reply_of idle.0)) (eq-eqb _ _ (ap length o.1.put))

  checked : (s past : Story) → whole ≡ past ++ s → checked_from capacity edition past s ≡ true
  unfolding checked_from
  checked [] past is = refl
  checked (Begun w c ∷ s) past is = checked s (past ++ Begun w c ∷ []) (is ∙ sym (append_assoc past (Begun w c ∷ []) s))
  checked (Does e ∷ s) past is = rw (right past s e is) (checked s (past ++ Does e ∷ []) (is ∙ sym (append_assoc past (Does e ∷ []) s)))

module _ (t : Trial) (some : 0 < t.capacity) (few : t.capacity < 4) (first : 0 < t.edition) (last : t.edition < 3) where
  allowed : AllowedWith 16 t.capacity 2 t.edition
  allowed = record { slot_some = some; slot_most = omega arith; worker_some = omega arith; worker_most = omega arith; edition_some = first; edition_most = omega arith }

  wrong : checked_from t.capacity t.edition [] (story_of (slipped t.slip) t.capacity 2 t.edition t.schedule) ≡ false → Unplain t
  wrong nope p =
      let o = p t.capacity 2 t.edition allowed t.schedule in
      true≢false (sym (checked t.capacity t.edition (story_of (slipped t.slip) t.capacity 2 t.edition t.schedule) o.answers o.changes _ [] refl) ∙ nope)

pub refuted_plain : RefutedPlain
unfolding forced_tail doubled mark_of marked_of unmarked_of plus minus with_mark next_of same one_past lap_behind lap_behind_one_past stray_of order_of entry_of goes losing
    exchange_of after_tail tail_to head_to stamp_to value_to count_of empty_slots stamped fresh_slots idlers fresh_with refused accepted all record_after begun stored
    acted_by turn_of_by ran run_by history_by acts items_begun known_from moment_from replies_are asked said rightly checked_from
refuted_plain =
    record {
      -- at P4 and F7 the worker has another item than it began with
      another_item_lem =
          λ p. let q : ◌≡◌ {A = ℕ} 5 6 = ap (λ (l : List ℕ). get_or l 0 0)
          ((p 1 2 1 (allowed push_changes (omega arith) (omega arith) (omega arith) (omega arith)) push_changes.schedule).item_kept 0 6 refl) in
          omega arith;
      another_forced_lem =
          λ p. let q : ◌≡◌ {A = ℕ} 6 7 = ap (λ (l : List ℕ). get_or l 0 0)
          ((p 1 2 1 (allowed force_changes (omega arith) (omega arith) (omega arith) (omega arith)) force_changes.schedule).item_kept 0 7 refl) in
          omega arith;
      lost_says_pushed_lem = wrong push_drops (omega arith) (omega arith) (omega arith) (omega arith) refl;
      force_uncompared_lem = wrong force_of_nothing (omega arith) (omega arith) (omega arith) (omega arith) refl;
      lost_drops_the_mark_lem = wrong push_unmarks (omega arith) (omega arith) (omega arith) (omega arith) refl;
      closed_unseen_lem = wrong push_closes (omega arith) (omega arith) (omega arith) (omega arith) refl;
      push_untested = wrong push_overwrites (omega arith) (omega arith) (omega arith) (omega arith) refl;
      full_unseen_lem = wrong push_beside_pop (omega arith) (omega arith) (omega arith) (omega arith) refl;
      unwritten_item = wrong push_of_nothing (omega arith) (omega arith) (omega arith) (omega arith) refl;
      written_late = wrong pop_too_early (omega arith) (omega arith) (omega arith) (omega arith) refl;
      stamp_before_value_lem = wrong pop_of_displaced (omega arith) (omega arith) (omega arith) (omega arith) refl;
      force_forgets_lem = wrong close_forgotten (omega arith) (omega arith) (omega arith) (omega arith) refl;
      force_keeps_lem = wrong close_kept (omega arith) (omega arith) (omega arith) (omega arith) refl;
      empty_unseen_lem = wrong pop_beside_push (omega arith) (omega arith) (omega arith) (omega arith) refl;
      empty_of_closed_lem = wrong pop_of_closed (omega arith) (omega arith) (omega arith) (omega arith) refl;
      closed_too_soon_lem = wrong pop_of_shut (omega arith) (omega arith) (omega arith) (omega arith) refl;
      hands_out_again_lem = wrong pop_again (omega arith) (omega arith) (omega arith) (omega arith) refl;
      len_looks_once_lem = wrong len_beside (omega arith) (omega arith) (omega arith) (omega arith) refl;
      empty_tail_first_lem = wrong never_empty (omega arith) (omega arith) (omega arith) (omega arith) refl;
      full_head_first_lem = wrong never_full (omega arith) (omega arith) (omega arith) (omega arith) refl;
      empty_says_no_lem = wrong empty_denied (omega arith) (omega arith) (omega arith) (omega arith) refl;
      full_says_no_lem = wrong full_denied (omega arith) (omega arith) (omega arith) (omega arith) refl;
      close_says_yes_lem = wrong closed_twice (omega arith) (omega arith) (omega arith) (omega arith) refl;
      closed_says_no_lem = wrong closed_denied (omega arith) (omega arith) (omega arith) (omega arith) refl;
    }
