-- Every run of the one-slot queue is a run of a plain queue of capacity 1, proved.
use Prim.Native.Nat.{ℕ, ◌≤◌, ◌<◌}
use native.Mathlib.Omega.{arith}
use mathlib.Core.Path.{◌≡◌, refl, sym, ap, ◌∙◌, subst}
use mathlib.Core.Bool.{Bool, true, false, cond, true≢false}
use mathlib.Core.List.{List, [], ◌∷◌, ◌++◌, append_assoc}
use lib.ListN.{length}
use Rattle.queue_entries.specs.declared.Call.TheVariants as call
use Rattle.queue_entries.specs.Schedules.{history_by}
use Rattle.queue_entries.specs.Entries.{stray_of, order_of, entry_of}
use Rattle.queue_schedules.specs.Alone.{acts}
use Rattle.queue_schedules.proofs.Histories.{entries_lead}
use Rattle.queue_schedules.proofs.Splits.{cons_rest, no_cons, no_split}
use Rattle.queue_plain.specs.Story.{Begun, Does, elements_by, acts_in, items_of, known_from, followed_from}
use Rattle.queue_plain.proofs.Stories.{acts_story, in_order}
use Rattle.queue_plain.proofs.Answers.{none_of}
use Rattle.single_words.specs.Words.{state, same, locked_in, pushed_in, closed_in, unlocked, taken_of}
use Rattle.single_places.specs.declared.Answer.{Answer}
use Rattle.single_places.specs.declared.Answer.TheVariants.{Pushed, Full}
use Rattle.single_places.specs.declared.Place.{Place}
use Rattle.single_places.specs.declared.Place.TheVariants.{Idle, A1, A2, A3, B1, B2, B3, B4, B5, C1, C2, C3, Len1, Empty1, Full1, Close1, IsClosed1}
use Rattle.single_places.specs.Places.{view_of}
use Rattle.single_acts.specs.Acts.{goes, state_to, value_to, exchanged, unlocked_in}
use Rattle.single_machine.specs.declared.Machine.{Machine}
use Rattle.single_machine.specs.declared.Did.{Did}
use Rattle.single_machine.specs.declared.Event.{Event}
use Rattle.single_machine.specs.Machine.{idlers, fresh_of, refused, accepted}
use Rattle.single_machine.specs.Turn.{begun, stored, acted_by, turn_of, turn_of_by}
use Rattle.single_machine.specs.History.{event, events_of}
use Rattle.single_machine.proofs.Turns.{single_queue}
use Rattle.single_demands.specs.Notions.{source, Allowed, machine_after, InHand, Popping, popping_c2, popping_c3, waiting_from, closed_by}
use Rattle.single_demands.specs.Stories.{Story, story_of, known, change_of, actor, moment_of}
use Rattle.single_demands.specs.Demands.{RoomOfPop, PlainThroughout, AnswersPlain, RoomNeeded}
use Rattle.single_proof_demand2.proofs.Words.{locked_of, pushed_of}
use Rattle.single_proof_demand2.proofs.Effects.{hand_of_worker, fills, holding}
use Rattle.single_proof_demand2.proofs.Turns.{turned, stood}
use Rattle.single_proof_demand2.proofs.Reached.{fresh_stood, fresh_reached}
use Rattle.single_proof_demand2.proofs.Hands.{contents_wait, pop_in_progress}
use Rattle.single_proof_plain.proofs.Work.{Due}
use Rattle.single_proof_plain.proofs.Slot.{item_of_lem, room_some}
use Rattle.single_proof_plain.proofs.Told.{Told, Bits, bits, told_kept}

-- ---- what a call under way has taken out

module _ (st : Story) (v w : ℕ) where
  abbrev Taken : Place → Type 0
  Taken p = (u : ℕ) (more : List ℕ) → ((known st).each w).takes ≡ u ∷ more → (more ≡ []) × InHand p

  nothing : (p : Place) → ((known st).each w).takes ≡ [] → Taken p
  nothing p none u more e = absurd (no_cons (sym none ∙ e))

  one : (p : Place) (x : ℕ) → InHand p → ((known st).each w).takes ≡ x ∷ [] → Taken p
  one p x hand is u more e = (sym (cons_rest (sym is ∙ e)), hand)

  hand_of : (p : Place) → (view_of p).busy ≡ true → Due st v w p → Taken p
  hand_of (Idle a) busy o = absurd (true≢false (sym busy))
  hand_of (A1 x) busy o = nothing (A1 x) o.takes
  hand_of (A2 x) busy o = nothing (A2 x) o.work.takes
  hand_of A3 busy o = nothing A3 o.1.work.takes
  hand_of (B1 e x) busy o = nothing (B1 e x) o.takes
  hand_of (B2 x) busy o = nothing (B2 x) o.work.takes
  hand_of B3 busy o = nothing B3 o.1.work.takes
  hand_of (B4 x) busy o = one (B4 x) v refl o.work.takes
  hand_of (B5 old) busy o = one (B5 old) old refl o.1.work.takes
  hand_of (C1 e) busy o = nothing (C1 e) o.takes
  hand_of C2 busy o = one C2 v refl o.work.takes
  hand_of (C3 u) busy o = one (C3 u) u refl o.work.takes
  hand_of Len1 busy o = nothing Len1 o.takes
  hand_of Empty1 busy o = nothing Empty1 o.takes
  hand_of Full1 busy o = nothing Full1 o.takes
  hand_of Close1 busy o = nothing Close1 o.takes
  hand_of IsClosed1 busy o = nothing IsClosed1 o.takes

-- ---- the room

popping_hand : (p : Place) → Popping p → (holding (hand_of_worker p) ≡ true) × (fills (hand_of_worker p) ≡ false)
popping_hand p popping_c2 = (refl, refl)
popping_hand p popping_c3 = (refl, refl)

room_most : (l b : Bool) → cond l (cond b 0 1) 0 ≤ 1
room_most true true = omega arith
room_most true false = omega arith
room_most false b = omega arith

module _ (workers : ℕ) where
  -- ---- from what is told to the statement
  module _ (m : Machine) (st : Story) (o : Told workers m st) where
    abbrev at : Bits workers m st o
    at = bits workers m st o

    room_of : RoomOfPop m st
    room_of =
        let sc = at.scene in
        record {
          most = rw sc.room (room_most at.l at.b);
          taken =
              λ h.
              let z = room_some at.l at.b (subst (λ (n : ℕ). 0 < n) sc.room h) in
              let is = sc.is in (
                pop_in_progress workers m (acts_in st) o.reached (locked_of m.single.state at.l at.b o.reached.closed is ∙ z.0)
                    (pushed_of m.single.state at.l at.b o.reached.closed is ∙ z.1),
                none_of (known st).queue.items (sc.long ∙ ap (λ (y : Bool). cond y 1 0) z.1),
              );
          held =
              λ w k.
              let h = popping_hand (stood m w) k in
              let z = at.hold w h.0 in
              sc.room ∙ rw (z.0, z.1 ∙ h.1) refl;
        }

    in_call_order : (earlier between later : Story) (first second : Event) (x y : Answer) → st ≡ earlier ++ Does first ∷ between ++ Does second ∷ later → first.after ≡ Idle x
        → second.after ≡ Idle y → length earlier < ((known (earlier ++ Does first ∷ between)).each second.worker).begun
        → moment_of first.worker (earlier ++ Does first ∷ []) < moment_of second.worker (earlier ++ Does first ∷ between ++ Does second ∷ [])
    in_call_order earlier between later first second x y is said_first said_second late =
        let p = (o.answers earlier (between ++ Does second ∷ later) first x (is ∙ append_assoc earlier (Does first ∷ between) (Does second ∷ later)) said_first).0 in
        let q = (o.answers (earlier ++ Does first ∷ between) later second y is said_second).0 in
        omega (arith, p.named, p.inside, q.named, q.begun)

    plain_of : PlainThroughout m (acts_in st) st
    plain_of =
        record {
          acts = refl;
          answers = o.answers;
          changes = o.changes;
          room = room_of;
          item_kept = λ w x e. item_of_lem st m.single.value w (stood m w) (o.dues w) x e;
          nothing_lost =
              record {
                in_order = in_order actor change_of 1 st;
                contents = λ idle. contents_wait workers m (acts_in st) o.reached idle ∙ sym o.items;
                hands = λ w v more busy e. hand_of st m.single.value w (stood m w) busy (o.dues w) v more e;
              };
          call_order = in_call_order;
        }

  -- ---- along every schedule

  told_first : Allowed workers → Told workers (fresh_of workers) []
  unfolding fresh_of locked_in pushed_in known_from followed_from acts_in waiting_from closed_by
  told_first a =
      record {
        reached = fresh_reached workers a;
        items = refl;
        flag = refl;
        room = refl;
        dues = λ w. subst (Due [] (fresh_of workers).single.value w) (sym (fresh_stood workers w)) tt;
        answers = λ xs ys act x e said. absurd (no_split xs (Does act) ys e);
        changes = λ xs ys act e. absurd (no_split xs (Does act) ys e);
      }

  one_entry : (m : Machine) (st : Story) (i j : ℕ) → Told workers m st → (turn_of m i j).refusal ≡ 0
      → Told workers (turn_of m i j).machine (st ++ elements_by events_of m (entry_of i j) (turn_of m i j).machine)
  unfolding turn_of_by
  one_entry m st i j o e = told_kept workers m st (entry_of i j) _ _ o (turned m (entry_of i j) e)

  told_after : Allowed workers → (s : List ℕ) → Told workers (machine_after source workers s) (story_of source workers s)
  told_after a s = entries_lead single_queue (elements_by events_of) (Told workers) one_entry s (fresh_of workers) [] 0 (told_first a)

pub answers_plain : AnswersPlain source
answers_plain workers a s =
    subst (λ (h : List Event). PlainThroughout (machine_after source workers s) h (story_of source workers s))
    (acts_story (λ (d : Did). d.refusal) (λ (d : Did). d.machine) turn_of events_of s (fresh_of workers)) (plain_of workers _ _ (told_after workers a s))

-- by computing
before_full : Story
before_full =
    Begun 0 (call.Push 5) ∷ Does (event 0 (A1 5) (A2 5)) ∷ Does (event 0 (A2 5) A3) ∷ Does (event 0 A3 (Idle Pushed)) ∷ Begun 0 call.Pop ∷ Does (event 0 (C1 (state 2)) C2)
    ∷ Begun 1 (call.Push 6) ∷ []

pub room_needed : RoomNeeded source
unfolding same pushed_in closed_in unlocked taken_of stray_of order_of entry_of goes state_to value_to exchanged unlocked_in idlers fresh_of refused accepted begun stored
    acted_by turn_of_by history_by acts items_of known_from before_full
room_needed = (before_full, event 1 (A1 6) (Idle (Full 6)), refl, refl, refl)
