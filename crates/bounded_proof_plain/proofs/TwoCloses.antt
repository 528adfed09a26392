-- Two closes of edition 1 that both answer yes are no run of a plain queue with one step a call.
use mathlib.Core.Path.{◌≡◌, refl, sym, ap, ◌∙◌, subst}
use mathlib.Core.Bool.{Bool, true, false, cond, true≢false}
use mathlib.Core.List.{List, [], ◌∷◌, ◌++◌}
use Prim.Native.Nat.{ℕ, suc, ◌+◌, ◌<◌}
use native.Mathlib.Omega.{arith}
use lib.Dec.{eqb}
use lib.ListN.{length, take, drop, take-append-drop}
use borrow.Author.Tests.{eqb-true}
use Rattle.queue_entries.specs.Schedules.{run_by, history_by}
use Rattle.queue_entries.specs.Entries.{stray_of, order_of, entry_of}
use Rattle.queue_entries.specs.Limits.{all}
use Rattle.queue_entries.specs.declared.Call.{Call}
use Rattle.queue_entries.specs.declared.Call.TheVariants as call
use Rattle.queue_plain.specs.Plain.{Queue, answer_of, left_by}
use Rattle.queue_plain.specs.Plain as plain
use Rattle.queue_plain.specs.OneStep.{Step, Follows}
use Rattle.queue_plain.specs.Story.{Begun, Does, known_from}
use Rattle.bounded_words.specs.Words.{doubled, mark_of, marked_of, unmarked_of, plus, minus, with_mark, next_of, same, one_past, lap_behind, lap_behind_one_past}
use Rattle.bounded_places.specs.declared.Answer.{Answer}
use Rattle.bounded_places.specs.declared.Answer.TheVariants.{Nothing, Pushed, Full, Closed, Displaced, Popped, Empty, PopClosed, Len, Yes, No}
use Rattle.bounded_places.specs.declared.Place.{Place}
use Rattle.bounded_places.specs.declared.Place.TheVariants.{Idle, P1, P2, P3, P4, P5, P6, F6, F7, F8, F9, O1, O2, O3, O4, O5, O6, Len1, Len2, Len3, Empty1, Empty2, Full1, Full2, Close1, IsClosed1}
use Rattle.bounded_places.specs.Places.{says_yes}
use Rattle.bounded_acts.specs.Acts.{forced_tail, goes, losing, exchange_of, after_tail, tail_to, head_to, stamp_to, value_to, count_of}
use Rattle.bounded_machine.specs.declared.Event.{Event}
use Rattle.bounded_machine.specs.Machine.{empty_slots, stamped, fresh_slots, idlers, fresh_with, refused, accepted}
use Rattle.bounded_machine.specs.Turn.{record_after, begun, stored, acted_by, turn_of_by}
use Rattle.bounded_machine.specs.Run.{ran}
use Rattle.bounded_causes.specs.Causes.{stand_of}
use Rattle.bounded_demands.specs.Notions.{acts, document01}
use Rattle.bounded_demands.specs.Stories.{Story, story_of, known, two_closes}
use Rattle.bounded_demands.specs.Demands.{OneByOne, ClosesNotOneStep}

-- once closed, a plain queue stays closed
closed_left : (q : Queue) (cl : Call) → q.closed ≡ true → (left_by q cl).closed ≡ true
closed_left q (call.Push x) h = rw h
closed_left q (call.ForcePush x) h = rw h
closed_left q call.Pop h = h
closed_left q call.Len h = h
closed_left q call.IsEmpty h = h
closed_left q call.IsFull h = h
closed_left q call.Close h = refl
closed_left q call.IsClosed h = h

closed_on : (q p : Queue) (l : List Step) → Follows q l p → q.closed ≡ true → p.closed ≡ true
closed_on q p [] f h = ap (λ (z : Queue). z.closed) f ∙ h
closed_on q p (x ∷ l) f h = closed_on (left_by q x.call) p l f.1 (closed_left q x.call h)

-- element k is an act of worker w that answers yes
abbrev yes_here : ℕ → Story → Bool
yes_here w [] = false
yes_here w (Begun v c ∷ s) = false
yes_here w (Does e ∷ s) = cond (eqb e.worker w) (stand_of e.after).yes false

record Says (s : Story) (k w : ℕ) : Type 0 where
  act : Event
  later : Story
  is : s ≡ take k s ++ Does act ∷ later
  by : act.worker ≡ w
  yes : act.after ≡ Idle Yes

answer_yes : (x : Answer) → says_yes x ≡ true → x ≡ Yes
answer_yes Nothing h = absurd (true≢false (sym h))
answer_yes Pushed h = absurd (true≢false (sym h))
answer_yes (Full y) h = absurd (true≢false (sym h))
answer_yes (Closed y) h = absurd (true≢false (sym h))
answer_yes (Displaced y) h = absurd (true≢false (sym h))
answer_yes (Popped y) h = absurd (true≢false (sym h))
answer_yes Empty h = absurd (true≢false (sym h))
answer_yes PopClosed h = absurd (true≢false (sym h))
answer_yes (Len y) h = absurd (true≢false (sym h))
answer_yes No h = absurd (true≢false (sym h))
answer_yes Yes h = refl

place_yes : (p : Place) → (stand_of p).yes ≡ true → p ≡ Idle Yes
place_yes (Idle x) h = ap Idle (answer_yes x h)
place_yes (P1 k x) h = absurd (true≢false (sym h))
place_yes (P2 k t x) h = absurd (true≢false (sym h))
place_yes (P3 k t x) h = absurd (true≢false (sym h))
place_yes (P4 t x) h = absurd (true≢false (sym h))
place_yes (P5 t) h = absurd (true≢false (sym h))
place_yes (P6 t x) h = absurd (true≢false (sym h))
place_yes (F6 t x) h = absurd (true≢false (sym h))
place_yes (F7 t x) h = absurd (true≢false (sym h))
place_yes (F8 t x) h = absurd (true≢false (sym h))
place_yes (F9 t old) h = absurd (true≢false (sym h))
place_yes O1 h = absurd (true≢false (sym h))
place_yes (O2 x) h = absurd (true≢false (sym h))
place_yes (O3 x) h = absurd (true≢false (sym h))
place_yes (O4 x) h = absurd (true≢false (sym h))
place_yes (O5 x v) h = absurd (true≢false (sym h))
place_yes (O6 x) h = absurd (true≢false (sym h))
place_yes Len1 h = absurd (true≢false (sym h))
place_yes (Len2 t) h = absurd (true≢false (sym h))
place_yes (Len3 t x) h = absurd (true≢false (sym h))
place_yes Empty1 h = absurd (true≢false (sym h))
place_yes (Empty2 x) h = absurd (true≢false (sym h))
place_yes Full1 h = absurd (true≢false (sym h))
place_yes (Full2 t) h = absurd (true≢false (sym h))
place_yes Close1 h = absurd (true≢false (sym h))
place_yes IsClosed1 h = absurd (true≢false (sym h))

says_here : (w : ℕ) (s : Story) → yes_here w s ≡ true → (e : Event) × (later : Story) × (s ≡ Does e ∷ later) × (e.worker ≡ w) × (e.after ≡ Idle Yes)
says_here w [] h = absurd (true≢false (sym h))
says_here w (Begun v c ∷ s) h = absurd (true≢false (sym h))
says_here w (Does e ∷ s) h = go (eqb e.worker w) refl h
  where
    go : (b : Bool) → eqb e.worker w ≡ b → cond b (stand_of e.after).yes false ≡ true → (d : Event) × (later : Story) × (Does e ∷ s ≡ Does d ∷ later) × (d.worker ≡ w) × (d.after ≡ Idle Yes)
    go true z y = (e, s, refl, eqb-true e.worker w z, place_yes e.after y)
    go false z y = absurd (true≢false (sym y))

says_at : (s : Story) (k w : ℕ) → yes_here w (drop k s) ≡ true → Says s k w
says_at s k w h =
    let r = says_here w (drop k s) h in
    record { act = r.0; later = r.1; is = sym (take-append-drop k s) ∙ ap (λ (z : Story). take k s ++ z) r.2; by = r.3; yes = r.4 }

-- Two closes of one worker, the second begun after the first has answered, one element between them: both cannot answer yes.
module _ (ed : ℕ) (s : Story) (o : OneByOne 1 ed s) (k w : ℕ) (few : k + 3 < length s)
    (first : yes_here w (drop k s) ≡ true) (second : yes_here w (drop (k + 3) s) ≡ true)
    (long : length (take k s) ≡ k) (long_too : length (take (k + 3) s) ≡ k + 3)
    (close : ((known 1 ed (take k s)).each w).calls ≡ call.Close ∷ []) (close_too : ((known 1 ed (take (k + 3) s)).each w).calls ≡ call.Close ∷ [])
    (begun_then : ((known 1 ed (take k s)).each w).begun + 1 ≡ k) (begun_later : ((known 1 ed (take (k + 3) s)).each w).begun + 1 ≡ k + 3) where
  -- the step of a close that answered yes: the queue was open, and is closed after it
  record Shuts (i : ℕ) : Type 0 where
    was : (o.queues i).closed ≡ false
    is : (o.queues (suc i)).closed ≡ true

  shuts : (i : ℕ) (says : Says s i w) → i < length s → length (take i s) ≡ i → ((known 1 ed (take i s)).each w).calls ≡ call.Close ∷ [] → ((known 1 ed (take i s)).each w).begun + 1 ≡ i → Shuts i
  shuts i says low long_i calls begun_i =
      let r = o.answered (take i s) says.later says.act Yes says.is says.yes in
      let late : ((known 1 ed (take i s)).each w).begun < r.0 = subst (λ (v : ℕ). ((known 1 ed (take i s)).each v).begun < r.0) says.by r.3 in
      let at : r.0 ≡ i = omega (arith, late, r.4) in
      let x = r.1 in
      let its : r.1.call ≡ call.Close = let z : r.1.call ∷ [] ≡ call.Close ∷ [] = sym (subst (λ (v : ℕ). ((known 1 ed (take i s)).each v).calls ≡ r.1.call ∷ []) says.by r.6) ∙ calls in cc in
      let yes : r.1.reply ≡ plain.Yes = let z : r.1.reply ∷ [] ≡ plain.Yes ∷ [] = r.7 in cc in
      let there : o.steps i ≡ r.1 ∷ [] = ap o.steps (sym at) ∙ r.2 in
      let f = subst (λ (l : List Step). Follows (o.queues i) l (o.queues (suc i))) there (o.follows i low) in
      record {
        was = open_yes (o.queues i).closed (sym yes ∙ f.0 ∙ ap (answer_of (o.queues i)) its);
        is = ap (λ (z : Queue). z.closed) f.1 ∙ ap (λ (c : Call). (left_by (o.queues i) c).closed) its;
      }
    where
      open_yes : (b : Bool) → plain.Yes ≡ cond b plain.No plain.Yes → b ≡ false
      open_yes true z = absurd (let v : ◌≡◌ {A = ℕ} 0 1 = cc in omega arith)
      open_yes false z = refl

  pub not_both : ⊥
  not_both =
      let a = shuts k (says_at s k w first) (omega arith) long close begun_then in
      let b = shuts (k + 3) (says_at s (k + 3) w second) few long_too close_too begun_later in
      let one = closed_on (o.queues (suc k)) (o.queues (suc (suc k))) (o.steps (suc k)) (o.follows (suc k) (omega arith)) a.is in
      let two = closed_on (o.queues (suc (suc k))) (o.queues (suc (suc (suc k)))) (o.steps (suc (suc k))) (o.follows (suc (suc k)) (omega arith)) one in
      let same : suc (suc (suc k)) ≡ k + 3 = omega arith in
      true≢false (sym (subst (λ (i : ℕ). (o.queues i).closed ≡ true) same two) ∙ b.was)

pub closes_not_one_step : ClosesNotOneStep document01
unfolding forced_tail doubled mark_of marked_of unmarked_of plus minus with_mark next_of same one_past lap_behind lap_behind_one_past stray_of order_of entry_of goes losing
    exchange_of after_tail tail_to head_to stamp_to value_to count_of empty_slots stamped fresh_slots idlers fresh_with refused accepted all record_after begun stored
    acted_by turn_of_by ran run_by history_by acts known_from two_closes
closes_not_one_step o = not_both 1 (story_of document01 1 2 1 two_closes) o 11 1 (omega arith) refl refl refl refl refl refl refl refl
