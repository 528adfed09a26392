-- Case G: a call that looks between the two claims of a force_push, in a ring of one, is in no run of a plain queue with one step a call.
use mathlib.Core.Path.{◌≡◌, refl, sym, ap, ◌∙◌, subst}
use mathlib.Core.Bool.{Bool, true, false, cond, true≢false}
use mathlib.Core.List.{List, [], ◌∷◌, ◌++◌}
use Prim.Native.Nat.{ℕ, zero, suc, ◌+◌, ◌-◌, ◌≤◌, ◌<◌}
use native.Mathlib.Omega.{arith}
use lib.Dec.{eqb}
use lib.ListN.{length, take, drop, length-append, take-append-drop}
use borrow.Author.Tests.{eqb-true, eqb-false}
use Rattle.queue_entries.specs.Schedules.{run_by, history_by}
use Rattle.queue_entries.specs.Entries.{stray_of, order_of, entry_of}
use Rattle.queue_entries.specs.Limits.{all}
use Rattle.queue_entries.specs.declared.Call.{Call}
use Rattle.queue_entries.specs.declared.Call.TheVariants as call
use Rattle.queue_plain.specs.Plain.{Queue, queue, full_of, yes_if, answer_of, left_by}
use Rattle.queue_plain.specs.Plain as plain
use Rattle.queue_plain.specs.OneStep.{Step, Follows}
use Rattle.queue_plain.specs.Story.{Begun, Does, Doing, Known, fresh, known_with, known_from}
use Rattle.bounded_words.specs.Words.{doubled, mark_of, marked_of, unmarked_of, plus, minus, with_mark, next_of, same, one_past, lap_behind, lap_behind_one_past}
use Rattle.bounded_places.specs.declared.Loss.TheVariants as loss
use Rattle.bounded_places.specs.declared.Answer.{Answer}
use Rattle.bounded_places.specs.declared.Answer.TheVariants.{Nothing, Pushed, Len, Yes, No}
use Rattle.bounded_places.specs.declared.Place.TheVariants.{Idle}
use Rattle.bounded_acts.specs.Acts.{forced_tail, goes, losing, exchange_of, after_tail, tail_to, head_to, stamp_to, value_to, count_of}
use Rattle.bounded_machine.specs.declared.Event.{Event}
use Rattle.bounded_machine.specs.Machine.{empty_slots, stamped, fresh_slots, idlers, fresh_with, refused, accepted}
use Rattle.bounded_machine.specs.Turn.{record_after, begun, stored, acted_by, turn_of_by}
use Rattle.bounded_machine.specs.Run.{ran}
use Rattle.bounded_machine.specs.History.{event}
use Rattle.bounded_machine.proofs.Kept.{either}
use Rattle.bounded_demands.specs.Notions.{acts, document01}
use Rattle.bounded_demands.specs.Stories.{Story, story_of, known, actor, change_of, reply_of, OnlySuch, between_claims}
use Rattle.bounded_demands.specs.Demands.{OneByOne, LooksNotOneStep}
use Rattle.bounded_proof_plain.proofs.Linear.{only_first}

-- ---- a plain queue of one to which nobody pops: what is in stays one

abbrev never_pops : Call → Bool
never_pops (call.Push x) = true
never_pops (call.ForcePush x) = true
never_pops call.Pop = false
never_pops call.Len = true
never_pops call.IsEmpty = true
never_pops call.IsFull = true
never_pops call.Close = true
never_pops call.IsClosed = true

record Grows (q p : Queue) : Type 0 where
  more : length q.items ≤ length p.items
  one : (q.capacity ≡ 1) × (length q.items ≤ 1) → (p.capacity ≡ 1) × (length p.items ≤ 1)

same_size : (q p : Queue) → p.items ≡ q.items → p.capacity ≡ q.capacity → Grows q p
same_size q p i c = record { more = omega (arith, ap length i); one = λ h. (c ∙ h.0, omega (arith, h.1, ap length i)) }

one_more : (q : Queue) (x : ℕ) (b : Bool) → full_of q ≡ false → Grows q (queue (q.items ++ x ∷ []) b q.capacity)
one_more q x b room =
    let long = length-append q.items (x ∷ []) in
    let ne = eqb-false (length q.items) q.capacity room in
    record { more = omega (arith, long); one = λ h. (h.0, few (length q.items) h.1 (λ z. ne (z ∙ sym h.0)) long) }
  where
    few : (n : ℕ) → n ≤ 1 → (n ≡ 1 → ⊥) → length (q.items ++ x ∷ []) ≡ n + 1 → length (q.items ++ x ∷ []) ≤ 1
    few zero h no_one z = omega (arith, z)
    few (suc zero) h no_one z = absurd (no_one refl)
    few (suc (suc n)) h no_one z = absurd (omega arith)

one_for_one : (q : Queue) (x : ℕ) (b : Bool) → full_of q ≡ true → Grows q (queue (drop 1 q.items ++ x ∷ []) b q.capacity)
one_for_one q x b full =
    let long = length-append (drop 1 q.items) (x ∷ []) in
    record { more = omega (arith, long, (left q.items).0); one = λ h. (h.0, omega (arith, long, (left q.items).1 (filled h))) }
  where
    left : (l : List ℕ) → (length l ≤ length (drop 1 l) + 1) × (length l ≡ 1 → length (drop 1 l) ≡ 0)
    left [] = (omega arith, λ h. refl)
    left (y ∷ l) = (omega arith, λ h. omega arith)

    filled : (q.capacity ≡ 1) × (length q.items ≤ 1) → length q.items ≡ 1
    filled h = eqb-true (length q.items) q.capacity full ∙ h.0

grows : (q : Queue) (c : Call) → never_pops c ≡ true → Grows q (left_by q c)
grows q (call.Push x) h =
    either (Grows q) q.closed q _ (λ z. same_size q q refl refl)
    (λ z. either (Grows q) (full_of q) q (queue (q.items ++ x ∷ []) q.closed q.capacity) (λ y. same_size q q refl refl) (one_more q x q.closed))
grows q (call.ForcePush x) h =
    either (Grows q) q.closed q _ (λ z. same_size q q refl refl)
    (λ z. either (λ (l : List ℕ). Grows q (queue (l ++ x ∷ []) q.closed q.capacity)) (full_of q) (drop 1 q.items) q.items (one_for_one q x q.closed) (one_more q x q.closed))
grows q call.Pop h = absurd (true≢false (sym h))
grows q call.Len h = same_size q q refl refl
grows q call.IsEmpty h = same_size q q refl refl
grows q call.IsFull h = same_size q q refl refl
grows q call.Close h = same_size q (left_by q call.Close) refl refl
grows q call.IsClosed h = same_size q q refl refl

pushed_in : (q : Queue) (x : ℕ) → plain.Pushed ≡ answer_of q (call.Push x) → 0 < length (left_by q (call.Push x)).items
pushed_in q x h = go q.closed (full_of q) h
  where
    go : (b f : Bool) → plain.Pushed ≡ cond b (plain.Closed x) (cond f (plain.Full x) plain.Pushed) → 0 < length (cond b q (cond f q (queue (q.items ++ x ∷ []) q.closed q.capacity))).items
    go true f z = absurd (let n : ◌≡◌ {A = ℕ} 0 1 = cc in omega arith)
    go false true z = absurd (let n : ◌≡◌ {A = ℕ} 0 1 = cc in omega arith)
    go false false z = omega (arith, length-append q.items (x ∷ []))

-- ---- an element of a story that is an act, and where it stands

abbrev pub is_act : Story → Bool
is_act [] = false
is_act (Begun w c ∷ s) = false
is_act (Does e ∷ s) = true

-- the first, if it is one
abbrev pub act_of : Story → Event
act_of [] = event 0 (Idle Nothing) (Idle Nothing) loss.Nothing
act_of (Begun w c ∷ s) = event 0 (Idle Nothing) (Idle Nothing) loss.Nothing
act_of (Does e ∷ s) = e

opened : (s : Story) → is_act s ≡ true → s ≡ Does (act_of s) ∷ drop 1 s
opened [] h = absurd (true≢false (sym h))
opened (Begun w c ∷ s) h = absurd (true≢false (sym h))
opened (Does e ∷ s) h = refl

pub act_at_lem : (s : Story) (k : ℕ) → is_act (drop k s) ≡ true → s ≡ take k s ++ Does (act_of (drop k s)) ∷ drop 1 (drop k s)
act_at_lem s k h = sym (take-append-drop k s) ∙ ap (λ (z : Story). take k s ++ z) (opened (drop k s) h)

-- ---- every call that is known was begun

module _ (such : Call → Bool) (ed : ℕ) where
  Calls : Known → Type 0
  Calls k = (w : ℕ) (c : Call) → (k.each w).calls ≡ c ∷ [] → such c ≡ true

  calls_on : (s : Story) (k : Known) → Calls k → OnlySuch such s → Calls (known_from actor (change_of ed) k s)
  unfolding known_from Calls
  calls_on [] k known_calls only = known_calls
  calls_on (Begun v b ∷ s) k known_calls only = calls_on s (known_with actor (change_of ed) k (Begun v b)) next only.1
    where
      next : Calls (known_with actor (change_of ed) k (Begun v b))
      next w c = either (λ (d : Doing). d.calls ≡ c ∷ [] → such c ≡ true) (eqb w v) _ (k.each w) (λ z h. let same_call : b ≡ c = cc in ap such (sym same_call) ∙ only.0) (λ z h. known_calls w c h)
  calls_on (Does e ∷ s) k known_calls only = calls_on s (known_with actor (change_of ed) k (Does e)) next only
    where
      next : Calls (known_with actor (change_of ed) k (Does e))
      next w c = either (λ (d : Doing). d.calls ≡ c ∷ [] → such c ≡ true) (eqb w e.worker) _ (k.each w) (λ z h. known_calls w c h) (λ z h. known_calls w c h)

  call_such : (capacity n : ℕ) (s : Story) → OnlySuch such s → (w : ℕ) (c : Call) → ((known capacity ed (take n s)).each w).calls ≡ c ∷ [] → such c ≡ true
  unfolding Calls
  call_such capacity n s only = calls_on (take n s) (fresh capacity) (λ w c h. absurd (let z : ◌≡◌ {A = ℕ} 0 1 = ap length h in omega arith))
      (only_first such (take n s) (drop n s) (subst (OnlySuch such) (sym (take-append-drop n s)) only))

-- ---- a push has answered, and then somebody looks: one item waits

module _ (ed : ℕ) (s : Story) (o : OneByOne 1 ed s) (unpopped : OnlySuch never_pops s) where
  step_grows : (q p : Queue) (l : List Step) → ((x : Step) → l ≡ x ∷ [] → never_pops x.call ≡ true) → length l ≤ 1 → Follows q l p → Grows q p
  step_grows q p [] pops few f = same_size q p (ap (λ (z : Queue). z.items) f) (ap (λ (z : Queue). z.capacity) f)
  step_grows q p (x ∷ []) pops few f = subst (Grows q) (sym f.1) (grows q x.call (pops x refl))
  step_grows q p (x ∷ y ∷ l) pops few f = absurd (omega arith)

  on : (i : ℕ) → i < length s → Grows (o.queues i) (o.queues (suc i))
  on i low =
      step_grows (o.queues i) (o.queues (suc i)) (o.steps i) (λ x e. let its = o.own i x e in call_such never_pops ed 1 i s unpopped x.worker x.call its.1) (o.single i) (o.follows i low)

  few : (i : ℕ) → i ≤ length s → ((o.queues i).capacity ≡ 1) × (length (o.queues i).items ≤ 1)
  few zero low = (ap (λ (z : Queue). z.capacity) o.first, omega (arith, ap (λ (z : Queue). length z.items) o.first))
  few (suc i) low = (on i (omega arith)).one (few i (omega arith))

  since_then : (i d : ℕ) → i + d ≤ length s → length (o.queues i).items ≤ length (o.queues (i + d)).items
  since_then i zero low = let same_place : i ≡ i + 0 = omega arith in subst (λ (j : ℕ). length (o.queues i).items ≤ length (o.queues j).items) same_place (omega arith)
  since_then i (suc d) low =
      let more = (on (i + d) (omega arith)).more in
      let was = since_then i d (omega arith) in
      let same_place : suc (i + d) ≡ i + suc d = omega arith in
      subst (λ (j : ℕ). length (o.queues i).items ≤ length (o.queues j).items) same_place (omega (arith, more, was))

  record Looks (call : Call) (answer : Answer) : Type 0 where
    at : ℕ
    reply : plain.Reply
    says : reply ∷ [] ≡ reply_of answer
    plainly : reply ≡ answer_of (o.queues at) call
    one : length (o.queues at).items ≡ 1
    capacity : (o.queues at).capacity ≡ 1

  module _ (k : ℕ) (answer : Answer) (cl : Call) (acts_push : is_act (drop 5 s) ≡ true) (acts_look : is_act (drop k s) ≡ true)
      (says_push : (act_of (drop 5 s)).after ≡ Idle Pushed) (says_look : (act_of (drop k s)).after ≡ Idle answer) (short : length (take 5 s) ≡ 5)
      (push_call : ((known 1 ed (take 5 s)).each (act_of (drop 5 s)).worker).calls ≡ call.Push 1 ∷ []) (look_call : ((known 1 ed (take k s)).each (act_of (drop k s)).worker).calls ≡ cl ∷ [])
      (late : 5 < ((known 1 ed (take k s)).each (act_of (drop k s)).worker).begun) where
    one_waits : Looks cl answer
    one_waits =
        let r = o.answered (take 5 s) (drop 1 (drop 5 s)) (act_of (drop 5 s)) Pushed (act_at_lem s 5 acts_push) says_push in
        let z = o.answered (take k s) (drop 1 (drop k s)) (act_of (drop k s)) answer (act_at_lem s k acts_look) says_look in
        let r_in = (o.own r.0 r.1 r.2).0 in
        let z_in = (o.own z.0 z.1 z.2).0 in
        let f = subst (λ (l : List Step). Follows (o.queues r.0) l (o.queues (suc r.0))) r.2 (o.follows r.0 r_in) in
        let g = subst (λ (l : List Step). Follows (o.queues z.0) l (o.queues (suc z.0))) z.2 (o.follows z.0 z_in) in
        let pushes : r.1.call ≡ call.Push 1 = let y : r.1.call ∷ [] ≡ call.Push 1 ∷ [] = sym r.6 ∙ push_call in cc in
        let looks_so : z.1.call ≡ cl = let y : z.1.call ∷ [] ≡ cl ∷ [] = sym z.6 ∙ look_call in cc in
        let pushed : r.1.reply ≡ plain.Pushed = let y : r.1.reply ∷ [] ≡ plain.Pushed ∷ [] = r.7 in cc in
        let some : 0 < length (o.queues (suc r.0)).items =
        subst (λ (q : Queue). 0 < length q.items) (sym (f.1 ∙ ap (left_by (o.queues r.0)) pushes))
        (pushed_in (o.queues r.0) 1 (sym pushed ∙ f.0 ∙ ap (answer_of (o.queues r.0)) pushes)) in
        let gap : (d : ℕ) × (suc r.0 + d ≡ z.0) = between (suc r.0) z.0 (omega (arith, r.4, short, z.3, late)) in
        let kept : length (o.queues (suc r.0)).items ≤ length (o.queues z.0).items =
        subst (λ (j : ℕ). length (o.queues (suc r.0)).items ≤ length (o.queues j).items) gap.1 (since_then (suc r.0) gap.0 (omega (arith, gap.1, z_in))) in
        let most = few z.0 (omega (arith, z_in)) in
        record {
          at = z.0;
          reply = z.1.reply;
          says = z.7;
          plainly = g.0 ∙ ap (answer_of (o.queues z.0)) looks_so;
          one = omega (arith, some, kept, most.1);
          capacity = most.0;
        }
      where
        between : (a b : ℕ) → a ≤ b → (d : ℕ) × (a + d ≡ b)
        between a b h = (b - a, omega arith)

  not_none : Looks call.Len (Len 0) → ⊥
  not_none v =
      let counted : plain.Count 0 ≡ plain.Count (length (o.queues v.at).items) =
      (let y : plain.Count 0 ∷ [] ≡ v.reply ∷ [] = sym v.says in let x : plain.Count 0 ≡ v.reply = cc in x) ∙ v.plainly in
      let none : ◌≡◌ {A = ℕ} 0 (length (o.queues v.at).items) = cc in
      omega (arith, none, v.one)

  not_empty : Looks call.IsEmpty Yes → ⊥
  not_empty v =
      let yes_said : plain.Yes ≡ yes_if (eqb (length (o.queues v.at).items) 0) = (let y : plain.Yes ∷ [] ≡ v.reply ∷ [] = sym v.says in let x : plain.Yes ≡ v.reply = cc in x) ∙ v.plainly in
      let no_said : plain.Yes ≡ plain.No = yes_said ∙ ap (λ (n : ℕ). yes_if (eqb n 0)) v.one in
      let z : ◌≡◌ {A = ℕ} 0 1 = cc in omega arith

  not_room : Looks call.IsFull No → ⊥
  not_room v =
      let no_said : plain.No ≡ yes_if (full_of (o.queues v.at)) = (let y : plain.No ∷ [] ≡ v.reply ∷ [] = sym v.says in let x : plain.No ≡ v.reply = cc in x) ∙ v.plainly in
      let yes_said : plain.No ≡ plain.Yes = no_said ∙ ap (λ (n : ℕ). yes_if (eqb n (o.queues v.at).capacity)) v.one ∙ ap (λ (n : ℕ). yes_if (eqb 1 n)) v.capacity in
      let z : ◌≡◌ {A = ℕ} 0 1 = cc in omega arith

-- ---- the three schedules, of any edition: nobody comes to F7's act

abbrev story : ℕ → ℕ → ℕ → Story
story ed code many = story_of document01 1 2 ed (between_claims code many)

pub looks_not_one_step : LooksNotOneStep document01
unfolding forced_tail doubled mark_of marked_of unmarked_of plus minus with_mark next_of same one_past lap_behind lap_behind_one_past stray_of order_of entry_of goes losing
    exchange_of after_tail tail_to head_to stamp_to value_to count_of empty_slots stamped fresh_slots idlers fresh_with refused accepted all record_after begun stored
    acted_by turn_of_by ran run_by history_by acts known_from between_claims
looks_not_one_step =
    record {
      len =
          λ ed o. let s = story ed 3 3 in
          not_none ed s o (refl, (refl, (refl, tt)))
          (one_waits ed s o (refl, (refl, (refl, tt))) 13 (Len 0) call.Len refl refl refl refl refl refl refl (omega arith));
      is_empty =
          λ ed o. let s = story ed 4 2 in
          not_empty ed s o (refl, (refl, (refl, tt)))
          (one_waits ed s o (refl, (refl, (refl, tt))) 12 Yes call.IsEmpty refl refl refl refl refl refl refl (omega arith));
      is_full =
          λ ed o. let s = story ed 5 2 in
          not_room ed s o (refl, (refl, (refl, tt)))
          (one_waits ed s o (refl, (refl, (refl, tt))) 12 No call.IsFull refl refl refl refl refl refl refl (omega arith));
    }
