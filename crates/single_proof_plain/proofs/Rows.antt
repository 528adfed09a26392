-- Each act of the table, from what its worker's call has behind it to what it then has.
use Prim.Native.Nat.{ℕ, ◌-◌}
use native.Mathlib.Omega.{arith}
use mathlib.Core.Path.{◌≡◌, refl, sym, ap, ◌∙◌, subst}
use mathlib.Core.Bool.{Bool, true, false, cond, true≢false}
use mathlib.Core.List.{List, [], ◌∷◌, ◌++◌}
use lib.Dec.{eqb}
use lib.ListN.{length, take}
use borrow.Author.Tests.{eq-eqb, ne_eqb}
use Rattle.queue_entries.specs.declared.Call.{Call}
use Rattle.queue_entries.specs.declared.Call.TheVariants as call
use Rattle.queue_schedules.proofs.Schedules.{either}
use Rattle.queue_schedules.proofs.Splits.{no_cons}
use Rattle.queue_plain.specs.Plain.{Reply, Queue, queue, answer_of, yes_if}
use Rattle.queue_plain.specs.Plain as plain
use Rattle.queue_plain.specs.Story.{Does, Doing, items_of}
use Rattle.queue_plain.proofs.Stories.{capacity_is, each_own}
use Rattle.queue_plain.proofs.Calls.{work_on, work_still}
use Rattle.queue_plain.proofs.Answers.{none_of, push_closed, push_room, push_full, force_closed, force_room, force_full, pop_front, pop_none}
use Rattle.single_words.specs.declared.State.{State}
use Rattle.single_words.specs.Words.{state, same, pushed_in, closed_in, filled, unlocked, taken_of}
use Rattle.single_places.specs.declared.Single.{Single}
use Rattle.single_places.specs.declared.Answer.{Answer}
use Rattle.single_places.specs.declared.Answer.TheVariants.{Pushed, Full, Closed, Displaced, Popped, Empty, PopClosed, Len, Yes, No}
use Rattle.single_places.specs.declared.Place.{Place}
use Rattle.single_places.specs.declared.Place.TheVariants.{Idle, A1, A2, A3, B1, B2, B3, B4, B5, C1, C2, C3, Len1, Empty1, Full1, Close1, IsClosed1}
use Rattle.single_places.specs.Places.{view_of}
use Rattle.single_acts.specs.Acts.{goes, state_to, exchanged, len_of, act_of}
use Rattle.single_machine.specs.declared.Event.{Event}
use Rattle.single_machine.specs.History.{event}
use Rattle.single_demands.specs.Notions.{Access, none, access_of, item_of, is_read}
use Rattle.single_demands.specs.Stories.{Story, known, change_of, actor, reply_of, room_taken, asked_of, Timing, Now, Stays, timing_of, timed, moment_of}
use Rattle.single_proof_demand2.proofs.Words.{word, pushed_of, closed_of, same_locked, same_pushed, same_closed, same_is, unlocked_word}
use Rattle.single_proof_demand2.proofs.Effects.{Expects}
use Rattle.single_proof_plain.proofs.Work.{moment_own, Work, Decided, carried, decided_now, Spoken, Swapping, Taking, Due}

-- The plain queue beside the slot, whose word has these bits.
pub record Scene (st : Story) (s : Single) (l b c : Bool) : Type 0 where
  pub is : s.state ≡ word l b c
  pub flag : (known st).queue.closed ≡ c
  pub long : length (known st).queue.items ≡ cond b 1 0
  pub rests : l ≡ false → b ≡ true → (known st).queue.items ≡ s.value ∷ []
  pub room : room_taken st ≡ cond l (cond b 0 1) 0

same_zero : same (state 0) (state 0) ≡ true
unfolding same
same_zero = refl

-- the room is taken where an item waits or a pop is under way
taken_up : (l b : Bool) → (l ≡ false → b ≡ false → ⊥) → cond b 1 0 ≡ 1 - cond l (cond b 0 1) 0
taken_up true true h = refl
taken_up true false h = refl
taken_up false true h = refl
taken_up false false h = absurd (h refl refl)

not_idle : (q : Place) → (view_of q).busy ≡ true → (a : Answer) → q ≡ Idle a → ⊥
not_idle q h a e = true≢false (sym h ∙ ap (λ (z : Place). (view_of z).busy) e)

module _ (st : Story) (s : Single) (l b c : Bool) (sc : Scene st s l b c) (w : ℕ) where
  abbrev act : Place → Place → Event
  act p q = event w p q

  abbrev now : Place → Place → Story
  now p q = st ++ Does (act p q) ∷ []

  abbrev q₀ : Queue
  q₀ = (known st).queue

  -- what the act leads to, or answers; and an item comes in only where the queue is open
  pub record Outcome (p q : Place) (v : ℕ) : Type 0 where
    pub due : Due (now p q) v w q
    pub said : (a : Answer) → q ≡ Idle a → Spoken (now p q) w a
    pub while_open : (x : ℕ) → item_of (access_of q) ≡ x ∷ [] → c ≡ false

  -- ---- an act that puts nothing in and takes nothing out
  module _ (p q : Place) (quiet : access_of q ≡ none) where
    to : (v : ℕ) → (view_of q).busy ≡ true → Due (now p q) v w q → Outcome p q v
    to v busy o = record { due = o; said = λ a e. absurd (not_idle q busy a e); while_open = λ x e. absurd (no_cons (sym (ap item_of quiet) ∙ e)) }

    still : (cl : Call) (put took : List ℕ) → Work st w cl put took → Work (now p q) w cl put took
    still = work_still actor change_of 1 st (act p q) (ap (λ (a : Access). eqb (length (item_of a)) 1) quiet) (ap is_read quiet)

    kept : timing_of p q ≡ Stays → (cl : Call) (put took : List ℕ) (r : Reply) → Decided st w cl put took r → Decided (now p q) w cl put took r
    kept stays cl put took r o =
        carried st (Does (act p q)) w cl put took put took r (still cl put took o.work) (ap (λ (z : Doing). z.begun) (each_own actor change_of 1 st (act p q)))
        (moment_own st (act p q) ∙ ap (λ (t : Timing). timed t (known st).count (moment_of w st)) stays) o

    here : timing_of p q ≡ Now → (cl : Call) (r : Reply) → Work st w cl [] [] → answer_of (asked_of (room_taken st) q₀ cl) cl ≡ r → Decided (now p q) w cl [] [] r
    here at cl r o says = decided_now st (act p q) cl [] [] r at o (still cl [] [] o) says

  speaks : (p : Place) (a : Answer) (r : Reply) (v : ℕ) → reply_of a ≡ r ∷ [] → (cl : Call) → Decided (now p (Idle a)) w cl (plain.put_by (items_of (cl ∷ [])) r) (plain.taken_by r) r
      → Outcome p (Idle a) v
  speaks p a r v e cl o =
      record {
        due = tt;
        said = λ x is. let one : a ≡ x = cc in subst (Spoken (now p (Idle a)) w) one (record { reply = r; says = e; call = cl; decided = o });
        while_open = λ x is. absurd (no_cons is);
      }

  -- ---- the bits
  pushed_is : (y : Bool) → pushed_in s.state ≡ y → b ≡ y
  pushed_is y e = sym (pushed_of s.state l b c sc.is) ∙ e

  closed_is : (y : Bool) → closed_in s.state ≡ y → q₀.closed ≡ y
  closed_is y e = sc.flag ∙ sym (closed_of s.state l b c sc.is) ∙ e

  room_is : q₀.capacity ≡ 1
  room_is = capacity_is actor change_of 1 st

  one_waits : b ≡ true → length q₀.items ≡ 1
  one_waits e = sc.long ∙ ap (λ (z : Bool). cond z 1 0) e

  none_waits : b ≡ false → length q₀.items ≡ 0
  none_waits e = sc.long ∙ ap (λ (z : Bool). cond z 1 0) e

  none_taken : l ≡ false → room_taken st ≡ 0
  none_taken e = sc.room ∙ ap (λ (z : Bool). cond z (cond b 0 1) 0) e

  value_still : (e x : State) → (exchanged s e x).value ≡ s.value
  unfolding exchanged state_to
  value_still e x = either (λ (z : Single). z.value ≡ s.value) (same s.state e) (state_to s x) s (λ t. refl) (λ t. refl)

  -- ---- push
  a1 : (x v : ℕ) → Work st w (call.Push x) [] [] → Outcome (A1 x) (cond (same s.state (state 0)) (A2 x) (cond (closed_in s.state) (Idle (Closed x)) (Idle (Full x)))) v
  a1 x v o =
      either (λ (q : Place). Outcome (A1 x) q v) (same s.state (state 0)) (A2 x) (cond (closed_in s.state) (Idle (Closed x)) (Idle (Full x))) won
      (λ t. either (λ (q : Place). Outcome (A1 x) q v) (closed_in s.state) (Idle (Closed x)) (Idle (Full x))
      (λ d. (speaks (A1 x) (Closed x) (plain.Closed x) v refl (call.Push x) (here (A1 x) (Idle (Closed x)) refl refl (call.Push x) (plain.Closed x) o (push_closed asked x (closed_is true d)))))
      (λ d. (speaks (A1 x) (Full x) (plain.Full x) v refl (call.Push x)
      (here (A1 x) (Idle (Full x)) refl refl (call.Push x) (plain.Full x) o (push_full asked x (closed_is false d) (eq-eqb _ _ (sc.long ∙ taken_up l b (not_zero t d) ∙ sym less)))))))
    where
      asked : Queue
      asked = asked_of (room_taken st) q₀ (call.Push x)

      less : q₀.capacity - room_taken st ≡ 1 - cond l (cond b 0 1) 0
      less = rw (room_is, sc.room)

      not_zero : same s.state (state 0) ≡ false → closed_in s.state ≡ false → l ≡ false → b ≡ false → ⊥
      not_zero t d el eb =
          let ec : c ≡ false = sym (closed_of s.state l b c sc.is) ∙ d in
          let zero_word : s.state ≡ state 0 = sc.is ∙ rw (el, eb, ec) in
          true≢false (sym same_zero ∙ ap (λ (z : State). same z (state 0)) (sym zero_word) ∙ t)

      won : same s.state (state 0) ≡ true → Outcome (A1 x) (A2 x) v
      won t =
          let z : s.state ≡ word false false false = same_is s.state (state 0) t in
          let el = same_locked s.state l b c sc.is false false false z in
          let eb = same_pushed s.state l b c sc.is false false false z in
          let ec = same_closed s.state l b c sc.is false false false z in
          record {
            due =
                decided_now st (act (A1 x) (A2 x)) (call.Push x) _ _ plain.Pushed refl o (work_on actor change_of 1 st (act (A1 x) (A2 x)) (call.Push x) [] [] o)
                (push_room asked x (sc.flag ∙ ec) (ne_eqb (length q₀.items) (q₀.capacity - room_taken st) (λ e. omega (arith, none_waits eb, none_taken el, room_is))));
            said = λ a f. absurd (not_idle (A2 x) refl a f);
            while_open = λ y e. ec;
          }

  -- ---- force_push
  b1 : (e : State) (x v : ℕ) → v ≡ s.value → Expects (B1 e x) → Work st w (call.ForcePush x) [] []
      → Outcome (B1 e x) (cond (closed_in s.state) (Idle (Closed x)) (cond (same s.state e) (cond (pushed_in s.state) (B4 x) (B2 x)) (B1 (unlocked s.state) x))) v
  b1 e x v same_value k o =
      either (λ (q : Place). Outcome (B1 e x) q v) (closed_in s.state) (Idle (Closed x)) (cond (same s.state e) (cond (pushed_in s.state) (B4 x) (B2 x)) (B1 (unlocked s.state) x))
      (λ d. (speaks (B1 e x) (Closed x) (plain.Closed x) v refl (call.ForcePush x)
      (here (B1 e x) (Idle (Closed x)) refl refl (call.ForcePush x) (plain.Closed x) o (force_closed q₀ x (closed_is true d)))))
      (λ d. either (λ (q : Place). Outcome (B1 e x) q v) (same s.state e) (cond (pushed_in s.state) (B4 x) (B2 x)) (B1 (unlocked s.state) x)
      (λ t. either (λ (q : Place). Outcome (B1 e x) q v) (pushed_in s.state) (B4 x) (B2 x) (over d t) (into d t))
      (λ t. to (B1 e x) (B1 (unlocked s.state) x) refl v refl (still (B1 e x) (B1 (unlocked s.state) x) refl (call.ForcePush x) [] [] o)))
    where
      open_now : closed_in s.state ≡ false → c ≡ false
      open_now d = sym (closed_of s.state l b c sc.is) ∙ d

      unlocked_now : same s.state e ≡ true → l ≡ false
      unlocked_now t = same_locked s.state l b c sc.is false k.0 false (same_is s.state e t ∙ k.1)

      over : closed_in s.state ≡ false → same s.state e ≡ true → pushed_in s.state ≡ true → Outcome (B1 e x) (B4 x) v
      over d t y =
          let items = sc.rests (unlocked_now t) (pushed_is true y) in
          let done = work_on actor change_of 1 st (act (B1 e x) (B4 x)) (call.ForcePush x) [] [] o in
          record {
            due =
                subst (Swapping (now (B1 e x) (B4 x)) w x) (sym same_value)
                (decided_now st (act (B1 e x) (B4 x)) (call.ForcePush x) _ _ (plain.Displaced s.value) refl o
                (subst (Work (now (B1 e x) (B4 x)) w (call.ForcePush x) (items_of (call.ForcePush x ∷ []))) (ap (take 1) items) done)
                (force_full q₀ x s.value [] (closed_is false d) (eq-eqb _ _ (one_waits (pushed_is true y) ∙ sym room_is)) items));
            said = λ a f. absurd (not_idle (B4 x) refl a f);
            while_open = λ z g. open_now d;
          }

      into : closed_in s.state ≡ false → same s.state e ≡ true → pushed_in s.state ≡ false → Outcome (B1 e x) (B2 x) v
      into d t y =
          record {
            due =
                decided_now st (act (B1 e x) (B2 x)) (call.ForcePush x) _ _ plain.Pushed refl o (work_on actor change_of 1 st (act (B1 e x) (B2 x)) (call.ForcePush x) [] [] o)
                (force_room q₀ x (closed_is false d) (ne_eqb (length q₀.items) q₀.capacity (λ g. omega (arith, none_waits (pushed_is false y), room_is))));
            said = λ a f. absurd (not_idle (B2 x) refl a f);
            while_open = λ z g. open_now d;
          }

  -- while a pop keeps the room of an open queue, it goes back
  pub goes_back : (e : State) (x : ℕ) → Expects (B1 e x) → l ≡ true → b ≡ false → c ≡ false → (act_of s (B1 e x)).place ≡ B1 (state 0) x
  unfolding goes
  goes_back e x k el eb ec =
      let is : s.state ≡ word true false false = sc.is ∙ rw (el, eb, ec) in
      rw (closed_of s.state true false false is, other (same s.state e) refl) (ap (λ (z : State). B1 z x) (ap unlocked is ∙ unlocked_word true false false))
    where
      other : (t : Bool) → same s.state e ≡ t → t ≡ false
      other true t = absurd (true≢false (sym el ∙ same_locked s.state l b c sc.is false k.0 false (same_is s.state e t ∙ k.1)))
      other false t = refl

  -- ---- pop
  c1 : (e : State) (v : ℕ) → v ≡ s.value → Expects (C1 e) → Work st w call.Pop [] []
      → Outcome (C1 e) (cond (same s.state e) C2 (cond (pushed_in s.state) (C1 (unlocked s.state)) (cond (closed_in s.state) (Idle PopClosed) (Idle Empty)))) v
  c1 e v same_value k o =
      either (λ (q : Place). Outcome (C1 e) q v) (same s.state e) C2 (cond (pushed_in s.state) (C1 (unlocked s.state)) (cond (closed_in s.state) (Idle PopClosed) (Idle Empty))) won
      (λ t. either (λ (q : Place). Outcome (C1 e) q v) (pushed_in s.state) (C1 (unlocked s.state)) (cond (closed_in s.state) (Idle PopClosed) (Idle Empty))
      (λ y. to (C1 e) (C1 (unlocked s.state)) refl v refl (still (C1 e) (C1 (unlocked s.state)) refl call.Pop [] [] o))
      (λ y. either (λ (q : Place). Outcome (C1 e) q v) (closed_in s.state) (Idle PopClosed) (Idle Empty)
      (λ d. (speaks (C1 e) PopClosed plain.EmptyAndClosed v refl call.Pop (here (C1 e) (Idle PopClosed) refl refl call.Pop plain.EmptyAndClosed o (nothing_there true d y))))
      (λ d. (speaks (C1 e) Empty plain.Empty v refl call.Pop (here (C1 e) (Idle Empty) refl refl call.Pop plain.Empty o (nothing_there false d y))))))
    where
      nothing_there : (shut : Bool) → closed_in s.state ≡ shut → pushed_in s.state ≡ false → answer_of q₀ call.Pop ≡ cond shut plain.EmptyAndClosed plain.Empty
      nothing_there shut d y =
          pop_none q₀ (none_of q₀.items (none_waits (pushed_is false y))) ∙ ap (λ (z : Bool). cond z plain.EmptyAndClosed plain.Empty) (closed_is shut d)

      won : same s.state e ≡ true → Outcome (C1 e) C2 v
      won t =
          let z : s.state ≡ word false true k.0 = same_is s.state e t ∙ k.1 in
          let items = sc.rests (same_locked s.state l b c sc.is false true k.0 z) (same_pushed s.state l b c sc.is false true k.0 z) in
          record {
            due =
                subst (Taking (now (C1 e) C2) w) (sym same_value)
                (decided_now st (act (C1 e) C2) call.Pop _ _ (plain.Popped s.value) refl o
                (subst (Work (now (C1 e) C2) w call.Pop []) (ap (take 1) items) (work_on actor change_of 1 st (act (C1 e) C2) call.Pop [] [] o)) (pop_front q₀ s.value [] items));
            said = λ a f. absurd (not_idle C2 refl a f);
            while_open = λ x g. absurd (no_cons g);
          }

  -- ---- the lookers, and close
  tells : (p : Place) (a : Answer) (r : Reply) (cl : Call) (v : ℕ) → reply_of a ≡ r ∷ [] → timing_of p (Idle a) ≡ Now → plain.put_by (items_of (cl ∷ [])) r ≡ [] → plain.taken_by r ≡ [] → Work st w cl [] []
      → answer_of (asked_of (room_taken st) q₀ cl) cl ≡ r → Outcome p (Idle a) v
  tells p a r cl v says at no_put no_take o is =
      speaks p a r v says cl (rw (no_put, no_take) (here p (Idle a) refl at cl r o is))

  pub row : (p : Place) → (view_of p).busy ≡ true → Expects p → Due st s.value w p → Outcome p (act_of s p).place (act_of s p).single.value
  unfolding goes
  row (Idle a) busy k o = absurd (true≢false (sym busy))
  row (A1 x) busy k o = a1 x _ o
  row (A2 x) busy k o = to (A2 x) A3 refl _ refl (x, kept (A2 x) A3 refl refl _ _ _ _ o)
  row A3 busy k o = speaks A3 Pushed plain.Pushed _ refl (call.Push o.0) (kept A3 (Idle Pushed) refl refl _ _ _ _ o.1)
  row (B1 e x) busy k o = b1 e x _ (value_still e filled) k o
  row (B2 x) busy k o = to (B2 x) B3 refl _ refl (x, kept (B2 x) B3 refl refl _ _ _ _ o)
  row B3 busy k o = speaks B3 Pushed plain.Pushed _ refl (call.ForcePush o.0) (kept B3 (Idle Pushed) refl refl _ _ _ _ o.1)
  row (B4 x) busy k o = to (B4 x) (B5 s.value) refl _ refl (x, kept (B4 x) (B5 s.value) refl refl _ _ _ _ o)
  row (B5 old) busy k o =
      speaks (B5 old) (Displaced old) (plain.Displaced old) _ refl (call.ForcePush o.0) (kept (B5 old) (Idle (Displaced old)) refl refl _ _ _ _ o.1)
  row (C1 e) busy k o = c1 e _ (value_still e (taken_of e)) k o
  row C2 busy k o = to C2 (C3 s.value) refl _ refl (kept C2 (C3 s.value) refl refl _ _ _ _ o)
  row (C3 v) busy k o = speaks (C3 v) (Popped v) (plain.Popped v) _ refl call.Pop (kept (C3 v) (Idle (Popped v)) refl refl _ _ _ _ o)
  row Len1 busy k o =
      tells Len1 (Len (len_of s.state)) (plain.Count (len_of s.state)) call.Len _ refl refl refl refl o
      (ap plain.Count (sc.long ∙ ap (λ (z : Bool). cond z 1 0) (sym (pushed_of s.state l b c sc.is))))
  row Empty1 busy k o =
      either (λ (a : Answer). Outcome Empty1 (Idle a) s.value) (pushed_in s.state) No Yes
      (λ y. tells Empty1 No plain.No call.IsEmpty _ refl refl refl refl o (ap yes_if (ne_eqb (length q₀.items) 0 (λ g. omega (arith, one_waits (pushed_is true y))))))
      (λ y. tells Empty1 Yes plain.Yes call.IsEmpty _ refl refl refl refl o (ap yes_if (eq-eqb (length q₀.items) 0 (none_waits (pushed_is false y)))))
  row Full1 busy k o =
      either (λ (a : Answer). Outcome Full1 (Idle a) s.value) (pushed_in s.state) Yes No
      (λ y. tells Full1 Yes plain.Yes call.IsFull _ refl refl refl refl o (ap yes_if (eq-eqb (length q₀.items) q₀.capacity (one_waits (pushed_is true y) ∙ sym room_is))))
      (λ y. tells Full1 No plain.No call.IsFull _ refl refl refl refl o (ap yes_if (ne_eqb (length q₀.items) q₀.capacity (λ g. omega (arith, none_waits (pushed_is false y), room_is)))))
  row Close1 busy k o =
      either (λ (a : Answer). Outcome Close1 (Idle a) (act_of s Close1).single.value) (closed_in s.state) No Yes
      (λ d. tells Close1 No plain.No call.Close _ refl refl refl refl o (ap (λ (z : Bool). cond z plain.No plain.Yes) (closed_is true d)))
      (λ d. tells Close1 Yes plain.Yes call.Close _ refl refl refl refl o (ap (λ (z : Bool). cond z plain.No plain.Yes) (closed_is false d)))
  row IsClosed1 busy k o =
      either (λ (a : Answer). Outcome IsClosed1 (Idle a) s.value) (closed_in s.state) Yes No
      (λ d. tells IsClosed1 Yes plain.Yes call.IsClosed _ refl refl refl refl o (ap yes_if (closed_is true d)))
      (λ d. tells IsClosed1 No plain.No call.IsClosed _ refl refl refl refl o (ap yes_if (closed_is false d)))
