-- What a worker's call has behind it at each place: what it put in and took out, and the answer that it is to give, decided at its moment. Others' acts and begins leave it so.
use Prim.Native.Nat.{ℕ, ◌+◌, ◌-◌, ◌≤◌, ◌<◌}
use native.Mathlib.Omega.{arith}
use mathlib.Core.Path.{◌≡◌, refl, sym, ap, ◌∙◌, subst}
use mathlib.Core.Logic.{◌≢◌}
use mathlib.Core.Bool.{Bool, true, cond}
use mathlib.Core.List.{List, [], ◌∷◌, ◌++◌}
use lib.ListN.{length, length-append}
use borrow.Author.Tests.{eq-eqb, ne_eqb}
use Rattle.queue_entries.specs.declared.Call.{Call}
use Rattle.queue_entries.specs.declared.Call.TheVariants as call
use Rattle.queue_plain.specs.Plain.{Reply, Queue, answer_of}
use Rattle.queue_plain.specs.Plain as plain
use Rattle.queue_plain.specs.Story.{Begun, Does, Doing, items_of, fresh}
use Rattle.queue_plain.proofs.Stories.{followed_end, take_more, take_whole, known_count, each_own}
use Rattle.queue_plain.proofs.Calls as calls
use Rattle.single_places.specs.declared.Answer.{Answer}
use Rattle.single_places.specs.declared.Place.{Place}
use Rattle.single_places.specs.declared.Place.TheVariants.{Idle, A1, A2, A3, B1, B2, B3, B4, B5, C1, C2, C3, Len1, Empty1, Full1, Close1, IsClosed1}
use Rattle.single_machine.specs.declared.Event.{Event}
use Rattle.single_demands.specs.Stories.{Element, Story, known, change_of, actor, reply_of, popping, room_with, room_taken, asked_of, asked_at, Timing, Now, timing_of, timed, moment_with, moment_of}
use Rattle.single_proof_demand2.proofs.Effects.{hand_of_worker, holding}

-- ---- moments and the room taken, one element more

module _ (st : Story) where
  module _ (e : Event) where
    moment_act : (j : ℕ) → moment_of j (st ++ Does e ∷ []) ≡ moment_with j (known st) (moment_of j st) (Does e)
    moment_act j = followed_end actor change_of (moment_with j) (fresh 1) 0 st (Does e)

    pub moment_own : moment_of e.worker (st ++ Does e ∷ []) ≡ timed (timing_of e.before e.after) (known st).count (moment_of e.worker st)
    moment_own =
        moment_act e.worker
        ∙ ap (λ (b : Bool). cond b (timed (timing_of e.before e.after) (known st).count (moment_of e.worker st)) (moment_of e.worker st)) (eq-eqb e.worker e.worker refl)

    pub moment_else : (j : ℕ) → j ≢ e.worker → moment_of j (st ++ Does e ∷ []) ≡ moment_of j st
    moment_else j ne =
        moment_act j
        ∙ ap (λ (b : Bool). cond b (timed (timing_of e.before e.after) (known st).count (moment_of j st)) (moment_of j st)) (ne_eqb j e.worker ne)

    pub room_act : room_taken (st ++ Does e ∷ []) ≡ room_taken st + cond (popping e.after) 1 0 - cond (popping e.before) 1 0
    room_act = followed_end actor change_of room_with (fresh 1) 0 st (Does e)

  module _ (w : ℕ) (c : Call) where
    pub moment_begun : (j : ℕ) → moment_of j (st ++ Begun w c ∷ []) ≡ moment_of j st
    moment_begun j = followed_end actor change_of (moment_with j) (fresh 1) 0 st (Begun w c)

    pub room_begun : room_taken (st ++ Begun w c ∷ []) ≡ room_taken st
    room_begun = followed_end actor change_of room_with (fresh 1) 0 st (Begun w c)

  pub longer : (x : Element) → length (st ++ x ∷ []) ≡ length st + 1
  longer x = length-append st (x ∷ []) ∙ omega arith

  -- a moment that has been stays as it was
  pub asked_past : (x : Element) (n : ℕ) (c : Call) → n ≤ length st → asked_at n (st ++ x ∷ []) c ≡ asked_at n st c
  asked_past x n c h = ap (λ (z : Story). asked_of (room_taken z) (known z).queue c) (take_more n st x h)

  asked_now : (x : Element) (c : Call) → asked_at (length st) (st ++ x ∷ []) c ≡ asked_of (room_taken st) (known st).queue c
  asked_now x c = ap (λ (z : Story). asked_of (room_taken z) (known z).queue c) (take_more (length st) st x (omega arith) ∙ take_whole st)

-- ---- a call, and one whose answer is decided

abbrev pub Work : Story → ℕ → Call → List ℕ → List ℕ → Type 0
Work = calls.Work actor change_of 1

pub record Decided (st : Story) (w : ℕ) (c : Call) (put took : List ℕ) (r : Reply) : Type 0 where
  pub work : Work st w c put took
  pub begun : ((known st).each w).begun < moment_of w st
  pub inside : moment_of w st < length st
  pub plain : answer_of (asked_at (moment_of w st) st c) c ≡ r

-- its moment stays
pub carried : (st : Story) (x : Element) (w : ℕ) (c : Call) (put took more left : List ℕ) (r : Reply) → Work (st ++ x ∷ []) w c more left
    → ((known (st ++ x ∷ [])).each w).begun ≡ ((known st).each w).begun → moment_of w (st ++ x ∷ []) ≡ moment_of w st → Decided st w c put took r → Decided (st ++ x ∷ []) w c more left r
carried st x w c put took more left r work begun kept o =
    record {
      work = work;
      begun = omega (arith, begun, kept, o.begun);
      inside = omega (arith, kept, o.inside, longer st x);
      plain =
          ap (λ (n : ℕ). answer_of (asked_at n (st ++ x ∷ []) c) c) kept
          ∙ ap (λ (q : Queue). answer_of q c) (asked_past st x (moment_of w st) c (omega (arith, o.inside))) ∙ o.plain;
    }

-- its moment is just before this act
pub decided_now : (st : Story) (e : Event) (c : Call) (put took : List ℕ) (r : Reply) → timing_of e.before e.after ≡ Now → Work st e.worker c [] []
    → Work (st ++ Does e ∷ []) e.worker c put took
    → answer_of (asked_of (room_taken st) (known st).queue c) c ≡ r → Decided (st ++ Does e ∷ []) e.worker c put took r
decided_now st e c put took r now was work says =
    let at : moment_of e.worker (st ++ Does e ∷ []) ≡ length st =
    moment_own st e ∙ ap (λ (t : Timing). timed t (known st).count (moment_of e.worker st)) now ∙ known_count actor change_of 1 st in
    let begun : ((known (st ++ Does e ∷ [])).each e.worker).begun ≡ ((known st).each e.worker).begun = ap (λ (z : Doing). z.begun) (each_own actor change_of 1 st e) in
    record {
      work = work;
      begun = omega (arith, begun, at, was.begun);
      inside = omega (arith, at, longer st (Does e));
      plain = ap (λ (n : ℕ). answer_of (asked_at n (st ++ Does e ∷ []) c) c) at ∙ ap (λ (q : Queue). answer_of q c) (asked_now st (Does e) c) ∙ says;
    }

-- ---- by the place where the worker stands, the slot's value being v

-- what a call answers, it has decided so, and has put in and taken out what that means
pub record Spoken (st : Story) (w : ℕ) (a : Answer) : Type 0 where
  pub reply : Reply
  pub says : reply_of a ≡ reply ∷ []
  pub call : Call
  pub decided : Decided st w call (plain.put_by (items_of (call ∷ [])) reply) (plain.taken_by reply) reply

abbrev pub Entered : Story → ℕ → Call → Type 0
Entered st w c = Decided st w c (items_of (c ∷ [])) [] plain.Pushed

abbrev pub Swapping : Story → ℕ → ℕ → ℕ → Type 0
Swapping st w x old = Decided st w (call.ForcePush x) (items_of (call.ForcePush x ∷ [])) (old ∷ []) (plain.Displaced old)

abbrev pub Taking : Story → ℕ → ℕ → Type 0
Taking st w v = Decided st w call.Pop [] (v ∷ []) (plain.Popped v)

abbrev pub Due : Story → ℕ → ℕ → Place → Type 0
Due st v w (Idle a) = Unit {0}
Due st v w (A1 x) = Work st w (call.Push x) [] []
Due st v w (A2 x) = Entered st w (call.Push x)
Due st v w A3 = (x : ℕ) × Entered st w (call.Push x)
Due st v w (B1 e x) = Work st w (call.ForcePush x) [] []
Due st v w (B2 x) = Entered st w (call.ForcePush x)
Due st v w B3 = (x : ℕ) × Entered st w (call.ForcePush x)
Due st v w (B4 x) = Swapping st w x v
Due st v w (B5 old) = (x : ℕ) × Swapping st w x old
Due st v w (C1 e) = Work st w call.Pop [] []
Due st v w C2 = Taking st w v
Due st v w (C3 u) = Taking st w u
Due st v w Len1 = Work st w call.Len [] []
Due st v w Empty1 = Work st w call.IsEmpty [] []
Due st v w Full1 = Work st w call.IsFull [] []
Due st v w Close1 = Work st w call.Close [] []
Due st v w IsClosed1 = Work st w call.IsClosed [] []

-- ---- another's element: the story goes on, w's part of it stays; the value too, if the slot is in w's hand
module _ (st : Story) (x : Element) (w v u : ℕ) (each : (known (st ++ x ∷ [])).each w ≡ (known st).each w) (kept : moment_of w (st ++ x ∷ []) ≡ moment_of w st) where
  work_else : (c : Call) (put took : List ℕ) → Work st w c put took → Work (st ++ x ∷ []) w c put took
  work_else = calls.work_else actor change_of 1 st x w each

  decided_else : (c : Call) (put took : List ℕ) (r : Reply) → Decided st w c put took r → Decided (st ++ x ∷ []) w c put took r
  decided_else c put took r o =
      carried st x w c put took put took r (work_else c put took o.work) (ap (λ (z : Doing). z.begun) each) kept o

  pub due_else : (p : Place) → (holding (hand_of_worker p) ≡ true → u ≡ v) → Due st v w p → Due (st ++ x ∷ []) u w p
  due_else (Idle a) same o = tt
  due_else (A1 y) same o = work_else _ _ _ o
  due_else (A2 y) same o = decided_else _ _ _ _ o
  due_else A3 same o = (o.0, decided_else _ _ _ _ o.1)
  due_else (B1 e y) same o = work_else _ _ _ o
  due_else (B2 y) same o = decided_else _ _ _ _ o
  due_else B3 same o = (o.0, decided_else _ _ _ _ o.1)
  due_else (B4 y) same o = subst (Swapping (st ++ x ∷ []) w y) (sym (same refl)) (decided_else _ _ _ _ o)
  due_else (B5 old) same o = (o.0, decided_else _ _ _ _ o.1)
  due_else (C1 e) same o = work_else _ _ _ o
  due_else C2 same o = subst (Taking (st ++ x ∷ []) w) (sym (same refl)) (decided_else _ _ _ _ o)
  due_else (C3 y) same o = decided_else _ _ _ _ o
  due_else Len1 same o = work_else _ _ _ o
  due_else Empty1 same o = work_else _ _ _ o
  due_else Full1 same o = work_else _ _ _ o
  due_else Close1 same o = work_else _ _ _ o
  due_else IsClosed1 same o = work_else _ _ _ o
