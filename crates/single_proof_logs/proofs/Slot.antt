-- What no log of the one-slot queue shows: by what every reached machine and its story have behind them, kept along every schedule.
use Prim.Native.Nat.{ℕ, zero, suc, ◌+◌, ◌-◌, ◌≤◌}
use native.Mathlib.Omega.{arith}
use mathlib.Core.Bool.{Bool, true, false, cond, not, true≢false}
use mathlib.Core.List.{List, [], ◌∷◌, ◌++◌, map, append_assoc}
use mathlib.Core.Logic.{◌≢◌, ◌⊎◌, inl, inr}
use mathlib.Core.Path.{◌≡◌, refl, sym, ap, ◌∙◌, subst}
use lib.Dec.{eqb}
use lib.ListN.{length, take, drop}
use borrow.Author.Tests.{eqb-true, eqb-false}
use Rattle.queue_entries.specs.Entries.{entry_of}
use Rattle.queue_entries.specs.declared.Call.{Call}
use Rattle.queue_entries.specs.declared.Call.TheVariants as call
use Rattle.queue_entries.specs.declared.Entry.{Entry}
use Rattle.queue_plain.specs.Plain.{Reply, Queue, answer_of, full_of}
use Rattle.queue_plain.specs.Plain as plain
use Rattle.queue_plain.specs.Story.{Begun, Does, Doing, items_of, begun_in, elements_by, acts_in, known_from, followed_from}
use Rattle.queue_plain.proofs.Stories.{capacity_is, each_own, known_count, queue_now}
use Rattle.queue_schedules.proofs.Histories.{entries_lead}
use Rattle.queue_schedules.proofs.Splits.{no_split}
use Rattle.queue_logs.specs.Logs.{NeverShown, weigh, any, ended}
use Rattle.queue_logs.specs.Logs as logs
use Rattle.queue_logs.proofs.Account.{AskedOf}
use Rattle.queue_logs.proofs.Working.{Working, nothing, entered, took, swapped, same_call, same_reply, no_reply, split_at}
use Rattle.queue_logs.proofs.Times.{TimeBy, Answering, answering, Along, along_first, along_begun, along_act, never_along}
use Rattle.queue_logs.proofs.Late.{never_late}
use Rattle.single_places.specs.declared.Answer.{Answer}
use Rattle.single_places.specs.declared.Answer.TheVariants.{Yes, No}
use Rattle.single_places.specs.declared.Place.{Place}
use Rattle.single_places.specs.declared.Place.TheVariants.{Idle, A1, A2, A3, B1, B2, B3, B4, B5, C1, C2, C3, Len1, Empty1, Full1, Close1, IsClosed1}
use Rattle.single_places.specs.Places.{view_of, begin_of}
use Rattle.single_machine.specs.declared.Machine.{Machine}
use Rattle.single_machine.specs.declared.Event.{Event}
use Rattle.single_machine.specs.Machine.{fresh_of}
use Rattle.single_machine.specs.Turn.{begun, acted, turn_of, turn_of_by}
use Rattle.single_machine.specs.History.{event, events_of}
use Rattle.single_machine.proofs.Turns.{single_queue}
use Rattle.single_acts.specs.Acts.{act_of, goes}
use Rattle.single_words.specs.Words.{locked_in, pushed_in, closed_in}
use Rattle.single_demands.specs.Notions.{source, Allowed, machine_after, Popping, popping_c2, popping_c3, access_of, item_of, is_read, is_close, waiting_from, closed_by}
use Rattle.single_demands.specs.Stories.{Story, story_of, known, queue_at, change_of, actor, reply_of, room_taken, asked_of, asked_at, moment_of, Timing, Now, timing_of, timed}
use Rattle.single_demands.specs.Demands.{Answered, Meant}
use Rattle.single_logs.specs.Logs.{said, said_at, single_log, ShowsNone}
use Rattle.single_proof_demand2.proofs.Words.{locked_of, pushed_of}
use Rattle.single_proof_demand2.proofs.Turns.{Turned, began, did, turned, stood}
use Rattle.single_proof_demand2.proofs.Reached.{in_row, begun_stood, begun_else, acted_stood, acted_else, fresh_stood, fresh_reached}
use Rattle.single_proof_demand2.proofs.Hands.{pop_in_progress}
use Rattle.single_proof_plain.proofs.Work.{Work, Due, moment_own}
use Rattle.single_proof_plain.proofs.Slot.{room_some}
use Rattle.single_proof_plain.proofs.Told.{Told, Bits, bits, told_act, told_begun}

-- Where an act leads to that answers.
said_idle : (p : Place) (r : Reply) (more : List Reply) → said_at p ≡ r ∷ more → (x : Answer) × (p ≡ Idle x) × (reply_of x ≡ r ∷ more)
said_idle (Idle a) r more e = (a, refl, e)
said_idle (A1 x) r more e = no_reply e
said_idle (A2 x) r more e = no_reply e
said_idle A3 r more e = no_reply e
said_idle (B1 z x) r more e = no_reply e
said_idle (B2 x) r more e = no_reply e
said_idle B3 r more e = no_reply e
said_idle (B4 x) r more e = no_reply e
said_idle (B5 old) r more e = no_reply e
said_idle (C1 z) r more e = no_reply e
said_idle C2 r more e = no_reply e
said_idle (C3 v) r more e = no_reply e
said_idle Len1 r more e = no_reply e
said_idle Empty1 r more e = no_reply e
said_idle Full1 r more e = no_reply e
said_idle Close1 r more e = no_reply e
said_idle IsClosed1 r more e = no_reply e

busy_said : (p : Place) → ((x : Answer) → p ≡ Idle x → ended (reply_of x) ≡ true) → (view_of p).busy ≡ not (ended (said_at p))
busy_said (Idle a) h = sym (ap not (h a refl))
busy_said (A1 x) h = refl
busy_said (A2 x) h = refl
busy_said A3 h = refl
busy_said (B1 z x) h = refl
busy_said (B2 x) h = refl
busy_said B3 h = refl
busy_said (B4 x) h = refl
busy_said (B5 old) h = refl
busy_said (C1 z) h = refl
busy_said C2 h = refl
busy_said (C3 v) h = refl
busy_said Len1 h = refl
busy_said Empty1 h = refl
busy_said Full1 h = refl
busy_said Close1 h = refl
busy_said IsClosed1 h = refl

close_at : (p : Place) → is_close p ≡ true → p ≡ Close1
close_at (Idle a) h = absurd (true≢false (sym h))
close_at (A1 x) h = absurd (true≢false (sym h))
close_at (A2 x) h = absurd (true≢false (sym h))
close_at A3 h = absurd (true≢false (sym h))
close_at (B1 z x) h = absurd (true≢false (sym h))
close_at (B2 x) h = absurd (true≢false (sym h))
close_at B3 h = absurd (true≢false (sym h))
close_at (B4 x) h = absurd (true≢false (sym h))
close_at (B5 old) h = absurd (true≢false (sym h))
close_at (C1 z) h = absurd (true≢false (sym h))
close_at C2 h = absurd (true≢false (sym h))
close_at (C3 v) h = absurd (true≢false (sym h))
close_at Len1 h = absurd (true≢false (sym h))
close_at Empty1 h = absurd (true≢false (sym h))
close_at Full1 h = absurd (true≢false (sym h))
close_at Close1 h = refl
close_at IsClosed1 h = absurd (true≢false (sym h))

busy_begun : (c : Call) → (view_of (begin_of c)).busy ≡ true
busy_begun (call.Push x) = refl
busy_begun (call.ForcePush x) = refl
busy_begun call.Pop = refl
busy_begun call.Len = refl
busy_begun call.IsEmpty = refl
busy_begun call.IsFull = refl
busy_begun call.Close = refl
busy_begun call.IsClosed = refl

-- ---- what a call under way has put in and taken out
module _ (st : Story) (v w : ℕ) where
  abbrev Busy : Type 0
  Busy = Working actor change_of 1 st w

  still : (c : Call) → Work st w c [] [] → Busy
  still c o = nothing actor change_of 1 st w c o

  in_now : (c : Call) → Work st w c (items_of (c ∷ [])) [] → Busy
  in_now c o = entered actor change_of 1 st w c (items_of (c ∷ [])) refl o

  both_done : (x u : ℕ) → Work st w (call.ForcePush x) (items_of (call.ForcePush x ∷ [])) (u ∷ []) → Busy
  both_done x u o = swapped actor change_of 1 st w (call.ForcePush x) (items_of (call.ForcePush x ∷ [])) u refl refl o

  out_now : (u : ℕ) → Work st w call.Pop [] (u ∷ []) → Busy
  out_now u o = took actor change_of 1 st w call.Pop u refl o

  working_at : (p : Place) → (view_of p).busy ≡ true → Due st v w p → Busy
  working_at (Idle a) h o = absurd (true≢false (sym h))
  working_at (A1 x) h o = still (call.Push x) o
  working_at (A2 x) h o = in_now (call.Push x) o.work
  working_at A3 h o = in_now (call.Push o.0) o.1.work
  working_at (B1 z x) h o = still (call.ForcePush x) o
  working_at (B2 x) h o = in_now (call.ForcePush x) o.work
  working_at B3 h o = in_now (call.ForcePush o.0) o.1.work
  working_at (B4 x) h o = both_done x v o.work
  working_at (B5 old) h o = both_done o.0 old o.1.work
  working_at (C1 z) h o = still call.Pop o
  working_at C2 h o = out_now v o.work
  working_at (C3 u) h o = out_now u o.work
  working_at Len1 h o = still call.Len o
  working_at Empty1 h o = still call.IsEmpty o
  working_at Full1 h o = still call.IsFull o
  working_at Close1 h o = still call.Close o
  working_at IsClosed1 h o = still call.IsClosed o

  -- a call takes out before it puts in, or in one act
  taken_first : (p : Place) → is_read (access_of p) ≡ true → Due st v w p → ((known st).each w).puts ≡ cond (eqb (length (item_of (access_of p))) 1) (items_of ((known st).each w).calls) []
  taken_first (Idle a) h o = absurd (true≢false (sym h))
  taken_first (A1 x) h o = absurd (true≢false (sym h))
  taken_first (A2 x) h o = absurd (true≢false (sym h))
  taken_first A3 h o = absurd (true≢false (sym h))
  taken_first (B1 z x) h o = absurd (true≢false (sym h))
  taken_first (B2 x) h o = absurd (true≢false (sym h))
  taken_first B3 h o = absurd (true≢false (sym h))
  taken_first (B4 x) h o = o.work.puts ∙ ap items_of (sym o.work.its)
  taken_first (B5 old) h o = absurd (true≢false (sym h))
  taken_first (C1 z) h o = absurd (true≢false (sym h))
  taken_first C2 h o = o.work.puts
  taken_first (C3 u) h o = absurd (true≢false (sym h))
  taken_first Len1 h o = absurd (true≢false (sym h))
  taken_first Empty1 h o = absurd (true≢false (sym h))
  taken_first Full1 h o = absurd (true≢false (sym h))
  taken_first Close1 h o = absurd (true≢false (sym h))
  taken_first IsClosed1 h o = absurd (true≢false (sym h))

  -- a pop that holds the room has taken one item out
  popped_one : (p : Place) → Popping p → Due st v w p → ((view_of p).busy ≡ true) × (weigh any ((known st).each w).takes ≡ 1)
  unfolding weigh
  popped_one (Idle a) h o = elim h [ ]
  popped_one (A1 x) h o = elim h [ ]
  popped_one (A2 x) h o = elim h [ ]
  popped_one A3 h o = elim h [ ]
  popped_one (B1 z x) h o = elim h [ ]
  popped_one (B2 x) h o = elim h [ ]
  popped_one B3 h o = elim h [ ]
  popped_one (B4 x) h o = elim h [ ]
  popped_one (B5 old) h o = elim h [ ]
  popped_one (C1 z) h o = elim h [ ]
  popped_one C2 popping_c2 o = (refl, ap (weigh any) o.work.takes)
  popped_one (C3 u) popping_c3 o = (refl, ap (weigh any) o.work.takes)
  popped_one Len1 h o = elim h [ ]
  popped_one Empty1 h o = elim h [ ]
  popped_one Full1 h o = elim h [ ]
  popped_one Close1 h o = elim h [ ]
  popped_one IsClosed1 h o = elim h [ ]

-- ---- an answer, of `Answered` and `Meant`

-- the queue that is asked has those items
asked_items : (room : ℕ) (q : Queue) (c : Call) → ((asked_of room q c).items ≡ q.items) × ((asked_of room q c).closed ≡ q.closed)
asked_items room q (call.Push x) = (refl, refl)
asked_items room q (call.ForcePush x) = (refl, refl)
asked_items room q call.Pop = (refl, refl)
asked_items room q call.Len = (refl, refl)
asked_items room q call.IsEmpty = (refl, refl)
asked_items room q call.IsFull = (refl, refl)
asked_items room q call.Close = (refl, refl)
asked_items room q call.IsClosed = (refl, refl)

module _ (room : ℕ) (q : Queue) (one : q.capacity ≡ 1) where
  asked_full : (c : Call) → full_of (asked_of room q c) ≡ true → 1 ≤ length q.items + cond (logs.takes c) 0 room
  asked_full (call.Push x) h = omega (arith, eqb-true (length q.items) (q.capacity - room) h, one)
  asked_full (call.ForcePush x) h = omega (arith, eqb-true (length q.items) q.capacity h, one)
  asked_full call.Pop h = omega (arith, eqb-true (length q.items) q.capacity h, one)
  asked_full call.Len h = omega (arith, eqb-true (length q.items) q.capacity h, one)
  asked_full call.IsEmpty h = omega (arith, eqb-true (length q.items) q.capacity h, one)
  asked_full call.IsFull h = omega (arith, eqb-true (length q.items) q.capacity h, one)
  asked_full call.Close h = omega (arith, eqb-true (length q.items) q.capacity h, one)
  asked_full call.IsClosed h = omega (arith, eqb-true (length q.items) q.capacity h, one)

  asked_room : (c : Call) → length q.items + room ≤ 1 → full_of (asked_of room q c) ≡ false → length q.items ≢ 1
  asked_room (call.Push x) fits h e = eqb-false (length q.items) (q.capacity - room) h (omega (arith, e, one, fits))
  asked_room (call.ForcePush x) fits h e = eqb-false (length q.items) q.capacity h (e ∙ sym one)
  asked_room call.Pop fits h e = eqb-false (length q.items) q.capacity h (e ∙ sym one)
  asked_room call.Len fits h e = eqb-false (length q.items) q.capacity h (e ∙ sym one)
  asked_room call.IsEmpty fits h e = eqb-false (length q.items) q.capacity h (e ∙ sym one)
  asked_room call.IsFull fits h e = eqb-false (length q.items) q.capacity h (e ∙ sym one)
  asked_room call.Close fits h e = eqb-false (length q.items) q.capacity h (e ∙ sym one)
  asked_room call.IsClosed fits h e = eqb-false (length q.items) q.capacity h (e ∙ sym one)

module _ (st : Story) (e : Event) (x : Answer) (r : Reply) (more : List Reply) (is : reply_of x ≡ r ∷ more) (a : Answered st e x)
    (fits : (n : ℕ) → n ≤ length st → length (queue_at n st).items + room_taken (take n st) ≤ 1) where
  asks : AskedOf 1 (room_taken (take a.moment st)) (queue_at a.moment st) a.call r
  asks =
      let room = room_taken (take a.moment st) in
      let q = queue_at a.moment st in
      let one : q.capacity ≡ 1 = capacity_is actor change_of 1 (take a.moment st) in
      record {
        asked = asked_at a.moment st a.call;
        items = (asked_items room q a.call).0;
        closed = (asked_items room q a.call).1;
        full = asked_full room q one a.call;
        room = asked_room room q one a.call (fits a.moment a.inside);
        says = same_reply (answer_of (asked_at a.moment st a.call) a.call) r [] more (a.plain ∙ is);
      }

  says : Meant st e x → Answering actor change_of said true true 1 room_taken 1 st e r
  says m =
      answering actor change_of said true true 1 room_taken 1 st e a.call r more (reply_of x) is a.its m.put m.took m.closed (λ u. (a.moment, a.begun, a.inside, asks))

-- ---- along every schedule
module _ (workers : ℕ) where
  abbrev busy_of : Machine → ℕ → Bool
  busy_of m w = (view_of (stood m w)).busy

  abbrev Kept : Machine → Story → Type 0
  Kept m st = Along actor change_of said true true 1 room_taken 1 (busy_of m) st

  room_most : (l b : Bool) → cond b 1 0 + cond l (cond b 0 1) 0 ≤ 1
  room_most true true = omega arith
  room_most true false = omega arith
  room_most false true = omega arith
  room_most false false = omega arith

  time_of : (m : Machine) (st : Story) → Told workers m st → TimeBy actor change_of said true true 1 room_taken 1 (busy_of m) st
  time_of m st o =
      record {
        working = λ w h. working_at st m.single.value w (stood m w) h (o.dues w);
        fits = omega (arith, at.scene.long, at.scene.room, room_most at.l at.b);
        holds = go (room_taken st) refl;
      }
    where
      at : Bits workers m st o
      at = bits workers m st o

      go : (n : ℕ) → room_taken st ≡ n → (room_taken st ≡ 0) ⊎ ((w : ℕ) × (busy_of m w ≡ true) × (room_taken st ≤ weigh any ((known st).each w).takes))
      go zero e = inl e
      go (suc n) e =
          let z = room_some at.l at.b (omega (arith, e, at.scene.room)) in
          let p = pop_in_progress workers m (acts_in st) o.reached (locked_of m.single.state at.l at.b o.reached.closed at.scene.is ∙ z.0)
          (pushed_of m.single.state at.l at.b o.reached.closed at.scene.is ∙ z.1) in
          let t = popped_one st m.single.value p.0 (stood m p.0) p.1 (o.dues p.0) in
          inr (p.0, t.0, omega (arith, t.1, at.scene.room, room_most at.l at.b))

  -- every accepted entry leads on
  both_kept : (m : Machine) (st : Story) (en : Entry) (next : Machine) (acts : List Event) → Told workers m st → Kept m st → Turned m en next acts
      → Told workers next (st ++ (begun_in en ++ map Does acts)) × Kept next (st ++ (begun_in en ++ map Does acts))
  unfolding goes
  both_kept m st en next acts o k (began w cl mine idle) =
      let new = told_begun workers m st o w mine cl idle in
      let there = in_row workers m (acts_in st) o.reached w mine in (
        new,
        along_begun actor change_of said true true 1 room_taken 1 st w cl (busy_of m) (busy_of (begun m w (begin_of cl))) k
            (ap (λ (p : Place). (view_of p).busy) (begun_stood m w (begin_of cl) there) ∙ busy_begun cl) (λ j far. ap (λ (p : Place). (view_of p).busy) (begun_else m w (begin_of cl) j far))
            (time_of (begun m w (begin_of cl)) (st ++ Begun w cl ∷ []) new),
      )
  both_kept m st en next acts o k (did w lose mine busy early) = (
    new,
    along_act actor change_of said true true 1 room_taken 1 st done (busy_of m) (busy_of now) k busy own
        (λ j far. ap (λ (p : Place). (view_of p).busy) (acted_else m w (stood m w) j far)) (time_of now (st ++ Does done ∷ []) new) first closing (λ h. refl),
  )
    where
      now : Machine
      now = acted m w (stood m w)

      done : Event
      done = event w (stood m w) (stood (acted m w (stood m w)) w)

      new : Told workers now (st ++ Does done ∷ [])
      new = told_act workers m st o w mine busy

      own : busy_of now w ≡ not (ended (said done))
      own = busy_said (stood now w) (λ x e. ap ended (sym (new.answers st [] done x refl e).0.plain))

      same_calls : ((known (st ++ Does done ∷ [])).each w).calls ≡ ((known st).each w).calls
      same_calls = ap (λ (z : Doing). z.calls) (each_own actor change_of 1 st done)

      first : (change_of done).takes ≡ true → ((known (st ++ Does done ∷ [])).each w).puts ≡ cond (change_of done).puts (items_of ((known st).each w).calls) []
      first h =
          taken_first (st ++ Does done ∷ []) now.single.value w (stood now w) h (new.dues w)
          ∙ ap (λ (l : List Call). cond (change_of done).puts (items_of l) []) same_calls

      -- a close's one act answers yes where it is open
      closing : (change_of done).closes ≡ true → (known st).queue.closed ≡ false → (((known st).each w).calls ≡ call.Close ∷ []) × (said done ≡ plain.Yes ∷ [])
      closing h still =
          let at = close_at (stood m w) h in
          let its : ((known st).each w).calls ≡ call.Close ∷ [] = (subst (Due st m.single.value w) at (o.dues w)).its in
          let led = leads at in
          let t = (new.answers st [] done led.0 refl led.1).0 in
          let now_asked : t.moment ≡ length st = sym t.named ∙ moment_own st done
          ∙ ap (λ (z : Timing). timed z (known st).count (moment_of w st)) (timing at led.0 led.1) ∙ known_count actor change_of 1 st in
          let same : t.call ≡ call.Close = same_call t.call call.Close (sym t.its ∙ its) in
          let asked : asked_at t.moment st t.call ≡ (known st).queue =
          ap (λ (n : ℕ). asked_at n st t.call) now_asked ∙ ap (asked_at (length st) st) same ∙ queue_now actor change_of 1 st in (
            its,
            ap said_at led.1 ∙ sym t.plain ∙ ap (λ (z : Reply). z ∷ [])
                (ap (λ (q : Queue). answer_of q t.call) asked ∙ ap (answer_of (known st).queue) same ∙ ap (λ (b : Bool). cond b plain.No plain.Yes) still),
          )
        where
          leads : stood m w ≡ Close1 → (x : Answer) × (stood now w ≡ Idle x)
          leads at = (cond (closed_in m.single.state) No Yes, acted_stood m w (stood m w) (in_row workers m (acts_in st) o.reached w mine) ∙ ap (λ (p : Place). (act_of m.single p).place) at)

          timing : stood m w ≡ Close1 → (x : Answer) → stood now w ≡ Idle x → timing_of (stood m w) (stood now w) ≡ Now
          timing at x e = ap (λ (p : Place). timing_of p (stood now w)) at ∙ ap (timing_of Close1) e

  one_entry : (m : Machine) (st : Story) (i j : ℕ) → Told workers m st × Kept m st → (turn_of m i j).refusal ≡ 0
      → Told workers (turn_of m i j).machine (st ++ elements_by events_of m (entry_of i j) (turn_of m i j).machine)
      × Kept (turn_of m i j).machine (st ++ elements_by events_of m (entry_of i j) (turn_of m i j).machine)
  unfolding turn_of_by
  one_entry m st i j both e = both_kept m st (entry_of i j) _ _ both.0 both.1 (turned m (entry_of i j) e)

  told_first : Allowed workers → Told workers (fresh_of workers) []
  unfolding fresh_of locked_in pushed_in known_from followed_from acts_in waiting_from closed_by
  told_first a =
      record {
        reached = fresh_reached workers a;
        items = refl;
        flag = refl;
        room = refl;
        dues = λ w. subst (Due [] (fresh_of workers).single.value w) (sym (fresh_stood workers w)) tt;
        answers = λ xs ys act x e said. absurd (no_split xs (Does act) ys e);
        changes = λ xs ys act e. absurd (no_split xs (Does act) ys e);
      }

  first_both : Allowed workers → Told workers (fresh_of workers) [] × Kept (fresh_of workers) []
  first_both a =
      let o = told_first a in
      (o, along_first actor change_of said true true 1 room_taken 1 (busy_of (fresh_of workers)) (λ w. ap (λ (p : Place). (view_of p).busy) (fresh_stood workers w)) (time_of (fresh_of workers) [] o))

  both_after : Allowed workers → (s : List ℕ) → Told workers (machine_after source workers s) (story_of source workers s) × Kept (machine_after source workers s) (story_of source workers s)
  both_after a s = entries_lead single_queue (elements_by events_of) (λ (m : Machine) (st : Story). Told workers m st × Kept m st) one_entry s (fresh_of workers) [] 0 (first_both a)

  -- the tight log
  never_in : Allowed workers → (s : List ℕ) → NeverShown 1 true true (single_log source workers s)
  never_in a s =
      never_along actor change_of said true true 1 room_taken 1 (omega arith) (busy_of (machine_after source workers s)) (story_of source workers s) both.1
      (λ earlier later e r more split is.
      let z = said_idle e.after r more is in
      let t = both.0.answers earlier later e z.0 split z.1 in
      says earlier e z.0 r more z.2 t.0
      (λ n i. (both.1.times (take n earlier) (drop n earlier ++ Does e ∷ later)
      (split ∙ ap (λ (l : Story). l ++ Does e ∷ later) (split_at n earlier) ∙ append_assoc (take n earlier) (drop n earlier) (Does e ∷ later))).fits)
      t.1)
    where
      both : Told workers (machine_after source workers s) (story_of source workers s) × Kept (machine_after source workers s) (story_of source workers s)
      both = both_after a s

pub shows_none : ShowsNone source
shows_none workers a s seen late = never_late (single_log source workers s) seen late 1 true true (never_in workers a s)
