-- What no log of the unbounded queue shows: by what every reached machine and its story have behind them, kept along every schedule.
use Prim.Native.Nat.{ℕ, ◌+◌, ◌<◌}
use native.Mathlib.Omega.{arith}
use mathlib.Core.Bool.{Bool, true, false, cond, not, true≢false}
use mathlib.Core.List.{List, [], ◌∷◌, ◌++◌}
use mathlib.Core.Logic.{◌≢◌, ◌⊎◌, inl, inr}
use mathlib.Core.Path.{◌≡◌, refl, sym, ap, ◌∙◌, subst}
use lib.Dec.{eqb}
use lib.ListN.{length, take, length-append}
use borrow.Author.Tests.{eqb-true}
use Rattle.queue_entries.specs.Entries.{entry_of}
use Rattle.queue_entries.specs.declared.Call.{Call}
use Rattle.queue_entries.specs.declared.Call.TheVariants as call
use Rattle.queue_entries.specs.declared.Entry.{Entry}
use Rattle.queue_plain.specs.Plain.{Reply, answer_of}
use Rattle.queue_plain.specs.Plain as plain
use Rattle.queue_plain.specs.Story.{Begun, Does, items_of, elements_by, acts_in, known_from, followed_from}
use Rattle.queue_plain.specs.Story as stories
use Rattle.queue_schedules.proofs.Histories.{entries_lead}
use Rattle.queue_schedules.proofs.Splits.{no_split}
use Rattle.queue_logs.specs.Logs.{NeverShown, ended}
use Rattle.queue_logs.proofs.Account.{AskedOf, unread}
use Rattle.queue_logs.proofs.Few.{few_items, few_first}
use Rattle.queue_logs.proofs.Working.{Working, nothing, entered, took, same_reply, no_reply}
use Rattle.queue_logs.proofs.Times.{TimeBy, Answering, answering, Along, along_first, along_begun, along_act, never_along}
use Rattle.queue_logs.proofs.Late.{never_late}
use Rattle.unbounded_words.specs.declared.Index.{Index}
use Rattle.unbounded_words.specs.Words.{sizes, marked_of}
use Rattle.unbounded_places.specs.declared.Block.{Block}
use Rattle.unbounded_places.specs.declared.Ends.{Ends}
use Rattle.unbounded_places.specs.declared.Slot.{Slot}
use Rattle.unbounded_places.specs.declared.Answer.{Answer}
use Rattle.unbounded_places.specs.declared.Answer.TheVariants.{Nothing, Pushed, Closed, Popped, Empty, PopClosed, Len, Yes, No}
use Rattle.unbounded_places.specs.declared.Place.{Place}
use Rattle.unbounded_places.specs.declared.Place.TheVariants.{Idle, U1, U2, U3, U4, U5, U6, U7, U8, U9, U10, U11, U12, U13, U14, U15, V1, V2, V3, V4, V5, V6}
use Rattle.unbounded_places.specs.declared.Place.TheVariants.{V7, V8, V9, V10, V11, V12, V13, V14, V15, Len1, Len2, Len3, Empty1, Empty2, Full1, Close1}
use Rattle.unbounded_places.specs.declared.Place.TheVariants.{IsClosed1}
use Rattle.unbounded_places.specs.Places.{view_of, begin_of}
use Rattle.unbounded_acts.specs.Acts.{act_of, leave}
use Rattle.unbounded_machine.specs.declared.Machine.{Machine}
use Rattle.unbounded_machine.specs.declared.Event.{Event}
use Rattle.unbounded_machine.specs.Machine.{fresh_of, block_at, slot_at}
use Rattle.unbounded_machine.specs.Turn.{turn_with, acted_at, block_used, slot_used}
use Rattle.unbounded_machine.specs.History.{event, events_of}
use Rattle.unbounded_demands.proofs.Refusals.{unbounded_queue}
use Rattle.unbounded_demands.specs.Notions.{Allowed, machine_after, takers_of, Sign, Plain, Exchange7, Exchange4, Pops, Pushes, HandsOut, sign_of, pops_to, takes_by, item_by}
use Rattle.unbounded_demands.specs.Notions as notions
use Rattle.unbounded_demands.specs.Stories.{Story, story_of, Task, Rests, Starts, Tries, Given, Enters, Entered, Frees, Takes, LoadsHead, Counts, LooksAtTail}
use Rattle.unbounded_demands.specs.Stories.{task_of, closes, change_of, actor, known, queue_at, reply_of}
use Rattle.unbounded_demands.specs.Demands.{Answered, AtBlocksEnd, Meant}
use Rattle.unbounded_logs.specs.Logs.{said, said_at, unbounded_log, ShowsNone}
use Rattle.unbounded_proof_demand2.proofs.Turns.{Turned, began, used, took as took_block, stood, turned}
use Rattle.unbounded_proof_demand2.proofs.Demand2.{table, fresh_stood, fresh_reached}
use Rattle.unbounded_proof_plain.proofs.Steps.{stored_stood, stored_else, begun_stood, begun_else}
use Rattle.unbounded_proof_plain.proofs.Work.{Work, FreesBy, Due}
use Rattle.unbounded_proof_plain.proofs.Told.{Told, told_kept}

-- Where an act leads to that answers.
said_idle : (p : Place) (r : Reply) (more : List Reply) → said_at (task_of p) ≡ r ∷ more → (x : Answer) × (p ≡ Idle x) × (reply_of x ≡ r ∷ more)
said_idle (Idle a) r more e = (a, refl, e)
said_idle (U1 n x) r more e = no_reply e
said_idle (U2 n t x) r more e = no_reply e
said_idle (U3 t b x) r more e = no_reply e
said_idle (U4 n t x) r more e = no_reply e
said_idle (U5 n t new x) r more e = no_reply e
said_idle (U6 n t new x) r more e = no_reply e
said_idle (U7 n t b x) r more e = no_reply e
said_idle (U8 n t x) r more e = no_reply e
said_idle (U9 n t b x) r more e = no_reply e
said_idle (U10 n t b x) r more e = no_reply e
said_idle (U11 n t b x) r more e = no_reply e
said_idle (U12 n t b x) r more e = no_reply e
said_idle (U13 n t b) r more e = no_reply e
said_idle (U14 n a) r more e = no_reply e
said_idle (U15 n new x) r more e = no_reply e
said_idle V1 r more e = no_reply e
said_idle (V2 i) r more e = no_reply e
said_idle (V3 i b) r more e = no_reply e
said_idle (V4 i b new) r more e = no_reply e
said_idle (V5 i) r more e = no_reply e
said_idle (V6 i b new) r more e = no_reply e
said_idle (V7 i b new next) r more e = no_reply e
said_idle (V8 i b next j) r more e = no_reply e
said_idle (V9 i b j) r more e = no_reply e
said_idle (V10 i b) r more e = no_reply e
said_idle (V11 i b) r more e = no_reply e
said_idle (V12 i b v) r more e = no_reply e
said_idle (V13 b i v) r more e = no_reply e
said_idle (V14 b i v) r more e = no_reply e
said_idle (V15 b v) r more e = no_reply e
said_idle Len1 r more e = no_reply e
said_idle (Len2 t) r more e = no_reply e
said_idle (Len3 t i) r more e = no_reply e
said_idle Empty1 r more e = no_reply e
said_idle (Empty2 i) r more e = no_reply e
said_idle Full1 r more e = no_reply e
said_idle Close1 r more e = no_reply e
said_idle IsClosed1 r more e = no_reply e

busy_said : (p : Place) → ((x : Answer) → p ≡ Idle x → ended (reply_of x) ≡ true) → (view_of sizes p).busy ≡ not (ended (said_at (task_of p)))
busy_said (Idle a) h = sym (ap not (h a refl))
busy_said (U1 n x) h = refl
busy_said (U2 n t x) h = refl
busy_said (U3 t b x) h = refl
busy_said (U4 n t x) h = refl
busy_said (U5 n t new x) h = refl
busy_said (U6 n t new x) h = refl
busy_said (U7 n t b x) h = refl
busy_said (U8 n t x) h = refl
busy_said (U9 n t b x) h = refl
busy_said (U10 n t b x) h = refl
busy_said (U11 n t b x) h = refl
busy_said (U12 n t b x) h = refl
busy_said (U13 n t b) h = refl
busy_said (U14 n a) h = refl
busy_said (U15 n new x) h = refl
busy_said V1 h = refl
busy_said (V2 i) h = refl
busy_said (V3 i b) h = refl
busy_said (V4 i b new) h = refl
busy_said (V5 i) h = refl
busy_said (V6 i b new) h = refl
busy_said (V7 i b new next) h = refl
busy_said (V8 i b next j) h = refl
busy_said (V9 i b j) h = refl
busy_said (V10 i b) h = refl
busy_said (V11 i b) h = refl
busy_said (V12 i b v) h = refl
busy_said (V13 b i v) h = refl
busy_said (V14 b i v) h = refl
busy_said (V15 b v) h = refl
busy_said Len1 h = refl
busy_said (Len2 t) h = refl
busy_said (Len3 t i) h = refl
busy_said Empty1 h = refl
busy_said (Empty2 i) h = refl
busy_said Full1 h = refl
busy_said Close1 h = refl
busy_said IsClosed1 h = refl

close_at : (p : Place) → closes (task_of p) ≡ true → p ≡ Close1
close_at (Idle a) h = absurd (true≢false (sym h))
close_at (U1 n x) h = absurd (true≢false (sym h))
close_at (U2 n t x) h = absurd (true≢false (sym h))
close_at (U3 t b x) h = absurd (true≢false (sym h))
close_at (U4 n t x) h = absurd (true≢false (sym h))
close_at (U5 n t new x) h = absurd (true≢false (sym h))
close_at (U6 n t new x) h = absurd (true≢false (sym h))
close_at (U7 n t b x) h = absurd (true≢false (sym h))
close_at (U8 n t x) h = absurd (true≢false (sym h))
close_at (U9 n t b x) h = absurd (true≢false (sym h))
close_at (U10 n t b x) h = absurd (true≢false (sym h))
close_at (U11 n t b x) h = absurd (true≢false (sym h))
close_at (U12 n t b x) h = absurd (true≢false (sym h))
close_at (U13 n t b) h = absurd (true≢false (sym h))
close_at (U14 n a) h = absurd (true≢false (sym h))
close_at (U15 n new x) h = absurd (true≢false (sym h))
close_at V1 h = absurd (true≢false (sym h))
close_at (V2 i) h = absurd (true≢false (sym h))
close_at (V3 i b) h = absurd (true≢false (sym h))
close_at (V4 i b new) h = absurd (true≢false (sym h))
close_at (V5 i) h = absurd (true≢false (sym h))
close_at (V6 i b new) h = absurd (true≢false (sym h))
close_at (V7 i b new next) h = absurd (true≢false (sym h))
close_at (V8 i b next j) h = absurd (true≢false (sym h))
close_at (V9 i b j) h = absurd (true≢false (sym h))
close_at (V10 i b) h = absurd (true≢false (sym h))
close_at (V11 i b) h = absurd (true≢false (sym h))
close_at (V12 i b v) h = absurd (true≢false (sym h))
close_at (V13 b i v) h = absurd (true≢false (sym h))
close_at (V14 b i v) h = absurd (true≢false (sym h))
close_at (V15 b v) h = absurd (true≢false (sym h))
close_at Len1 h = absurd (true≢false (sym h))
close_at (Len2 t) h = absurd (true≢false (sym h))
close_at (Len3 t i) h = absurd (true≢false (sym h))
close_at Empty1 h = absurd (true≢false (sym h))
close_at (Empty2 i) h = absurd (true≢false (sym h))
close_at Full1 h = absurd (true≢false (sym h))
close_at Close1 h = refl
close_at IsClosed1 h = absurd (true≢false (sym h))

pops_none : (a : Answer) → pops_to (sign_of (Idle a)) ≡ true → task_of (Idle a) ≡ Takes
pops_none Nothing h = absurd (true≢false (sym h))
pops_none Pushed h = absurd (true≢false (sym h))
pops_none (Closed x) h = absurd (true≢false (sym h))
pops_none (Popped v) h = absurd (true≢false (sym h))
pops_none Empty h = absurd (true≢false (sym h))
pops_none PopClosed h = absurd (true≢false (sym h))
pops_none (Len n) h = absurd (true≢false (sym h))
pops_none Yes h = absurd (true≢false (sym h))
pops_none No h = absurd (true≢false (sym h))

pops_to_lem : (p : Place) → pops_to (sign_of p) ≡ true → task_of p ≡ Takes
pops_to_lem (Idle a) h = pops_none a h
pops_to_lem (U1 n x) h = absurd (true≢false (sym h))
pops_to_lem (U2 n t x) h = absurd (true≢false (sym h))
pops_to_lem (U3 t b x) h = absurd (true≢false (sym h))
pops_to_lem (U4 n t x) h = absurd (true≢false (sym h))
pops_to_lem (U5 n t new x) h = absurd (true≢false (sym h))
pops_to_lem (U6 n t new x) h = absurd (true≢false (sym h))
pops_to_lem (U7 n t b x) h = absurd (true≢false (sym h))
pops_to_lem (U8 n t x) h = absurd (true≢false (sym h))
pops_to_lem (U9 n t b x) h = absurd (true≢false (sym h))
pops_to_lem (U10 n t b x) h = absurd (true≢false (sym h))
pops_to_lem (U11 n t b x) h = absurd (true≢false (sym h))
pops_to_lem (U12 n t b x) h = absurd (true≢false (sym h))
pops_to_lem (U13 n t b) h = absurd (true≢false (sym h))
pops_to_lem (U14 n a) h = absurd (true≢false (sym h))
pops_to_lem (U15 n new x) h = absurd (true≢false (sym h))
pops_to_lem V1 h = absurd (true≢false (sym h))
pops_to_lem (V2 i) h = absurd (true≢false (sym h))
pops_to_lem (V3 i b) h = absurd (true≢false (sym h))
pops_to_lem (V4 i b new) h = absurd (true≢false (sym h))
pops_to_lem (V5 i) h = absurd (true≢false (sym h))
pops_to_lem (V6 i b new) h = refl
pops_to_lem (V7 i b new next) h = absurd (true≢false (sym h))
pops_to_lem (V8 i b next j) h = absurd (true≢false (sym h))
pops_to_lem (V9 i b j) h = absurd (true≢false (sym h))
pops_to_lem (V10 i b) h = refl
pops_to_lem (V11 i b) h = absurd (true≢false (sym h))
pops_to_lem (V12 i b v) h = absurd (true≢false (sym h))
pops_to_lem (V13 b i v) h = absurd (true≢false (sym h))
pops_to_lem (V14 b i v) h = absurd (true≢false (sym h))
pops_to_lem (V15 b v) h = absurd (true≢false (sym h))
pops_to_lem Len1 h = absurd (true≢false (sym h))
pops_to_lem (Len2 t) h = absurd (true≢false (sym h))
pops_to_lem (Len3 t i) h = absurd (true≢false (sym h))
pops_to_lem Empty1 h = absurd (true≢false (sym h))
pops_to_lem (Empty2 i) h = absurd (true≢false (sym h))
pops_to_lem Full1 h = absurd (true≢false (sym h))
pops_to_lem Close1 h = absurd (true≢false (sym h))
pops_to_lem IsClosed1 h = absurd (true≢false (sym h))

busy_begun : (c : Call) → (view_of sizes (begin_of c)).busy ≡ true
busy_begun (call.Push x) = refl
busy_begun (call.ForcePush x) = refl
busy_begun call.Pop = refl
busy_begun call.Len = refl
busy_begun call.IsEmpty = refl
busy_begun call.IsFull = refl
busy_begun call.Close = refl
busy_begun call.IsClosed = refl

-- a close's act on an open queue answers yes
close_yes : (e : Ends) (k : ℕ) (g : Block) (s : Slot) (lose : Bool) → marked_of e.tail ≡ false → (act_of sizes e k g s Close1 lose).place ≡ Idle Yes
unfolding leave
close_yes e k g s lose h = rw h

-- ---- what a call under way has put in and taken out
module _ (st : Story) (i : Index) (w : ℕ) where
  abbrev Under : Type 0
  Under = Working actor change_of 0 st w

  still : (c : Call) → Work st w c [] [] → Under
  still c o = nothing actor change_of 0 st w c o

  in_now : (c : Call) → Work st w c (items_of (c ∷ [])) [] → Under
  in_now c o = entered actor change_of 0 st w c (items_of (c ∷ [])) refl o

  frees : (a : Answer) → FreesBy st w a → Under
  frees Nothing o = absurd o
  frees Pushed o = in_now o.1.call o.1.decided.work
  frees (Closed x) o = still o.call o.decided.work
  frees (Popped v) o = absurd o
  frees Empty o = absurd o
  frees PopClosed o = absurd o
  frees (Len n) o = absurd o
  frees Yes o = absurd o
  frees No o = absurd o

  Busy : Task → Type 0
  Busy (Rests a) = ⊥
  Busy (Starts c) = Unit {0}
  Busy (Tries x) = Unit {0}
  Busy (Given t x) = Unit {0}
  Busy (Enters x) = Unit {0}
  Busy Entered = Unit {0}
  Busy (Frees a) = Unit {0}
  Busy Takes = Unit {0}
  Busy (LoadsHead t) = Unit {0}
  Busy (Counts t h) = Unit {0}
  Busy (LooksAtTail h) = Unit {0}

  busy_task : (p : Place) → (view_of sizes p).busy ≡ true → Busy (task_of p)
  unfolding Busy
  busy_task (Idle a) h = absurd (true≢false (sym h))
  busy_task (U1 n x) h = tt
  busy_task (U2 n t x) h = tt
  busy_task (U3 t b x) h = tt
  busy_task (U4 n t x) h = tt
  busy_task (U5 n t new x) h = tt
  busy_task (U6 n t new x) h = tt
  busy_task (U7 n t b x) h = tt
  busy_task (U8 n t x) h = tt
  busy_task (U9 n t b x) h = tt
  busy_task (U10 n t b x) h = tt
  busy_task (U11 n t b x) h = tt
  busy_task (U12 n t b x) h = tt
  busy_task (U13 n t b) h = tt
  busy_task (U14 n a) h = tt
  busy_task (U15 n new x) h = tt
  busy_task V1 h = tt
  busy_task (V2 i) h = tt
  busy_task (V3 i b) h = tt
  busy_task (V4 i b new) h = tt
  busy_task (V5 i) h = tt
  busy_task (V6 i b new) h = tt
  busy_task (V7 i b new next) h = tt
  busy_task (V8 i b next j) h = tt
  busy_task (V9 i b j) h = tt
  busy_task (V10 i b) h = tt
  busy_task (V11 i b) h = tt
  busy_task (V12 i b v) h = tt
  busy_task (V13 b i v) h = tt
  busy_task (V14 b i v) h = tt
  busy_task (V15 b v) h = tt
  busy_task Len1 h = tt
  busy_task (Len2 t) h = tt
  busy_task (Len3 t i) h = tt
  busy_task Empty1 h = tt
  busy_task (Empty2 i) h = tt
  busy_task Full1 h = tt
  busy_task Close1 h = tt
  busy_task IsClosed1 h = tt

  working : (k : Task) → Busy k → Due st i w k → Under
  unfolding Busy
  working (Rests a) b o = absurd b
  working (Starts c) b o = still c o
  working (Tries x) b o = still o.call o.work
  working (Given t x) b o = still o.0.call o.0.work
  working (Enters x) b o = in_now o.call o.decided.work
  working Entered b o = in_now o.1.call o.1.decided.work
  working (Frees a) b o = frees a o
  working Takes b o = took actor change_of 0 st w call.Pop o.v refl o.decided.work
  working (LoadsHead t) b o = still call.Len o.0
  working (Counts t h) b o = still call.Len o.0
  working (LooksAtTail h) b o = still call.IsEmpty o.0

  -- a call that takes out puts nothing in
  taken_first : (s : Sign) (p : Place) (x : List ℕ) → takes_by s (sign_of p) ≡ true → Due st i w (task_of p) → ((known st).each w).puts ≡ cond (eqb (length (item_by s (sign_of p))) 1) x []
  taken_first Plain p x h o = absurd (true≢false (sym h))
  taken_first Exchange7 p x h o = absurd (true≢false (sym h))
  taken_first Exchange4 p x h o = (subst (Due st i w) (pops_to_lem p h) o).decided.work.puts
  taken_first Pops p x h o = absurd (true≢false (sym h))
  taken_first (Pushes y) p x h o = absurd (true≢false (sym h))
  taken_first (HandsOut v) p x h o = absurd (true≢false (sym h))

-- ---- an answer, of `Answered` or `AtBlocksEnd`, and `Meant`
module _ (limit : ℕ) where
  abbrev Answers : Story → Event → Reply → Type 0
  Answers = Answering actor change_of said true false limit (λ (z : Story). 0) 0

  asks : (st : Story) (e : Event) (x : Answer) (r : Reply) (more : List Reply) → reply_of x ≡ r ∷ more → length st < limit → (a : Answered st e x)
      → AskedOf limit 0 (stories.queue_at actor change_of 0 a.moment st) a.call r
  asks st e x r more is short a =
      let q = queue_at a.moment st in
      record {
        asked = q;
        items = refl;
        closed = refl;
        full = λ h. absurd (omega (arith, eqb-true (length q.items) (length q.items + 1) h));
        room = λ h z. absurd (omega (arith, z, short, few_items actor change_of 0 (take a.moment st), few_first a.moment st));
        says = same_reply (answer_of q a.call) r [] more (a.plain ∙ is);
      }

  says : (st : Story) (e : Event) (x : Answer) (r : Reply) (more : List Reply) → reply_of x ≡ r ∷ more → length st < limit → Answered st e x ⊎ AtBlocksEnd st e x → Meant st e x → Answers st e r
  says st e x r more is short (inl a) m =
      answering actor change_of said true false limit (λ (z : Story). 0) 0 st e a.call r more (reply_of x) is a.its m.put m.took m.closed
      (λ u. (a.moment, a.begun, a.inside, asks st e x r more is short a))
  -- a no of is_empty, which is not read
  says st e x r more is short (inr a) m =
      let no : r ≡ plain.No = same_reply r plain.No more [] (sym is ∙ ap reply_of a.says_no) in
      answering actor change_of said true false limit (λ (z : Story). 0) 0 st e call.IsEmpty r more (reply_of x) is a.its m.put m.took m.closed
      (λ u. absurd (true≢false (sym (ap (unread false call.IsEmpty) no) ∙ u)))

-- ---- along every schedule
module _ (workers : ℕ) (a : Allowed workers) (limit : ℕ) where
  abbrev So : Machine → Story → Type 0
  So = Told workers a.worker_most

  abbrev busy_of : Machine → ℕ → Bool
  busy_of m w = (view_of sizes (stood m w)).busy

  abbrev Kept : Machine → Story → Type 0
  Kept m st = length st < limit → Along actor change_of said true false limit (λ (z : Story). 0) 0 (busy_of m) st

  time_of : (m : Machine) (st : Story) → So m st → length st < limit → TimeBy actor change_of said true false limit (λ (z : Story). 0) 0 (busy_of m) st
  time_of m st o short =
      record {
        working = λ w h. working st m.ends.tail w (task_of (stood m w)) (busy_task st m.ends.tail w (stood m w) h) (o.dues w);
        fits = omega (arith, short, few_items actor change_of 0 st);
        holds = inl refl;
      }

  longer : (st : Story) (x : stories.Element Event) → length (st ++ x ∷ []) ≡ length st + 1
  longer st x = length-append st (x ∷ []) ∙ omega arith

  -- an act, by the place that it leads to
  module _ (m : Machine) (st : Story) (o : So m st) (k : Kept m st) (w : ℕ) (busy : (view_of sizes (stood m w)).busy ≡ true) (next : Machine)
      (new : So next (st ++ Does (event w (stood m w) (stood next w)) ∷ [])) (others : (j : ℕ) → j ≢ w → stood next j ≡ stood m j)
      (closed : stood m w ≡ Close1 → marked_of m.ends.tail ≡ false → stood next w ≡ Idle Yes) where
    abbrev done : Event
    done = event w (stood m w) (stood next w)

    speaks : (x : Answer) → stood next w ≡ Idle x → ended (reply_of x) ≡ true
    speaks x e = go (new.answers st [] done x refl e).0
      where
        go : Answered st done x ⊎ AtBlocksEnd st done x → ended (reply_of x) ≡ true
        go (inl t) = ap ended (sym t.plain)
        go (inr t) = ap (λ (z : Answer). ended (reply_of z)) t.says_no

    act_kept : Kept next (st ++ Does done ∷ [])
    act_kept short =
        along_act actor change_of said true false limit (λ (z : Story). 0) 0 st done (busy_of m) (busy_of next) (k (omega (arith, short, longer st (Does done)))) busy (busy_said (stood next w) speaks)
        (λ j far. ap (λ (p : Place). (view_of sizes p).busy) (others j far)) (time_of next (st ++ Does done ∷ []) new short)
        (λ h. taken_first (st ++ Does done ∷ []) next.ends.tail w (sign_of (stood m w)) (stood next w) (items_of ((known st).each w).calls) h (new.dues w))
        (λ h still.
        let at = close_at (stood m w) h in
        ((subst (λ (p : Place). Due st m.ends.tail w (task_of p)) at (o.dues w)).its, ap (λ (p : Place). said_at (task_of p)) (closed at (sym o.flag ∙ still))))
        (λ h. refl)

  -- every accepted entry leads on
  both_kept : (m : Machine) (st : Story) (en : Entry) (next : Machine) → So m st → Kept m st → Turned m en next
      → So next (st ++ elements_by events_of m en next) × Kept next (st ++ elements_by events_of m en next)
  unfolding acted_at
  both_kept m st en next o k (began w cl mine idle) =
      let new = told_kept workers a.worker_most m st en next o (began w cl mine idle) in
      let row : w < length m.workers = omega (arith, mine, o.reached.team, o.reached.sim.workers_long, a.worker_most) in (
        new,
        λ short. along_begun actor change_of said true false limit (λ (z : Story). 0) 0 st w cl (busy_of m) (busy_of next) (k (omega (arith, short, longer st (Begun w cl))))
            (ap (λ (p : Place). (view_of sizes p).busy) (begun_stood m w (begin_of cl) row) ∙ busy_begun cl) (λ j far. ap (λ (p : Place). (view_of sizes p).busy) (begun_else m w (begin_of cl) j far))
            (time_of next (st ++ Begun w cl ∷ []) new short),
      )
  both_kept m st en next o k (used w asked lose b t) =
      let new = told_kept workers a.worker_most m st en next o (used w asked lose b t) in
      let row : w < length m.workers = omega (arith, b.known, o.reached.team, o.reached.sim.workers_long, a.worker_most) in
      let i = block_used (view_of sizes (stood m w)).uses in
      let j = slot_used (view_of sizes (stood m w)).uses in (
        new,
        act_kept m st o k w b.busy next new (λ v far. stored_else m w m.slots i j _ v far)
            (λ at open_yet.
            stored_stood m w m.slots i j _ row ∙ ap (λ (p : Place). (act_of sizes m.ends i (block_at m.blocks i) (slot_at sizes m.slots i j) p lose).place) at
            ∙ close_yes m.ends i (block_at m.blocks i) (slot_at sizes m.slots i j) lose open_yet),
      )
  both_kept m st en next o k (took_block w asked lose b t f) =
      let new = told_kept workers a.worker_most m st en next o (took_block w asked lose b t f) in (
        new,
        act_kept m st o k w b.busy next new (λ v far. stored_else m w _ _ 0 _ v far)
            (λ at open_yet. absurd (true≢false (sym t ∙ ap (λ (p : Place). (view_of sizes p).takes) at))),
      )

  one_entry : (m : Machine) (st : Story) (i j : ℕ) → So m st × Kept m st → (turn_with sizes act_of m i j).refusal ≡ 0
      → So (turn_with sizes act_of m i j).machine (st ++ elements_by events_of m (entry_of i j) (turn_with sizes act_of m i j).machine)
      × Kept (turn_with sizes act_of m i j).machine (st ++ elements_by events_of m (entry_of i j) (turn_with sizes act_of m i j).machine)
  one_entry m st i j both e = both_kept m st (entry_of i j) _ both.0 both.1 (turned m i j e)

  told_first : So (fresh_of sizes workers) []
  unfolding fresh_of known_from followed_from acts_in marked_of notions.items_of takers_of
  told_first =
      record {
        reached = fresh_reached workers;
        items = refl;
        flag = refl;
        stands = λ v. sym (fresh_stood v);
        dues = λ w. subst (λ (p : Place). Due [] (fresh_of sizes workers).ends.tail w (task_of p)) (sym (fresh_stood w)) tt;
        answers = λ xs ys act x e said. absurd (no_split xs (Does act) ys e);
        yes_there = λ xs ys act i e at said. absurd (no_split xs (Does act) ys e);
        changes = λ xs ys act e. absurd (no_split xs (Does act) ys e);
        claims = λ xs ys act v e said. absurd (no_split xs act ys e);
        written = λ k l. absurd (omega (arith, l));
      }

  fresh_idle : (w : ℕ) → busy_of (fresh_of sizes workers) w ≡ false
  unfolding fresh_of
  fresh_idle w = ap (λ (p : Place). (view_of sizes p).busy) (fresh_stood w)

  first_both : So (fresh_of sizes workers) [] × Kept (fresh_of sizes workers) []
  first_both =
      (told_first, λ short. along_first actor change_of said true false limit (λ (z : Story). 0) 0 (busy_of (fresh_of sizes workers)) fresh_idle (time_of (fresh_of sizes workers) [] told_first short))

  both_after : (s : List ℕ) → So (machine_after table workers s) (story_of table workers s) × Kept (machine_after table workers s) (story_of table workers s)
  both_after s = entries_lead unbounded_queue (elements_by events_of) (λ (m : Machine) (st : Story). So m st × Kept m st) one_entry s (fresh_of sizes workers) [] 0 first_both

  -- the tight log
  pub never_in : (s : List ℕ) → length (story_of table workers s) < limit → NeverShown limit true false (unbounded_log table workers s)
  never_in s short =
      never_along actor change_of said true false limit (λ (z : Story). 0) 0 (omega (arith, short)) (busy_of (machine_after table workers s)) (story_of table workers s) (both.1 short)
      (λ earlier later e r more split is.
      let z = said_idle e.after r more is in
      let t = both.0.answers earlier later e z.0 split z.1 in
      says limit earlier e z.0 r more z.2 (omega (arith, short, ap length split, length-append earlier (Does e ∷ later))) t.0 t.1)
    where
      both : So (machine_after table workers s) (story_of table workers s) × Kept (machine_after table workers s) (story_of table workers s)
      both = both_after s

pub shows_none : ShowsNone table
shows_none workers a s seen late capacity short =
    never_late (unbounded_log table workers s) seen late capacity true false (never_in workers a capacity s (omega (arith, short, late.size)))
