-- The notions that the demands are said in: write and read, hand, truth and the rest, of the machine's own struct, of the words of a
-- schedule and of the history of its acts (crates/single_machine/specs/History.antt). The demands are Demands.antt.
use Rattle.std.specs.Prelude.{ℕ, ◌≤◌, ◌<◌, Bool, true, false, cond, List, [], ◌∷◌, ◌++◌, ◌≡◌, ◌≢◌, length}
use Rattle.queue_entries.specs.Limits.{workers_most, meter_most}
use Rattle.queue_entries.specs.declared.Call.{Call}
use Rattle.queue_entries.specs.declared.Call.TheVariants as call
use Rattle.queue_entries.specs.declared.Order.TheVariants.{Act}
use Rattle.queue_entries.specs.declared.Entry.TheVariants.{Asks}
use Rattle.queue_entries.specs.Entries.{entry_of}
use Rattle.queue_schedules.specs.Alone.{acts, passed_by, own_acts_by}
use Rattle.single_words.specs.declared.State.{State}
use Rattle.single_words.specs.Words.{pushed_in, closed_in}
use Rattle.single_places.specs.declared.Answer.{Answer}
use Rattle.single_places.specs.declared.Answer.TheVariants.{Nothing, Pushed, Full, Closed, Displaced, Popped, Empty, PopClosed, Len, Yes, No}
use Rattle.single_places.specs.declared.Place.{Place}
use Rattle.single_places.specs.declared.Place.TheVariants.{Idle, A1, A2, A3, B1, B2, B3, B4, B5, C1, C2, C3, Len1, Empty1, Full1, Close1, IsClosed1}
use Rattle.single_places.specs.Places.{view_of}
use Rattle.single_acts.specs.Acts.{len_of, act_of}
use Rattle.single_machine.specs.declared.Machine.{Machine}
use Rattle.single_machine.specs.declared.Did.{Did}
use Rattle.single_machine.specs.declared.Ran.{Ran}
use Rattle.single_machine.specs.declared.Event.{Event}
use Rattle.single_machine.specs.Machine.{fresh_of, place_of, accepted}
use Rattle.single_machine.specs.Turn.{Table, turn_of_by}
use Rattle.single_machine.specs.Run.{run_with, run_of}
use Rattle.single_machine.specs.History.{history_with}
use Rattle.single.specs.Single.{step_of}

-- ---- definitions and schedules

-- What a definition of the machine says: what an entry makes of a machine, what the entries of a schedule make of it up to the
-- first refusal, and their acts, oldest first. The demands are said of any definition, so that crate single_slips can say them of
-- one with a row changed; they are met by the source's.
pub record Definition : Type 0 where
  pub turn : Machine → ℕ → ℕ → Did
  pub run : Machine → ℕ → List ℕ → Ran
  pub history : Machine → List ℕ → List Event

-- By a table of what an act does at each place; the source's table is `act_of`.
abbrev pub by_table : Table → Definition
by_table table = record { turn = turn_of_by table; run = run_with (turn_of_by table); history = history_with (turn_of_by table) }

abbrev pub source : Definition
source = by_table act_of

-- Every number of workers that making accepts.
pub record Allowed (workers : ℕ) : Type 0 where
  pub some : 0 < workers
  pub most : workers ≤ workers_most

-- What a schedule makes of a fresh machine, and its acts.
abbrev pub machine_after : Definition → ℕ → List ℕ → Machine
machine_after d workers s = (d.run (fresh_of workers) 0 s).machine

abbrev pub acts_of : Definition → ℕ → List ℕ → List Event
acts_of d workers s = d.history (fresh_of workers) s

-- An act of worker w that is accepted takes the machine m to the machine next.
pub record Acts (d : Definition) (m : Machine) (w : ℕ) (next : Machine) : Type 0 where
  pub first : ℕ
  pub second : ℕ
  pub lose : Bool
  pub asks : entry_of first second ≡ Asks w (Act lose)
  pub done : d.turn m first second ≡ accepted next

-- Machines of one worker: fresh, with a push begun, with that item in, and with a push begun at the meter's end.
abbrev pub fresh_one : Machine
fresh_one = fresh_of 1

abbrev pub pushing_one : Machine
pushing_one = (step_of fresh_one 0 5).machine

abbrev pub stocked_one : Machine
stocked_one = (run_of fresh_one (0 ∷ 5 ∷ acts 0 3)).machine

abbrev pub spent_one : Machine
spent_one = record { single = pushing_one.single; workers = pushing_one.workers; count = pushing_one.count; meter = meter_most }

-- Of every one of these acts.
abbrev pub Every : (Event → Type 0) → List Event → Type 0
Every P [] = Unit {0}
Every P (e ∷ h) = P e × Every P h

-- Of every act of a history, with the acts before it.
abbrev pub AtEach : (List Event → Event → Type 0) → List Event → Type 0
AtEach P h = (earlier later : List Event) (act : Event) → h ≡ earlier ++ act ∷ later → P earlier act

-- ---- hands

-- In hand: from a won exchange until the word is unlocked (A2, A3, B2 to B5, C2, C3).
abbrev pub InHand : Place → Type 0
InHand p = (view_of p).hand ≡ true

-- Another worker has the slot in hand.
abbrev pub OtherHand : Machine → ℕ → Type 0
OtherHand m w = (v : ℕ) × (v ≢ w) × InHand (place_of m.workers v)

-- A pop that has the slot in hand.
pub data Popping : Place → Type 0 where
  popping_c2 : Popping C2
  popping_c3 : {v : ℕ} → Popping (C3 v)

-- ---- the slot's value: who writes it, who reads it

-- What the act at a place does to the value in the slot: A2 and B2 write the item, B4 reads the old value and writes the item, C2 reads.
pub data Access : Type 0 where
  none : Access
  writes : ℕ → Access
  swaps : ℕ → Access
  reads : Access

abbrev pub access_of : Place → Access
access_of (Idle a) = none
access_of (A1 x) = none
access_of (A2 x) = writes x
access_of A3 = none
access_of (B1 e x) = none
access_of (B2 x) = writes x
access_of B3 = none
access_of (B4 x) = swaps x
access_of (B5 old) = none
access_of (C1 e) = none
access_of C2 = reads
access_of (C3 v) = none
access_of Len1 = none
access_of Empty1 = none
access_of Full1 = none
access_of Close1 = none
access_of IsClosed1 = none

-- the item that it writes, if any
abbrev pub item_of : Access → List ℕ
item_of none = []
item_of (writes x) = x ∷ []
item_of (swaps x) = x ∷ []
item_of reads = []

-- it reads the value
abbrev pub is_read : Access → Bool
is_read none = false
is_read (writes x) = false
is_read (swaps x) = true
is_read reads = true

-- The value that a read took along.
pub data Holds : Place → ℕ → Type 0 where
  holds_c3 : {v : ℕ} → Holds (C3 v) v
  holds_b5 : {v : ℕ} → Holds (B5 v) v

-- Handed out: answered as Popped or Displaced.
pub data HandsOut : Place → ℕ → Type 0 where
  popped : {v : ℕ} → HandsOut (Idle (Popped v)) v
  displaced : {v : ℕ} → HandsOut (Idle (Displaced v)) v

-- None of these acts wrote the slot; none of them read it.
abbrev pub Unwritten : List Event → Type 0
Unwritten = Every (λ (e : Event). item_of (access_of e.before) ≡ [])

abbrev pub Unread : List Event → Type 0
Unread = Every (λ (e : Event). is_read (access_of e.before) ≡ false)

-- Worker w did none of these acts.
abbrev pub Unmoved : ℕ → List Event → Type 0
Unmoved w = Every (λ (e : Event). e.worker ≢ w)

-- The latest write is the act numbered k (from 0), of the item v: by a push (A2) or a force_push (B2, B4).
pub record Latest (h : List Event) (v k : ℕ) : Type 0 where
  pub earlier : List Event
  pub write : Event
  pub since : List Event
  pub is : h ≡ earlier ++ write ∷ since
  pub number : length earlier ≡ k
  pub item : item_of (access_of write.before) ≡ v ∷ []
  pub unwritten : Unwritten since

-- And nobody has read it.
pub record Stands (h : List Event) (v k : ℕ) : Type 0 where
  pub latest : Latest h v k
  pub unread : Unread latest.since

-- Worker w's latest act read the value v, and that was the item of the latest write, the act numbered k.
pub record Came (h : List Event) (w v k : ℕ) : Type 0 where
  pub earlier : List Event
  pub read : Event
  pub since : List Event
  pub is : h ≡ earlier ++ read ∷ since
  pub by : read.worker ≡ w
  pub reading : is_read (access_of read.before) ≡ true
  pub got : Holds read.after v
  pub of : Latest earlier v k
  pub rests : Unmoved w since

-- ---- the queue that a history tells

-- An item waits from the exchange that takes the slot for it (to A2, B2 or B4) until the exchange that takes it out (to C2, or to B4).
abbrev pub waits_after : Access → List ℕ → List ℕ
waits_after none q = q
waits_after (writes x) q = x ∷ []
waits_after (swaps x) q = x ∷ []
waits_after reads q = []

unfoldable pub waiting_from : List ℕ → List Event → List ℕ
waiting_from q [] = q
waiting_from q (e ∷ h) = waiting_from (waits_after (access_of e.after) q) h

abbrev pub waiting : List Event → List ℕ
waiting h = waiting_from [] h

-- A run of a plain one-slot queue: an item enters an empty one, or displaces the one that waits; one that waits is taken; no other act
-- changes it.
pub data OneSlot : List Event → List ℕ → Type 0 where
  start : OneSlot [] []
  enters : (h : List Event) (e : Event) (x : ℕ) → OneSlot h [] → access_of e.after ≡ writes x → OneSlot (h ++ e ∷ []) (x ∷ [])
  displaces : (h : List Event) (e : Event) (x old : ℕ) → OneSlot h (old ∷ []) → access_of e.after ≡ swaps x → OneSlot (h ++ e ∷ []) (x ∷ [])
  leaves : (h : List Event) (e : Event) (x : ℕ) → OneSlot h (x ∷ []) → access_of e.after ≡ reads → OneSlot (h ++ e ∷ []) []
  rests : (h : List Event) (q : List ℕ) (e : Event) → OneSlot h q → access_of e.after ≡ none → OneSlot (h ++ e ∷ []) q

-- Worker w has answered nothing in these acts.
abbrev pub Unanswered : ℕ → List Event → Type 0
Unanswered w = Every (λ (e : Event). e.worker ≡ w → (view_of e.after).busy ≡ true)

-- Worker w took the item v out of the queue, in the call that it is in.
pub record Took (h : List Event) (w v : ℕ) : Type 0 where
  pub earlier : List Event
  pub exchange : Event
  pub since : List Event
  pub is : h ≡ earlier ++ exchange ∷ since
  pub by : exchange.worker ≡ w
  pub takes : is_read (access_of exchange.after) ≡ true
  pub waited : waiting earlier ≡ v ∷ []
  pub same_call : Unanswered w since

-- An act of close was made.
abbrev pub is_close : Place → Bool
is_close (Idle a) = false
is_close (A1 x) = false
is_close (A2 x) = false
is_close A3 = false
is_close (B1 e x) = false
is_close (B2 x) = false
is_close B3 = false
is_close (B4 x) = false
is_close (B5 old) = false
is_close (C1 e) = false
is_close C2 = false
is_close (C3 v) = false
is_close Len1 = false
is_close Empty1 = false
is_close Full1 = false
is_close Close1 = true
is_close IsClosed1 = false

unfoldable pub closed_by : List Event → Bool
closed_by [] = false
closed_by (e ∷ h) = cond (is_close e.before) true (closed_by h)

-- What a one-slot queue answers: closed or not, with this item or none waiting.
abbrev pub queue_answer : Call → Bool → List ℕ → Answer
queue_answer (call.Push x) closed [] = cond closed (Closed x) Pushed
queue_answer (call.Push x) closed (v ∷ q) = cond closed (Closed x) (Full x)
queue_answer (call.ForcePush x) closed [] = cond closed (Closed x) Pushed
queue_answer (call.ForcePush x) closed (v ∷ q) = cond closed (Closed x) (Displaced v)
queue_answer call.Pop closed [] = cond closed PopClosed Empty
queue_answer call.Pop closed (v ∷ q) = Popped v
queue_answer call.Len closed q = Len (length q)
queue_answer call.IsEmpty closed [] = Yes
queue_answer call.IsEmpty closed (v ∷ q) = No
queue_answer call.IsFull closed [] = No
queue_answer call.IsFull closed (v ∷ q) = Yes
queue_answer call.Close closed q = cond closed No Yes
queue_answer call.IsClosed closed q = cond closed Yes No

-- The calls of one act.
pub data Looks : Call → Type 0 where
  looks_len : Looks call.Len
  looks_empty : Looks call.IsEmpty
  looks_full : Looks call.IsFull
  looks_close : Looks call.Close
  looks_closed : Looks call.IsClosed

-- ---- answers

-- What an answer says of the word at the act that decided it.
abbrev pub FullWord : State → Type 0
FullWord s = (s.0 ≢ 0) × (closed_in s ≡ false)

abbrev pub EmptyWord : State → Type 0
EmptyWord s = (pushed_in s ≡ false) × (closed_in s ≡ false)

abbrev pub PopClosedWord : State → Type 0
PopClosedWord s = (pushed_in s ≡ false) × (closed_in s ≡ true)

abbrev pub Truth : State → Answer → Type 0
Truth s Nothing = Unit {0}
Truth s Pushed = Unit {0}
Truth s (Full x) = FullWord s
Truth s (Closed x) = closed_in s ≡ true
Truth s (Displaced v) = Unit {0}
Truth s (Popped v) = Unit {0}
Truth s Empty = EmptyWord s
Truth s PopClosed = PopClosedWord s
Truth s (Len n) = n ≡ len_of s
Truth s Yes = Unit {0}
Truth s No = Unit {0}

-- ---- waiting

-- Most acts to the end, from each place: push at most 3, force_push 4, pop 4, the lookers 1; in hand A2 2, B2 2, B4 2, C2 2.
abbrev pub most_of : Place → ℕ
most_of (Idle a) = 0
most_of (A1 x) = 3
most_of (A2 x) = 2
most_of A3 = 1
most_of (B1 e x) = 4
most_of (B2 x) = 2
most_of B3 = 1
most_of (B4 x) = 2
most_of (B5 old) = 1
most_of (C1 e) = 4
most_of C2 = 2
most_of (C3 v) = 1
most_of Len1 = 1
most_of Empty1 = 1
most_of Full1 = 1
most_of Close1 = 1
most_of IsClosed1 = 1

-- Entries one after another, refused ones passed over; and how many of them are acts of w, and accepted.
abbrev pub passed : Definition → Machine → List ℕ → Machine
passed d = passed_by (λ (x : Did). x.refusal) (λ (x : Did). x.machine) d.turn

abbrev pub own_acts : Definition → ℕ → Machine → List ℕ → ℕ
own_acts d = own_acts_by (λ (x : Did). x.refusal) (λ (x : Did). x.machine) d.turn

-- Among these entries worker w's call ends, with so many acts of its own.
pub record LetsGo (d : Definition) (m : Machine) (w : ℕ) (entries : List ℕ) (n : ℕ) : Type 0 where
  pub before : List ℕ
  pub after : List ℕ
  pub split : entries ≡ before ++ after
  pub own : own_acts d w m before ≡ n
  pub answer : Answer
  pub ends : place_of (passed d m before).workers w ≡ Idle answer
