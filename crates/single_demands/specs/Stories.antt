-- The one-slot queue's story, with a plain queue of capacity 1 along it: what each act does to that queue, at which moment an answer is that queue's, and the room that a pop under way still
-- takes.
use Rattle.std.specs.Prelude.{ℕ, ◌+◌, ◌-◌, Bool, true, false, cond, List, [], ◌∷◌, eqb, length, take}
use Rattle.queue_entries.specs.declared.Call.{Call}
use Rattle.queue_entries.specs.declared.Call.TheVariants as call
use Rattle.queue_entries.specs.Schedules.{history_by}
use Rattle.queue_plain.specs.Plain.{Queue, queue}
use Rattle.queue_plain.specs.Plain as plain
use Rattle.queue_plain.specs.Story as stories
use Rattle.queue_plain.specs.Story.{Begun, Does, Change, Known, elements_by, fresh, followed_from}
use Rattle.single_places.specs.declared.Answer.{Answer}
use Rattle.single_places.specs.declared.Answer.TheVariants.{Nothing, Pushed, Full, Closed, Displaced, Popped, Empty, PopClosed, Len, Yes, No}
use Rattle.single_places.specs.declared.Place.{Place}
use Rattle.single_places.specs.declared.Place.TheVariants.{Idle, A1, A2, A3, B1, B2, B3, B4, B5, C1, C2, C3, Len1, Empty1, Full1, Close1, IsClosed1}
use Rattle.single_places.specs.Places.{view_of}
use Rattle.single_machine.specs.declared.Machine.{Machine}
use Rattle.single_machine.specs.declared.Did.{Did}
use Rattle.single_machine.specs.declared.Event.{Event}
use Rattle.single_machine.specs.Machine.{fresh_of}
use Rattle.single_machine.specs.History.{events_of}
use Rattle.single_demands.specs.Notions.{Definition, access_of, item_of, is_read, is_close}

abbrev pub Element : Type 0
Element = stories.Element Event

abbrev pub Story : Type 0
Story = stories.Story Event

-- Of a schedule's entries, up to the first that is refused: oldest first, as `acts_of` has its acts.
abbrev pub story_from : Definition → Machine → List ℕ → Story
story_from d = history_by (λ (r : Did). r.refusal) (λ (r : Did). r.machine) d.turn (elements_by events_of)

abbrev pub story_of : Definition → ℕ → List ℕ → Story
story_of d workers s = story_from d (fresh_of workers) s

-- ---- the plain queue

-- No call answers Nothing.
abbrev pub reply_of : Answer → List plain.Reply
reply_of Nothing = []
reply_of Pushed = plain.Pushed ∷ []
reply_of (Full x) = plain.Full x ∷ []
reply_of (Closed x) = plain.Closed x ∷ []
reply_of (Displaced v) = plain.Displaced v ∷ []
reply_of (Popped v) = plain.Popped v ∷ []
reply_of Empty = plain.Empty ∷ []
reply_of PopClosed = plain.EmptyAndClosed ∷ []
reply_of (Len n) = plain.Count n ∷ []
reply_of Yes = plain.Yes ∷ []
reply_of No = plain.No ∷ []

-- By the exchange that takes the slot: in where it leads to the write of an item (A2, B2, B4), out where it leads to a read (C2, B4; at B4 both, in one step). Closed by close; nothing opens it
-- again.
abbrev pub change_of : Event → Change
change_of e =
    record {
      takes = is_read (access_of e.after);
      puts = eqb (length (item_of (access_of e.after))) 1;
      closes = is_close e.before;
      opens = false;
    }

abbrev pub actor : Event → ℕ
actor e = e.worker

abbrev pub known : Story → Known
known s = stories.known actor change_of 1 s

abbrev pub queue_at : ℕ → Story → Queue
queue_at n s = stories.queue_at actor change_of 1 n s

-- What a call that came with these items and answered so has put in, what it has taken out, and what it gives back.
abbrev pub put_by : Answer → List ℕ → List ℕ
put_by a x = plain.meaning_of (plain.put_by x) (reply_of a)

abbrev pub taken_by : Answer → List ℕ
taken_by a = plain.meaning_of plain.taken_by (reply_of a)

abbrev pub given_back : Answer → List ℕ
given_back a = plain.meaning_of plain.given_back (reply_of a)

-- The item that a push or force_push under way has in its record, up to the write.
abbrev pub item_at : Place → List ℕ
item_at (Idle a) = []
item_at (A1 x) = x ∷ []
item_at (A2 x) = x ∷ []
item_at A3 = []
item_at (B1 e x) = x ∷ []
item_at (B2 x) = x ∷ []
item_at B3 = []
item_at (B4 x) = x ∷ []
item_at (B5 old) = []
item_at (C1 e) = []
item_at C2 = []
item_at (C3 v) = []
item_at Len1 = []
item_at Empty1 = []
item_at Full1 = []
item_at Close1 = []
item_at IsClosed1 = []

-- ---- the room that a pop under way still takes

-- A pop between its won exchange and its unlock (`Popping` of Notions.antt).
abbrev pub popping : Place → Bool
popping (Idle a) = false
popping (A1 x) = false
popping (A2 x) = false
popping A3 = false
popping (B1 e x) = false
popping (B2 x) = false
popping B3 = false
popping (B4 x) = false
popping (B5 old) = false
popping (C1 e) = false
popping C2 = true
popping (C3 v) = true
popping Len1 = false
popping Empty1 = false
popping Full1 = false
popping Close1 = false
popping IsClosed1 = false

-- Taken from the act that leads to C2 on, given back by the act at C3.
abbrev pub room_with : Known → ℕ → Element → ℕ
room_with k was (Begun v c) = was
room_with k was (Does e) = was + cond (popping e.after) 1 0 - cond (popping e.before) 1 0

abbrev pub room_taken : Story → ℕ
room_taken s = followed_from actor change_of room_with (fresh 1) 0 s

-- The plain queue that a call is asked of: for a push it has the less capacity by that room.
abbrev pub asked_of : ℕ → Queue → Call → Queue
asked_of room q (call.Push x) = queue q.items q.closed (q.capacity - room)
asked_of room q (call.ForcePush x) = q
asked_of room q call.Pop = q
asked_of room q call.Len = q
asked_of room q call.IsEmpty = q
asked_of room q call.IsFull = q
asked_of room q call.Close = q
asked_of room q call.IsClosed = q

-- After the first n elements.
abbrev pub asked_at : ℕ → Story → Call → Queue
asked_at n s c = asked_of (room_taken (take n s)) (queue_at n s) c

-- ---- moments

-- What an act of its own makes of a call's moment: it is now, just before the act; or it stays.
pub data Timing : Type 0 where
  Now Stays : Timing

-- Now where the act takes the slot (Pushed, Displaced, Popped are told of that act), and where it answers without having had it.
abbrev pub timing_of : Place → Place → Timing
timing_of p q = cond (view_of p).hand Stays (cond (view_of q).hand Now (cond (view_of q).busy Stays Now))

abbrev pub timed : Timing → ℕ → ℕ → ℕ
timed Now count was = count
timed Stays count was = was

abbrev pub moment_with : ℕ → Known → ℕ → Element → ℕ
moment_with w k was (Begun v c) = was
moment_with w k was (Does e) = cond (eqb w e.worker) (timed (timing_of e.before e.after) k.count was) was

-- Of worker w's call, under way or its last: so many elements stand before its moment.
abbrev pub moment_of : ℕ → Story → ℕ
moment_of w s = followed_from actor change_of (moment_with w) (fresh 1) 0 s
