-- The unbounded queue's story, with a plain queue without capacity along it: what each act does to that queue, and at which moment an answer is that queue's.
use Rattle.std.specs.Prelude.{ℕ, zero, suc, ◌+◌, Bool, true, false, cond, List, [], ◌∷◌, ◌++◌, eqb, length}
use Rattle.queue_entries.specs.Schedules.{history_by}
use Rattle.queue_entries.specs.declared.Call.{Call}
use Rattle.queue_entries.specs.declared.Call.TheVariants as call
use Rattle.queue_plain.specs.Plain.{Queue, queue}
use Rattle.queue_plain.specs.Plain as plain
use Rattle.queue_plain.specs.Story as stories
use Rattle.queue_plain.specs.Story.{Begun, Does, Change, Known, elements_by, fresh, followed_from}
use Rattle.unbounded_words.specs.declared.Index.{Index}
use Rattle.unbounded_words.specs.declared.Pointer.{Pointer}
use Rattle.unbounded_places.specs.declared.Answer.{Answer}
use Rattle.unbounded_places.specs.declared.Answer.TheVariants.{Nothing, Pushed, Closed, Popped, Empty, PopClosed, Len, Yes, No}
use Rattle.unbounded_places.specs.declared.Place.{Place}
use Rattle.unbounded_places.specs.declared.Place.TheVariants.{Idle, U1, U2, U3, U4, U5, U6, U7, U8, U9, U10, U11, U12, U13, U14, U15, V1, V2, V3, V4, V5, V6, V7, V8, V9, V10, V11, V12, V13, V14, V15, Len1, Len2, Len3, Empty1, Empty2, Full1, Close1, IsClosed1}
use Rattle.unbounded_places.specs.Places.{begin_of}
use Rattle.unbounded_machine.specs.declared.Machine.{Machine}
use Rattle.unbounded_machine.specs.declared.Did.{Did}
use Rattle.unbounded_machine.specs.declared.Event.{Event}
use Rattle.unbounded_machine.specs.Machine.{fresh_of}
use Rattle.unbounded_machine.specs.History.{events_of}
use Rattle.unbounded_demands.specs.Notions.{Definition, acts, item_of, takes}

abbrev pub Element : Type 0
Element = stories.Element Event

abbrev pub Story : Type 0
Story = stories.Story Event

-- Of a schedule's entries, up to the first that is refused: oldest first, as `acts_of` has its acts.
abbrev pub story_from : Definition → Machine → List ℕ → Story
story_from d = history_by (λ (r : Did). r.refusal) (λ (r : Did). r.machine) d.turn (elements_by events_of)

abbrev pub story_of : Definition → ℕ → List ℕ → Story
story_of d workers s = story_from d (fresh_of d.sizes workers) s

-- ---- where a call is, as far as the plain queue goes

pub data Task : Type 0 where
  -- idle with its answer
  Rests : Answer → Task
  -- nothing decided: a call with no word yet that its answer goes by (pop up to its claim); a push without a word of tail, or with one that is not marked
  Starts : Call → Task
  Tries : ℕ → Task
  -- a push with the word of tail that it was given, at the top of its loop
  Given : Index → ℕ → Task
  -- a push whose item is in: to be written; written
  Enters : ℕ → Task
  Entered : Task
  -- a push that has its answer, and frees a block first
  Frees : Answer → Task
  -- a pop that has taken the front out
  Takes : Task
  -- len with a word of tail, with words of both; is_empty with a word of head
  LoadsHead : Index → Task
  Counts : Index → Index → Task
  LooksAtTail : Index → Task

abbrev pub task_of : Place → Task
task_of (Idle a) = Rests a
task_of (U1 n x) = Tries x
task_of (U2 n t x) = Given t x
task_of (U3 t b x) = Tries x
task_of (U4 n t x) = Tries x
task_of (U5 n t new x) = Tries x
task_of (U6 n t new x) = Tries x
task_of (U7 n t b x) = Tries x
task_of (U8 n t x) = Given t x
task_of (U9 n t b x) = Enters x
task_of (U10 n t b x) = Enters x
task_of (U11 n t b x) = Enters x
task_of (U12 n t b x) = Enters x
task_of (U13 n t b) = Entered
task_of (U14 n a) = Frees a
task_of (U15 n new x) = Tries x
task_of V1 = Starts call.Pop
task_of (V2 h) = Starts call.Pop
task_of (V3 h b) = Starts call.Pop
task_of (V4 h b new) = Starts call.Pop
task_of (V5 h) = Starts call.Pop
task_of (V6 h b new) = Takes
task_of (V7 h b new next) = Takes
task_of (V8 h b next i) = Takes
task_of (V9 h b i) = Takes
task_of (V10 h b) = Takes
task_of (V11 h b) = Takes
task_of (V12 h b v) = Takes
task_of (V13 b i v) = Takes
task_of (V14 b i v) = Takes
task_of (V15 b v) = Takes
task_of Len1 = Starts call.Len
task_of (Len2 t) = LoadsHead t
task_of (Len3 t h) = Counts t h
task_of Empty1 = Starts call.IsEmpty
task_of (Empty2 h) = LooksAtTail h
task_of Full1 = Starts call.IsFull
task_of Close1 = Starts call.Close
task_of IsClosed1 = Starts call.IsClosed

-- The item that a push under way has in its record, up to the write.
abbrev pub item_in : Task → List ℕ
item_in (Rests a) = []
item_in (Starts c) = []
item_in (Tries x) = x ∷ []
item_in (Given t x) = x ∷ []
item_in (Enters x) = x ∷ []
item_in Entered = []
item_in (Frees a) = []
item_in Takes = []
item_in (LoadsHead t) = []
item_in (Counts t h) = []
item_in (LooksAtTail h) = []

abbrev pub is_close : Call → Bool
is_close (call.Push x) = false
is_close (call.ForcePush x) = false
is_close call.Pop = false
is_close call.Len = false
is_close call.IsEmpty = false
is_close call.IsFull = false
is_close call.Close = true
is_close call.IsClosed = false

-- Its next act is close's.
abbrev pub closes : Task → Bool
closes (Rests a) = false
closes (Starts c) = is_close c
closes (Tries x) = false
closes (Given t x) = false
closes (Enters x) = false
closes Entered = false
closes (Frees a) = false
closes Takes = false
closes (LoadsHead t) = false
closes (Counts t h) = false
closes (LooksAtTail h) = false

-- ---- the plain queue

-- No call answers Nothing.
abbrev pub reply_of : Answer → List plain.Reply
reply_of Nothing = []
reply_of Pushed = plain.Pushed ∷ []
reply_of (Closed x) = plain.Closed x ∷ []
reply_of (Popped v) = plain.Popped v ∷ []
reply_of Empty = plain.Empty ∷ []
reply_of PopClosed = plain.EmptyAndClosed ∷ []
reply_of (Len n) = plain.Count n ∷ []
reply_of Yes = plain.Yes ∷ []
reply_of No = plain.No ∷ []

-- In at a tail claim (a won U7), out at a head claim (a won V4), closed by close; nothing opens it again.
abbrev pub change_of : Event → Change
change_of e =
    record {
      takes = takes e;
      puts = eqb (length (item_of e)) 1;
      closes = closes (task_of e.before);
      opens = false;
    }

abbrev pub actor : Event → ℕ
actor e = e.worker

-- No act asks for its capacity (0, as it is made).
abbrev pub known : Story → Known
known s = stories.known actor change_of 0 s

-- Without capacity: there is room for one item more, whatever waits.
abbrev pub roomy : Queue → Queue
roomy q = queue q.items q.closed (length q.items + 1)

-- What a call is asked of, after the first n elements.
abbrev pub queue_at : ℕ → Story → Queue
queue_at n s = roomy (stories.queue_at actor change_of 0 n s)

-- What a call that came with these items and answered so has put in, what it has taken out, and what it gives back.
abbrev pub put_by : Answer → List ℕ → List ℕ
put_by a x = plain.meaning_of (plain.put_by x) (reply_of a)

abbrev pub taken_by : Answer → List ℕ
taken_by a = plain.meaning_of plain.taken_by (reply_of a)

abbrev pub given_back : Answer → List ℕ
given_back a = plain.meaning_of plain.given_back (reply_of a)

-- ---- moments

-- The moment of an answer: after the first n elements; or directly after the next tail claim, if one comes.
pub data Moment : Type 0 where
  At : ℕ → Moment
  AfterNextTail : Moment

-- What an act of its own makes of a call's moment: it is now, just before the act; or it stays; or it is now if something waits, else after the next tail claim.
pub data Timing : Type 0 where
  Now Stays IfSome : Timing

-- Of an act that answers: Empty, Closed of pop and a yes now; a no now at the only act of its call; else at the moment that it has.
abbrev pub timing_said : Task → Answer → Timing
timing_said from Nothing = Stays
timing_said from Pushed = Stays
timing_said from (Closed x) = Stays
timing_said from (Popped v) = Stays
timing_said from Empty = Now
timing_said from PopClosed = Now
timing_said from (Len n) = Stays
timing_said from Yes = Now
timing_said (Rests a) No = Stays
timing_said (Starts c) No = Now
timing_said (Tries x) No = Stays
timing_said (Given t x) No = Stays
timing_said (Enters x) No = Stays
timing_said Entered No = Stays
timing_said (Frees a) No = Stays
timing_said Takes No = Stays
timing_said (LoadsHead t) No = Stays
timing_said (Counts t h) No = Stays
timing_said (LooksAtTail h) No = Stays

-- Else by where it leads: where it was given t (its load of tail's index, its lost U7), where len loaded head's index, where is_empty did.
abbrev pub timing_to : Task → Task → Timing
timing_to from (Rests a) = timing_said from a
timing_to from (Starts c) = Stays
timing_to from (Tries x) = Stays
timing_to from (Given t x) = Now
timing_to from (Enters x) = Stays
timing_to from Entered = Stays
timing_to from (Frees a) = Stays
timing_to from Takes = Stays
timing_to from (LoadsHead t) = Stays
timing_to from (Counts t h) = Now
timing_to from (LooksAtTail h) = IfSome

-- But an act that claims is the moment of Pushed, of Popped.
abbrev pub timing_of : Event → Timing
timing_of e = cond (change_of e).puts Now (cond (change_of e).takes Now (timing_to (task_of e.before) (task_of e.after)))

abbrev pub timed : Timing → Known → Moment → Moment
timed Now k was = At k.count
timed Stays k was = was
timed IfSome k was = cond (eqb (length k.queue.items) 0) AfterNextTail (At k.count)

-- What another's act makes of it, n elements standing before the moment directly after that act.
abbrev pub heard : Change → ℕ → Moment → Moment
heard d n (At k) = At k
heard d n AfterNextTail = cond d.puts (At n) AfterNextTail

abbrev pub moment_with : ℕ → Known → Moment → Element → Moment
moment_with w k was (Begun v c) = was
moment_with w k was (Does e) = cond (eqb w e.worker) (timed (timing_of e) k was) (heard (change_of e) (k.count + 1) was)

-- Of worker w's call, under way or its last.
abbrev pub moment_of : ℕ → Story → Moment
moment_of w s = followed_from actor change_of (moment_with w) (fresh 0) (At 0) s

-- ---- a block's end

-- Where a worker stands after a story.
abbrev pub place_with : ℕ → Known → Place → Element → Place
place_with w k was (Begun v c) = cond (eqb w v) (begin_of c) was
place_with w k was (Does e) = cond (eqb w e.worker) e.after was

abbrev pub place_in : ℕ → Story → Place
place_in w s = followed_from actor change_of (place_with w) (fresh 0) (Idle Nothing) s

-- A pop between its claim of a block's last slot and its store of head's index.
pub data Emptying : Place → Type 0 where
  leaving6 : {b : Pointer} {h new : Index} → Emptying (V6 h b new)
  leaving7 : {b next : Pointer} {h new : Index} → Emptying (V7 h b new next)
  leaving8 : {b next : Pointer} {h i : Index} → Emptying (V8 h b next i)
  leaving9 : {b : Pointer} {h i : Index} → Emptying (V9 h b i)

-- A push between its claim of a block's last slot and its add to tail's index.
pub data Filling : Place → Type 0 where
  filling9 : {n b : Pointer} {t : Index} {x : ℕ} → Filling (U9 n t b x)
  filling10 : {n b : Pointer} {t : Index} {x : ℕ} → Filling (U10 n t b x)

-- In a block of `more` slots and two more: worker 0 pushes it full (U1 to U13, with U4 to U6 at the first, U3 and U9 to U11 at the last slot), pops all but the last (V1 to V12, V3 at the first), and
-- claims that (V1, V2, V4).
unfoldable pub often : ℕ → List ℕ → List ℕ
often zero entries = []
often (suc n) entries = entries ++ often n entries

abbrev pub last_claimed : ℕ → List ℕ
last_claimed more =
    0 ∷ 5 ∷ acts 0 8 ++ often more (0 ∷ 5 ∷ acts 0 5) ++ 0 ∷ 5 ∷ acts 0 9 ++ 2 ∷ 0 ∷ acts 0 7 ++ often more (2 ∷ 0 ∷ acts 0 6) ++ 2 ∷ 0 ∷ acts 0 3

-- Then worker 1 asks.
abbrev pub asks_len : List ℕ
asks_len = 19 ∷ 0 ∷ acts 1 3

abbrev pub asks_empty : List ℕ
asks_empty = 20 ∷ 0 ∷ acts 1 2
