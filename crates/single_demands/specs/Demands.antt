-- The demands on the one-slot queue, all of them, in the words of request 1 and of document 01. The notions (history, write, read, hand ..)
-- are defined in Notions.antt. The proofs are gathered in crates/single_proof_all_demands/proofs/Headlines.antt; docs/PROMISES.md says in
-- plain words what each says and what not.
use Rattle.std.specs.Prelude.{ℕ, suc, ◌+◌, ◌*◌, ◌%◌, ◌≤◌, ◌<◌, Bool, true, false, not, List, [], ◌∷◌, ◌++◌, map, ◌≡◌, ◌↔◌, ◌≢◌, ◌⊎◌, ltb, length, take, Result, Err}
use Rattle.queue_entries.specs.Limits.{workers_most, meter_most, in_limits}
use Rattle.queue_entries.specs.declared.Call.{Call}
use Rattle.queue_entries.specs.declared.Call.TheVariants.{Push, Close}
use Rattle.queue_entries.specs.Told.{told}
use Rattle.queue_entries.specs.declared.Order.TheVariants.{Begin, Act}
use Rattle.queue_entries.specs.declared.Entry.{Entry}
use Rattle.queue_entries.specs.declared.Entry.TheVariants.{Unreadable, Asks}
use Rattle.queue_entries.specs.Entries.{entry_of}
use Rattle.queue_numbers.specs.Numbers.{has, Numbers, Functions, Ground, on, first_of}
use Rattle.queue_numbers.specs.Answers.{BothWays, number_in, value_in}
use Rattle.queue_plain.specs.Plain.{answer_of, Pushed}
use Rattle.queue_plain.specs.Story.{Does, acts_in, fresh, came_from, went_from}
use Rattle.queue_plain.specs.Story.{items_of as items_begun}
use Rattle.queue_schedules.specs.Reading.{Readable}
use Rattle.queue_schedules.specs.Alone.{acts}
use Rattle.single_words.specs.declared.State.{State}
use Rattle.single_words.specs.Words.{state, locked_in, closed_in}
use Rattle.single_places.specs.declared.Answer.{Answer}
use Rattle.single_places.specs.declared.Answer.TheVariants.{Full, Closed, Empty, PopClosed}
use Rattle.single_places.specs.declared.Place.{Place}
use Rattle.single_places.specs.declared.Place.TheVariants.{Idle, A1, A2, B1, C1}
use Rattle.single_places.specs.Places as places
use Rattle.single_acts.specs.Acts.{len_of}
use Rattle.single_machine.specs.declared.Machine.{Machine}
use Rattle.single_machine.specs.declared.Event.{Event}
use Rattle.single_machine.specs.declared.Did.{Did}
use Rattle.single_machine.specs.declared.Ran.{Ran}
use Rattle.single_machine.specs.Machine.{blank, fresh_of, place_of}
use Rattle.single_machine.specs.Broken.{broken_of, idle_from}
use Rattle.single_machine.specs.Contents.{count_in, contents_of, contents_refusal, written, capacity_of}
use Rattle.single_machine.specs.Run.{ran, run_from, run_of}
use Rattle.single_machine.specs.History.{events_of}
use Rattle.single.specs.Single.{make_of, step_of, begin_step_of, act_step_of}
use Rattle.single_demands.specs.Notions.{Definition, Allowed, machine_after, acts_of, Acts, AtEach, InHand, OtherHand, Popping, access_of, is_read, Holds, HandsOut, Stands, Came, waiting, OneSlot, Took, closed_by, queue_answer, Looks, FullWord, EmptyWord, PopClosedWord, Truth, most_of, passed, own_acts, LetsGo}
use Rattle.single_demands.specs.Notions.{fresh_one, pushing_one, stocked_one, spent_one}
use Rattle.single_demands.specs.Stories.{Story, story_of, change_of, actor, known, reply_of, put_by, taken_by, given_back, item_at, room_taken, asked_at, moment_of}
use Rattle.single_demands.specs.Foretold.{foretold}
use Rattle.single_demands.specs.Attained.{Case, seen_in, attained, exactly}

-- ==== What an answer means: every run of the one-slot queue is a run of a plain queue of capacity 1 (crates/queue_plain), but that a push is asked of the one whose capacity is less by the room
-- that a pop under way still takes. The story of a schedule is its accepted entries, begins too; the plain queue along it, what each call has put in and taken out, and that room are `known` and
-- `room_taken` of Stories.antt.

-- After the story `earlier` an act of its worker answers a. Inside the call that it is in, after its begin and not after this act, there is a moment at which the plain queue, asked that
-- call, gives that answer; `moment_of` names it.
pub record Answered (earlier : Story) (act : Event) (a : Answer) : Type 0 where
  pub call : Call
  pub its : ((known earlier).each act.worker).calls ≡ call ∷ []
  pub moment : ℕ
  pub named : moment_of act.worker (earlier ++ Does act ∷ []) ≡ moment
  pub begun : ((known earlier).each act.worker).begun < moment
  pub inside : moment ≤ length earlier
  pub plain : answer_of (asked_at moment earlier call) call ∷ [] ≡ reply_of a

-- A call that answered Pushed put its item in once and took none out; Displaced one of each; Popped took out the one that it hands out and put in none; any other answer neither. Full and
-- Closed give the item back that the call came with. After a close, whatever it answered, the queue is closed.
pub record Meant (earlier : Story) (act : Event) (a : Answer) : Type 0 where
  pub put : ((known (earlier ++ Does act ∷ [])).each act.worker).puts ≡ put_by a (items_begun ((known earlier).each act.worker).calls)
  pub took : ((known (earlier ++ Does act ∷ [])).each act.worker).takes ≡ taken_by a
  pub back : (x : ℕ) → given_back a ≡ x ∷ [] → items_begun ((known earlier).each act.worker).calls ≡ x ∷ []
  pub closed : ((known earlier).each act.worker).calls ≡ Close ∷ [] → (known (earlier ++ Does act ∷ [])).queue.closed ≡ true

-- The plain queue just before an act that changes it: something waits where the front goes out; nothing waits where an item comes in, but where in the same step the front goes out (a force_push
-- that displaces) it is full; it is open where an item comes in; and no pop under way takes the room where anything comes in or goes out: a force_push that finds it taken, and the queue open, goes
-- back to B1.
pub record Changes (earlier : Story) (act : Event) : Type 0 where
  pub takes : (change_of act).takes ≡ true → 0 < length (known earlier).queue.items
  pub puts : (change_of act).puts ≡ true → (change_of act).takes ≡ false → length (known earlier).queue.items < (known earlier).queue.capacity
  pub full : (change_of act).puts ≡ true → (change_of act).takes ≡ true → length (known earlier).queue.items ≡ (known earlier).queue.capacity
  pub while_open : (change_of act).puts ≡ true → (known earlier).queue.closed ≡ false
  pub let_go : ((change_of act).takes ≡ true) ⊎ ((change_of act).puts ≡ true) → room_taken earlier ≡ 0
  pub goes_back : (e : State) (x : ℕ) → act.before ≡ B1 e x → 0 < room_taken earlier → (known earlier).queue.closed ≡ false → act.after ≡ B1 (state 0) x

-- The room that is taken is that of a pop under way: 1 exactly while some worker's pop stands between its won exchange and its unlock, and then nothing waits; else 0.
pub record RoomOfPop (m : Machine) (s : Story) : Type 0 where
  pub most : room_taken s ≤ 1
  pub taken : 0 < room_taken s → ((w : ℕ) × Popping (place_of m.workers w)) × ((known s).queue.items ≡ [])
  pub held : (w : ℕ) → Popping (place_of m.workers w) → room_taken s ≡ 1

-- While a push or force_push is under way, the item in its record is the one of its begin.
abbrev pub ItemKept : Machine → Story → Type 0
ItemKept m s = (w x : ℕ) → item_at (place_of m.workers w) ≡ x ∷ [] → items_begun ((known s).each w).calls ≡ x ∷ []

pub record NothingLost (m : Machine) (s : Story) : Type 0 where
  -- what came in, in order, is what went out, in order, and then what waits
  pub in_order : came_from actor change_of (fresh 1) s ≡ went_from actor change_of (fresh 1) s ++ (known s).queue.items
  -- with all workers idle these are the contents
  pub contents : idle_from 0 m.workers ≡ true → contents_of m ≡ (known s).queue.items
  -- what a call under way has taken out is one item at most, and then the slot is in its worker's hand (it lets go: demand 3); what a call has taken out that has ended, it handed out (`Meant`)
  pub hands : (w v : ℕ) (more : List ℕ) → (places.view_of (place_of m.workers w)).busy ≡ true → ((known s).each w).takes ≡ v ∷ more
      → (more ≡ []) × InHand (place_of m.workers w)

-- A call that ended before another began comes before it in the plain queue's run.
abbrev pub InCallOrder : Story → Type 0
InCallOrder s =
    (earlier between later : Story) (first second : Event) (a b : Answer) → s ≡ earlier ++ Does first ∷ between ++ Does second ∷ later
    → first.after ≡ Idle a → second.after ≡ Idle b → length earlier < ((known (earlier ++ Does first ∷ between)).each second.worker).begun
    → moment_of first.worker (earlier ++ Does first ∷ []) < moment_of second.worker (earlier ++ Does first ∷ between ++ Does second ∷ [])

pub record PlainThroughout (m : Machine) (h : List Event) (s : Story) : Type 0 where
  -- it is the story of the same acts
  pub acts : acts_in s ≡ h
  pub answers : (earlier later : Story) (act : Event) (a : Answer) → s ≡ earlier ++ Does act ∷ later → act.after ≡ Idle a → Answered earlier act a × Meant earlier act a
  pub changes : (earlier later : Story) (act : Event) → s ≡ earlier ++ Does act ∷ later → Changes earlier act
  pub room : RoomOfPop m s
  pub item_kept : ItemKept m s
  pub nothing_lost : NothingLost m s
  pub call_order : InCallOrder s

-- Every number of workers, every schedule.
abbrev pub AnswersPlain : Definition → Type 0
AnswersPlain d =
    (workers : ℕ) → Allowed workers → (s : List ℕ) → PlainThroughout (machine_after d workers s) (acts_of d workers s) (story_of d workers s)

-- The room is needed: worker 0 pushes 5, and its pop has won its exchange; a push of worker 1 answers Full there, where the plain queue as it is would answer Pushed.
abbrev pub RoomNeeded : Definition → Type 0
RoomNeeded d =
    (earlier : Story) × (act : Event) × (story_of d 2 (0 ∷ 5 ∷ acts 0 3 ++ 2 ∷ 0 ∷ acts 0 1 ++ 16 ∷ 6 ∷ acts 1 1) ≡ earlier ++ Does act ∷ []) × (act.after ≡ Idle (Full 6))
    × (answer_of (known earlier).queue (Push 6) ≡ Pushed)

-- ==== 1. Any machine, entry or schedule handed in gets an answer or a numbered refusal; a refused step changes nothing.
-- That each gets an answer is what the functions of crate single promise: none has a `requires`, and each answer is equal to a
-- definition. What follows speaks of these definitions.

-- What crate single's functions are equal to.
abbrev pub functions : Functions Machine Did Ran
functions = record { make = make_of; step = step_of; begin = begin_step_of; act = act_step_of; run = run_of; written = written }

-- Demand 1: a refused step changes nothing, in the machine or in a lent buffer. Of any functions, so that slips can be said of them.
pub record RefusedUnchangedBy (f : Functions Machine Did Ran) : Type 0 where
  -- refusal 2 returns the blank machine
  pub make : (workers : ℕ) → ((f.make workers).refusal ≡ 0 → ⊥) → (f.make workers).machine ≡ blank
  pub step : (m : Machine) (first second : ℕ) → ((f.step m first second).refusal ≡ 0 → ⊥) → (f.step m first second).machine ≡ m
  pub begin : (m : Machine) (first second : ℕ) → ((f.begin m first second).refusal ≡ 0 → ⊥) → (f.begin m first second).machine ≡ m
  pub act : (m : Machine) (first second : ℕ) → ((f.act m first second).refusal ≡ 0 → ⊥) → (f.act m first second).machine ≡ m
  -- a schedule that is refused at a place leaves what the entries before that place leave: they stand, and no more
  pub run : (m : Machine) (s : List ℕ) → ((f.run m s).refusal ≡ 0 → ⊥) → ((f.run m s).refusal ≡ 9 → ⊥)
      → (f.run m s).machine ≡ (f.run m (take (2 * (f.run m s).place) s)).machine
  -- but one with an entry that can't be read leaves the machine as it was
  pub unread : (m : Machine) (s : List ℕ) → (f.run m s).refusal ≡ 9 → (f.run m s).machine ≡ m
  pub contents : (m : Machine) (buffer : List ℕ) → (contents_refusal m (length buffer) ≡ 0 → ⊥) → f.written m buffer ≡ buffer

abbrev pub RefusedUnchanged : Type 0
RefusedUnchanged = RefusedUnchangedBy functions

-- The numbers that the functions of crate single give.
abbrev pub refusals : Numbers Machine
refusals =
    record {
      make = λ workers. (make_of workers).refusal;
      step = λ m first second. (step_of m first second).refusal;
      begin = λ m first second. (begin_step_of m first second).refusal;
      act = λ m first second. (act_step_of m first second).refusal;
      run = λ m s. (run_of m s).refusal;
      contents = contents_refusal;
    }

-- Demand 1: refusals are numbered, and each function gives these numbers alone; 0 is none.
pub record Numbered (n : Numbers Machine) : Type 0 where
  pub make : (workers : ℕ) → has (0 ∷ 2 ∷ []) (n.make workers) ≡ true
  pub step : (m : Machine) (first second : ℕ) → has (0 ∷ 3 ∷ 4 ∷ 5 ∷ 6 ∷ 7 ∷ 8 ∷ 9 ∷ []) (n.step m first second) ≡ true
  pub begin : (m : Machine) (first second : ℕ) → has (0 ∷ 3 ∷ 4 ∷ 6 ∷ 9 ∷ []) (n.begin m first second) ≡ true
  pub act : (m : Machine) (first second : ℕ) → has (0 ∷ 3 ∷ 5 ∷ 6 ∷ 7 ∷ 8 ∷ 9 ∷ []) (n.act m first second) ≡ true
  pub run : (m : Machine) (s : List ℕ) → has (0 ∷ 3 ∷ 4 ∷ 5 ∷ 6 ∷ 7 ∷ 8 ∷ 9 ∷ 11 ∷ []) (n.run m s) ≡ true
  pub contents : (m : Machine) (room : ℕ) → has (0 ∷ 4 ∷ 6 ∷ 10 ∷ []) (n.contents m room) ≡ true

-- Each of these numbers is given, by the machines of Notions.antt and the blank one.
pub record EachNumber (n : Numbers Machine) : Type 0 where
  pub make : n.make 1 ∷ n.make 0 ∷ [] ≡ 0 ∷ 2 ∷ []
  pub step :
      n.step fresh_one 0 5 ∷ n.step fresh_one 16 5 ∷ n.step pushing_one 0 5 ∷ n.step fresh_one 8 0 ∷ n.step blank 0 5 ∷ n.step spent_one 8 0 ∷ n.step pushing_one 9 0 ∷ n.step fresh_one 10 0 ∷ []
      ≡ 0 ∷ 3 ∷ 4 ∷ 5 ∷ 6 ∷ 7 ∷ 8 ∷ 9 ∷ []
  pub begin : n.begin fresh_one 0 5 ∷ n.begin fresh_one 16 5 ∷ n.begin pushing_one 0 5 ∷ n.begin blank 0 5 ∷ n.begin fresh_one 8 0 ∷ [] ≡ 0 ∷ 3 ∷ 4 ∷ 6 ∷ 9 ∷ []
  pub act :
      n.act pushing_one 8 0 ∷ n.act pushing_one 24 0 ∷ n.act fresh_one 8 0 ∷ n.act blank 8 0 ∷ n.act spent_one 8 0 ∷ n.act pushing_one 9 0 ∷ n.act fresh_one 0 5 ∷ []
      ≡ 0 ∷ 3 ∷ 5 ∷ 6 ∷ 7 ∷ 8 ∷ 9 ∷ []
  pub run :
      n.run fresh_one [] ∷ n.run fresh_one (16 ∷ 5 ∷ []) ∷ n.run pushing_one (0 ∷ 5 ∷ []) ∷ n.run fresh_one (8 ∷ 0 ∷ []) ∷ n.run blank [] ∷ n.run spent_one (8 ∷ 0 ∷ [])
      ∷ n.run pushing_one (9 ∷ 0 ∷ []) ∷ n.run fresh_one (10 ∷ 0 ∷ []) ∷ n.run fresh_one (0 ∷ []) ∷ []
      ≡ 0 ∷ 3 ∷ 4 ∷ 5 ∷ 6 ∷ 7 ∷ 8 ∷ 9 ∷ 11 ∷ []
  pub contents : n.contents fresh_one 0 ∷ n.contents pushing_one 0 ∷ n.contents blank 0 ∷ n.contents stocked_one 0 ∷ [] ≡ 0 ∷ 4 ∷ 6 ∷ 10 ∷ []

-- What an entry is refused for on a machine that is not broken, in document 01's order. No exchange of this queue is weak: code 9 is always refusal 8.
abbrev pub entry_grounds : Machine → Entry → List Ground
entry_grounds m Unreadable = on 9 true ∷ []
entry_grounds m (Asks w (Begin c)) = on 3 (not (ltb w m.count)) ∷ on 4 (places.view_of (place_of m.workers w)).busy ∷ []
entry_grounds m (Asks w (Act lose)) =
    on 3 (not (ltb w m.count)) ∷ on 5 (not (places.view_of (place_of m.workers w)).busy) ∷ on 7 (not (ltb m.meter meter_most)) ∷ on 8 lose ∷ []

-- Each number is given exactly when its ground holds and none before it, of any machine and anything handed in. (Of a schedule's 9 and of its entries: `ListFirst`.)
pub record RefusedExactly (n : Numbers Machine) : Type 0 where
  pub make : (workers : ℕ) → n.make workers ≡ first_of (on 2 (not (in_limits workers workers_most)) ∷ [])
  pub step : (m : Machine) (first second : ℕ) → n.step m first second ≡ first_of (on 6 (broken_of m) ∷ entry_grounds m (entry_of first second))
  -- codes 0 to 7 begin
  pub begin : (m : Machine) (first second : ℕ)
      → n.begin m first second ≡ first_of (on 6 (broken_of m) ∷ on 9 (not (ltb (first % 16) 8)) ∷ entry_grounds m (entry_of first second))
  pub act : (m : Machine) (first second : ℕ) → n.act m first second ≡ first_of (on 6 (broken_of m) ∷ on 9 (ltb (first % 16) 8) ∷ entry_grounds m (entry_of first second))
  pub run : (m : Machine) (s : List ℕ) → (broken_of m ≡ true → n.run m s ≡ 6) × (broken_of m ≡ false → length s % 2 ≡ 1 → n.run m s ≡ 11)
  pub contents : (m : Machine) (room : ℕ) → n.contents m room ≡ first_of (on 6 (broken_of m) ∷ on 4 (not (idle_from 0 m.workers)) ∷ on 10 (ltb room (count_in m)) ∷ [])
  pub capacity : (m : Machine) → number_in (capacity_of m) ≡ first_of (on 6 (broken_of m) ∷ [])

-- The list is checked first (document 02, item 7): of a machine that is not broken and a schedule of whole entries.
pub record ListFirstBy (f : Functions Machine Did Ran) : Type 0 where
  -- the first entry that can't be read is reported, and nothing is run; k entries stand before it, and each of them can be read
  pub stops : (m : Machine) (before : List ℕ) (k first second : ℕ) (rest : List ℕ) → broken_of m ≡ false → length (before ++ first ∷ second ∷ rest) % 2 ≡ 0
      → length before ≡ 2 * k → Readable entry_of before → entry_of first second ≡ Unreadable → f.run m (before ++ first ∷ second ∷ rest) ≡ ran 9 k m
  -- a schedule that can be read is run, entry by entry
  pub runs : (m : Machine) (s : List ℕ) → broken_of m ≡ false → length s % 2 ≡ 0 → Readable entry_of s → f.run m s ≡ run_from m 0 s

abbrev pub ListFirst : Type 0
ListFirst = ListFirstBy functions

-- No entry and no schedule breaks an unbroken machine, reached or not: so refusal 6 is tested once a schedule.
pub record StaysUnbrokenBy (f : Functions Machine Did Ran) : Type 0 where
  pub step : (m : Machine) (first second : ℕ) → broken_of m ≡ false → broken_of (f.step m first second).machine ≡ false
  pub run : (m : Machine) (s : List ℕ) → broken_of m ≡ false → broken_of (f.run m s).machine ≡ false
  -- and a made machine is unbroken
  pub made : (workers : ℕ) → (f.make workers).refusal ≡ 0 → broken_of (f.make workers).machine ≡ false

abbrev pub StaysUnbroken : Type 0
StaysUnbroken = StaysUnbrokenBy functions

-- "Where an answer is an enum, a definition gives this paper's number and values for each of the enum's cases": there and back, inverse to each other, of what `contents` and `capacity` answer.
abbrev pub EnumsBothWays : Type 0
EnumsBothWays = BothWays Err number_in value_in told

-- Only one answer meets a promise: of the whole answer, the machine and the lent buffer.
pub record OnlyOne : Type 0 where
  pub make : (workers : ℕ) (x y : Did) → x ≡ make_of workers → y ≡ make_of workers → x ≡ y
  pub step : (m : Machine) (first second : ℕ) (x y : Did) → x ≡ step_of m first second → y ≡ step_of m first second → x ≡ y
  pub begin : (m : Machine) (first second : ℕ) (x y : Did) → x ≡ begin_step_of m first second → y ≡ begin_step_of m first second → x ≡ y
  pub act : (m : Machine) (first second : ℕ) (x y : Did) → x ≡ act_step_of m first second → y ≡ act_step_of m first second → x ≡ y
  pub run : (m : Machine) (s : List ℕ) (x y : Ran) → x ≡ run_of m s → y ≡ run_of m s → x ≡ y
  pub contents : (m : Machine) (before : List ℕ) (x y : Result ℕ ℕ) (a b : List ℕ)
      → (x ≡ told (contents_refusal m (length before)) (count_in m)) × (a ≡ written m before)
      → (y ≡ told (contents_refusal m (length before)) (count_in m)) × (b ≡ written m before) → (x ≡ y) × (a ≡ b)
  pub capacity : (m : Machine) (x y : Result ℕ ℕ) → x ≡ capacity_of m → y ≡ capacity_of m → x ≡ y
  pub broken : (m : Machine) (x y : Bool) → x ≡ broken_of m → y ≡ broken_of m → x ≡ y

-- ==== 2. Under every schedule from a fresh machine. Said of the machine m that entries reach, and of the acts h behind it.

-- What goes out was pushed by exactly one push or force_push: a value handed out was read by its call's act before, and was then the item
-- of the latest write.
abbrev pub GoesOut : List Event → Type 0
GoesOut = AtEach (λ earlier act. (v : ℕ) → HandsOut act.after v → (k : ℕ) × Came earlier act.worker v k)

-- An item goes out at most once: no two answers hand out the item of one write.
abbrev pub OnceOut : List Event → Type 0
OnceOut =
    AtEach (λ before again. (u k : ℕ) → HandsOut again.after u → Came before again.worker u k
    → AtEach (λ earlier act. (v : ℕ) → HandsOut act.after v → Came earlier act.worker v k → ⊥) before)

-- Every read, whether its call has answered or not, takes along the item of the latest write, and no other read has had it.
abbrev pub ReadsLatest : List Event → Type 0
ReadsLatest =
    AtEach (λ earlier act. is_read (access_of act.before) ≡ true → (v k : ℕ) × Stands earlier v k × Holds act.after v)

-- C2 and B4 read a written value: where one is next, the value in the slot is the item of the latest write, unread.
abbrev pub ReadsWritten : Machine → List Event → Type 0
ReadsWritten m h = (w : ℕ) → is_read (access_of (place_of m.workers w)) ≡ true → (k : ℕ) × Stands h m.single.value k

-- The slot is in at most one hand.
abbrev pub OneHand : Machine → Type 0
OneHand m = (v w : ℕ) → InHand (place_of m.workers v) → InHand (place_of m.workers w) → v ≡ w

-- LOCKED is set exactly while one worker is in hand.
abbrev pub LockedInHand : Machine → Type 0
LockedInHand m = locked_in m.single.state ≡ true ↔ (w : ℕ) × InHand (place_of m.workers w)

-- PUSHED is set exactly while an item waits, CLOSED exactly when a close was made.
abbrev pub PushedWaits : Machine → List Event → Type 0
PushedWaits m h = len_of m.single.state ≡ length (waiting h)

abbrev pub ClosedHolds : Machine → List Event → Type 0
ClosedHolds m h = closed_in m.single.state ≡ closed_by h

-- Every run is one of a plain one-slot queue, and what a call hands out is what waited when its exchange took it.
abbrev pub PlainQueue : List Event → Type 0
PlainQueue h = OneSlot h (waiting h)

abbrev pub TakesOut : List Event → Type 0
TakesOut = AtEach (λ earlier act. (v : ℕ) → HandsOut act.after v → Took earlier act.worker v)

-- With all workers idle contents are what waits: none or one item.
abbrev pub ContentsWait : Machine → List Event → Type 0
ContentsWait m h = idle_from 0 m.workers ≡ true → contents_of m ≡ waiting h

-- An answer is true of the word at the act that decided it.
abbrev pub AnswersTrue : Definition → Machine → Type 0
AnswersTrue d m =
    (w : ℕ) (next : Machine) (a : Answer) → Acts d m w next → place_of next.workers w ≡ Idle a → Truth m.single.state a

-- And exactly so. What Empty, Full and Closed mean, of the word that the exchange found: push has the slot exactly where the word is 0;
-- it answers Full exactly where the word is another and not closed, Closed exactly where it is closed; pop answers Empty
-- exactly where the word is neither pushed nor closed, and Closed exactly where it is closed and not pushed. LOCKED counts for neither.
pub record Decides (d : Definition) (m : Machine) : Type 0 where
  pub push_takes : (w x : ℕ) (next : Machine) → Acts d m w next → place_of m.workers w ≡ A1 x
      → (place_of next.workers w ≡ A2 x ↔ m.single.state.0 ≡ 0)
  pub push_full : (w x : ℕ) (next : Machine) → Acts d m w next → place_of m.workers w ≡ A1 x
      → (place_of next.workers w ≡ Idle (Full x) ↔ FullWord m.single.state)
  pub push_closed : (w x : ℕ) (next : Machine) → Acts d m w next → place_of m.workers w ≡ A1 x
      → (place_of next.workers w ≡ Idle (Closed x) ↔ closed_in m.single.state ≡ true)
  pub force_closed : (w x : ℕ) (e : State) (next : Machine) → Acts d m w next → place_of m.workers w ≡ B1 e x
      → (place_of next.workers w ≡ Idle (Closed x) ↔ closed_in m.single.state ≡ true)
  pub pop_empty : (w : ℕ) (e : State) (next : Machine) → Acts d m w next → place_of m.workers w ≡ C1 e
      → (place_of next.workers w ≡ Idle Empty ↔ EmptyWord m.single.state)
  pub pop_closed : (w : ℕ) (e : State) (next : Machine) → Acts d m w next → place_of m.workers w ≡ C1 e
      → (place_of next.workers w ≡ Idle PopClosed ↔ PopClosedWord m.single.state)

-- What that comes to, of the queue: Full, and nothing waits, is where another's pop is in progress; Empty is where nothing waits, although
-- another's pop may not have let go; and a pop's or a push's Closed is where a close was made.
pub record Means (d : Definition) (m : Machine) (h : List Event) : Type 0 where
  pub full : (w x : ℕ) (next : Machine) → Acts d m w next → place_of next.workers w ≡ Idle (Full x)
      → (closed_by h ≡ false) × (waiting h ≡ [] → (v : ℕ) × (v ≢ w) × Popping (place_of m.workers v))
  pub empty : (w : ℕ) (next : Machine) → Acts d m w next → place_of next.workers w ≡ Idle Empty → (closed_by h ≡ false) × (waiting h ≡ [])
  pub closed : (w x : ℕ) (next : Machine) → Acts d m w next → place_of next.workers w ≡ Idle (Closed x) → closed_by h ≡ true
  pub pop_closed : (w : ℕ) (next : Machine) → Acts d m w next → place_of next.workers w ≡ Idle PopClosed
      → (closed_by h ≡ true) × (waiting h ≡ [])

-- len, is_empty, is_full, close and is_closed answer in one act as a one-slot queue does at that moment.
abbrev pub LookersTrue : Definition → Machine → List Event → Type 0
LookersTrue d m h =
    (w : ℕ) (next : Machine) (c : Call) → Looks c → Acts d m w next → place_of m.workers w ≡ places.begin_of c
    → place_of next.workers w ≡ Idle (queue_answer c (closed_by h) (waiting h))

pub record Demand2 (d : Definition) (workers : ℕ) (m : Machine) (h : List Event) : Type 0 where
  -- It is the machine that was made, and its meter counts the acts.
  pub team : m.count ≡ workers
  pub meter : m.meter ≡ length h
  -- No machine so reached is broken.
  pub unbroken : broken_of m ≡ false
  pub goes_out : GoesOut h
  pub once_out : OnceOut h
  pub reads_latest : ReadsLatest h
  pub reads_written : ReadsWritten m h
  pub one_hand : OneHand m
  pub locked : LockedInHand m
  pub pushed : PushedWaits m h
  pub closed : ClosedHolds m h
  pub plain : PlainQueue h
  pub takes_out : TakesOut h
  pub contents : ContentsWait m h
  pub answers : AnswersTrue d m
  pub decides : Decides d m
  pub means : Means d m h
  pub lookers : LookersTrue d m h

-- Every number of workers, every schedule.
abbrev pub UnderEverySchedule : Definition → Type 0
UnderEverySchedule d =
    (workers : ℕ) → Allowed workers → (s : List ℕ) → Demand2 d workers (machine_after d workers s) (acts_of d workers s)

-- Each act is the one action that the source takes there: of entries that are accepted, each is one turn of the definition, on the
-- machine and on the history; and a schedule of whole entries is run so.
abbrev pub ActByAct : Definition → Type 0
ActByAct d =
    (m : Machine) (s : List ℕ) (first second : ℕ) → length s % 2 ≡ 0 → (d.run m 0 s).refusal ≡ 0
    → (d.turn (d.run m 0 s).machine first second).refusal ≡ 0
    → ((d.run m 0 (s ++ first ∷ second ∷ [])).machine ≡ (d.turn (d.run m 0 s).machine first second).machine)
    × (d.history m (s ++ first ∷ second ∷ [])
    ≡ d.history m s ++ events_of (d.run m 0 s).machine (entry_of first second) (d.turn (d.run m 0 s).machine first second).machine)

abbrev pub WholeSchedules : Definition → Type 0
WholeSchedules d =
    (workers : ℕ) → Allowed workers → (s : List ℕ)
    → (length s % 2 ≡ 0 → Readable entry_of s → run_of (fresh_of workers) s ≡ d.run (fresh_of workers) 0 s)
    × (length s % 2 ≡ 1 → (run_of (fresh_of workers) s).machine ≡ fresh_of workers)

-- ==== 3. Nobody waits without a holder. Said of the same machines and acts.

-- Worker w's call, if only acts of w are scheduled (code 8), ends within so many of them, none refused; its answer is the one that the
-- word and the value foretell (Foretold.antt), is true of the word at the act that decided it, hands out only what goes out once, and that of
-- a call only begun is a one-slot queue's.
pub record EndsAlone (d : Definition) (m : Machine) (h : List Event) (w most : ℕ) : Type 0 where
  -- the acts before the last
  pub before : ℕ
  pub within : before + 1 ≤ most
  pub accepted : (d.run m 0 (acts w (suc before))).refusal ≡ 0
  pub busy : (places.view_of (place_of (d.run m 0 (acts w before)).machine.workers w)).busy ≡ true
  pub answer : Answer
  pub ends : place_of (d.run m 0 (acts w (suc before))).machine.workers w ≡ Idle answer
  pub as_foretold : answer ≡ foretold m w
  pub true_then : Truth (d.run m 0 (acts w before)).machine.single.state answer
  pub goes_out : (v : ℕ) → HandsOut (Idle answer) v → (k : ℕ) × Came (h ++ d.history m (acts w before)) w v k
  pub queue : (c : Call) → place_of m.workers w ≡ places.begin_of c → answer ≡ queue_answer c (closed_by h) (waiting h)

-- Nothing but the meter refuses an act of a call under way.
abbrev pub NeverRefused : Definition → Machine → Type 0
NeverRefused d m =
    (w : ℕ) → (places.view_of (place_of m.workers w)).busy ≡ true → m.meter < meter_most → (d.turn m (16 * w + 8) 0).refusal ≡ 0

-- With four acts left on the meter and the slot in no other worker's hand a call that alone is scheduled ends.
abbrev pub AloneEnds : Definition → Machine → List Event → Type 0
AloneEnds d m h =
    (w : ℕ) → (places.view_of (place_of m.workers w)).busy ≡ true → m.meter + 4 ≤ meter_most → (OtherHand m w → ⊥)
    → EndsAlone d m h w (most_of (place_of m.workers w))

-- One that is still under way after those acts has another worker's hand on the slot.
abbrev pub InTheWay : Definition → Machine → Type 0
InTheWay d m =
    (w : ℕ) → m.meter + 4 ≤ meter_most
    → (places.view_of (place_of (d.run m 0 (acts w (most_of (place_of m.workers w)))).machine.workers w)).busy ≡ true → OtherHand m w

-- Whatever entries come between, a worker with the slot in hand lets go with its next acts: two of them, or one.
abbrev pub HandLetsGo : Definition → Machine → Type 0
HandLetsGo d m =
    (w : ℕ) (entries : List ℕ) → InHand (place_of m.workers w)
    → most_of (place_of m.workers w) ≤ own_acts d w m entries → LetsGo d m w entries (most_of (place_of m.workers w))

-- (Entries that are all accepted are passed as a schedule runs them.)
abbrev pub PassedAsRun : Definition → Machine → Type 0
PassedAsRun d m = (entries : List ℕ) → (d.run m 0 entries).refusal ≡ 0 → passed d m entries ≡ (d.run m 0 entries).machine

pub record Demand3 (d : Definition) (m : Machine) (h : List Event) : Type 0 where
  pub accepted : NeverRefused d m
  pub alone : AloneEnds d m h
  pub in_the_way : InTheWay d m
  pub lets_go : HandLetsGo d m
  pub as_run : PassedAsRun d m

abbrev pub ScheduledAlone : Definition → Type 0
ScheduledAlone d = (workers : ℕ) → Allowed workers → (s : List ℕ) → Demand3 d (machine_after d workers s) (acts_of d workers s)

-- The numbers are four at most, two in hand, and attained: each schedule of the table leads to its place, alone, and the call there needs
-- exactly its number of acts. The first is said of any numbers, so that it can be said of wrong ones; it is met by `most_of`.
abbrev pub AtMost : (Place → ℕ) → Type 0
AtMost most = (p : Place) → (most p ≤ 4) × (InHand p → most p ≤ 2)

abbrev pub Attained : Type 0
Attained = map seen_in attained ≡ map (λ (c : Case). exactly c.place c.number) attained
