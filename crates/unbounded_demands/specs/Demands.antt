-- The statements of request 12, all of them, in its words, and what is said of the pool and of progress beside them. The notions (history, claim, hand ..) are
-- defined in Notions.antt and Waiting.antt. The proofs are gathered in crates/unbounded_proof_all_demands/proofs/Headlines.antt.
use Rattle.std.specs.Prelude.{ℕ, suc, ◌+◌, ◌*◌, ◌%◌, ◌≤◌, ◌<◌, Bool, true, false, cond, not, List, [], ◌∷◌, ◌++◌, map, ◌↔◌, ◌⊎◌, ◌≡◌, eqb, ltb, length, take, Result, Err, Ok}
use Rattle.queue_entries.specs.Told.{told}
use Rattle.queue_entries.specs.Limits.{workers_most, meter_most, in_limits}
use Rattle.queue_entries.specs.declared.Order.TheVariants.{Begin, Act}
use Rattle.queue_entries.specs.declared.Entry.{Entry}
use Rattle.queue_entries.specs.declared.Entry.TheVariants.{Unreadable, Asks}
use Rattle.queue_entries.specs.Entries.{entry_of}
use Rattle.queue_entries.specs.declared.Call.{Call}
use Rattle.queue_entries.specs.declared.Call.TheVariants.{IsEmpty, Close}
use Rattle.queue_plain.specs.Plain.{answer_of}
use Rattle.queue_plain.specs.Story.{Does, acts_in, fresh, came_from, went_from}
use Rattle.queue_plain.specs.Story.{items_of as items_begun}
use Rattle.queue_schedules.specs.Reading.{Readable}
use Rattle.queue_schedules.specs.Alone.{acts}
use Rattle.queue_numbers.specs.Numbers.{Numbers, Functions, Ground, on, first_of}
use Rattle.queue_numbers.specs.Numbers as numbers
use Rattle.unbounded_words.specs.declared.Index.{Index}
use Rattle.unbounded_words.specs.declared.Pointer.{Pointer}
use Rattle.unbounded_words.specs.declared.Pointer.TheVariants.{None, To}
use Rattle.unbounded_words.specs.Words.{Sizes, sizes, index, marked_of, offset_of, number_of}
use Rattle.unbounded_places.specs.declared.Answer.{Answer}
use Rattle.unbounded_places.specs.declared.Block.{Block}
use Rattle.unbounded_places.specs.declared.Answer.TheVariants.{Pushed, Popped, PopClosed, Len, Yes, No}
use Rattle.unbounded_places.specs.declared.Place.{Place}
use Rattle.unbounded_places.specs.declared.Place.TheVariants.{Idle, U15, V6, V10, Empty1, Empty2, Full1}
use Rattle.unbounded_places.specs.Places.{view_of}
use Rattle.unbounded_acts.specs.Acts.{WRITE, has}
use Rattle.unbounded_machine.specs.declared.Machine.{Machine}
use Rattle.unbounded_machine.specs.declared.Event.{Event}
use Rattle.unbounded_machine.specs.declared.Did.{Did}
use Rattle.unbounded_machine.specs.declared.Ran.{Ran}
use Rattle.unbounded_machine.specs.Machine.{blank, fresh_of, machine_of, free_blocks, empty_slots, place_of, block_at, live}
use Rattle.unbounded_machine.specs.Broken.{broken_of, all_idle, uses_fit}
use Rattle.unbounded_machine.specs.Contents.{count_in, contents_of, contents_refusal, written}
use Rattle.unbounded_machine.specs.Turn.{entry_here, lowest_free}
use Rattle.unbounded_machine.specs.Run.{ran, run_from, run_of}
use Rattle.unbounded_machine.specs.History.{events_of}
use Rattle.unbounded.specs.Unbounded.{make_of, step_of, begin_step_of, act_step_of, capacity_of}
use Rattle.unbounded_demands.specs.Notions.{Definition, Allowed, machine_after, acts_of, Acts, Asking, Pushing, Popping, Reads, value_at, state_at, takings_of, freeings_of, sign_of, HandsOut, takers_of, LatestIn, ItemIn, waiting, Fifo, position, Truth, chained}
use Rattle.unbounded_demands.specs.Waiting.{PushingIn, PoppingIn, OneSlot, Crossing, Tying, Leaving, Fronting, push_left, passed, own_acts, Holding, pop_most, push_most, look_most}
use Rattle.unbounded_demands.specs.Attained.{Case, seen_by, exactly, old_pops, crossing_pops, ending_pops, beginning_pushes, going_pushes, ending_pushes}
use Rattle.unbounded_demands.specs.Notions.{fresh_two, pushing_two, spent_two, wanting_two, fresh_one, stocked_one}
use Rattle.unbounded_machine.specs.Turn.{Table}
use Rattle.queue_numbers.specs.Answers.{BothWays, number_in, value_in}
use Rattle.unbounded_demands.specs.Claims.{CallClaim, WrittenIn, closed_by, ClosesYes, NoClaims}
use Rattle.unbounded_demands.specs.Stories.{Story, story_of, task_of, Takes, item_in, change_of, actor, known, queue_at, reply_of, put_by, taken_by, given_back, At, AfterNextTail, moment_of, place_in, Emptying, Filling, last_claimed, asks_len, asks_empty}

-- ==== What an answer means: every run of the unbounded queue is a run of a plain queue without capacity (crates/queue_plain), but for one answer of is_empty. The story of a schedule is its
-- accepted entries, begins too; the plain queue along it, and what each call has put in and taken out, are `known` of Stories.antt.

-- After the story `earlier` an act of its worker answers a. Inside the call that it is in, after its begin and not after this act, there is a moment at which the plain queue, asked that
-- call, gives that answer; `moment_of` names it.
pub record Answered (earlier : Story) (act : Event) (a : Answer) : Type 0 where
  pub call : Call
  pub its : ((known earlier).each act.worker).calls ≡ call ∷ []
  pub moment : ℕ
  pub named : moment_of act.worker (earlier ++ Does act ∷ []) ≡ At moment
  pub begun : ((known earlier).each act.worker).begun < moment
  pub inside : moment ≤ length earlier
  pub plain : answer_of (queue_at moment earlier) call ∷ [] ≡ reply_of a

-- The one answer that is none of the plain queue's, as the source has it: a no of is_empty while nothing waits. Nothing waits from its load of head's index on up to its answer; and at that load
-- some pop stood between its claim of a block's last slot and its store of head's index (V6 to V9).
pub record AtBlocksEnd (earlier : Story) (act : Event) (a : Answer) : Type 0 where
  pub its : ((known earlier).each act.worker).calls ≡ IsEmpty ∷ []
  pub says_no : a ≡ No
  pub unnamed : moment_of act.worker (earlier ++ Does act ∷ []) ≡ AfterNextTail
  -- its load of head's index
  pub before : Story
  pub load : Event
  pub since : Story
  pub is : earlier ≡ before ++ Does load ∷ since
  pub its_own : load.worker ≡ act.worker
  pub loads : load.before ≡ Empty1
  pub begun : ((known earlier).each act.worker).begun < length before
  pub nothing_waits : (n : ℕ) → length before ≤ n → n ≤ length earlier → (queue_at n earlier).items ≡ []
  pub leaving : (v : ℕ) × Emptying (place_in v before)

-- And it answers so there, but where tail's index stands at that block's end too: where is_empty answers yes although at its load of head's index some pop stood there, some push stands between
-- its claim of a block's last slot and its add to tail's index (U9, U10).
pub record YesAtBlocksEnd (earlier : Story) (w : ℕ) : Type 0 where
  pub before : Story
  pub load : Event
  pub since : Story
  pub is : earlier ≡ before ++ Does load ∷ since
  pub its_own : load.worker ≡ w
  pub loads : load.before ≡ Empty1
  pub begun : ((known earlier).each w).begun < length before
  pub filling : (v : ℕ) → Emptying (place_in v before) → (u : ℕ) × Filling (place_in u earlier)

-- A call that answered Pushed put its item in once and took none out; Popped took out the one that it hands out and put in none; any other answer neither. Closed gives the item back that the
-- call came with. After a close, whatever it answered, the queue is closed.
pub record Meant (earlier : Story) (act : Event) (a : Answer) : Type 0 where
  pub put : ((known (earlier ++ Does act ∷ [])).each act.worker).puts ≡ put_by a (items_begun ((known earlier).each act.worker).calls)
  pub took : ((known (earlier ++ Does act ∷ [])).each act.worker).takes ≡ taken_by a
  pub back : (x : ℕ) → given_back a ≡ x ∷ [] → items_begun ((known earlier).each act.worker).calls ≡ x ∷ []
  pub closed : ((known earlier).each act.worker).calls ≡ Close ∷ [] → (known (earlier ++ Does act ∷ [])).queue.closed ≡ true

-- The plain queue just before an act that changes it: something waits where the front goes out; it is open where an item comes in; and no act does both. A close that answers yes finds it open.
pub record Changes (earlier : Story) (act : Event) : Type 0 where
  pub takes : (change_of act).takes ≡ true → 0 < length (known earlier).queue.items
  pub while_open : (change_of act).puts ≡ true → (known earlier).queue.closed ≡ false
  pub one : (change_of act).puts ≡ true → (change_of act).takes ≡ false
  pub closes : (change_of act).closes ≡ true → act.after ≡ Idle Yes → (known earlier).queue.closed ≡ false

-- While a push is under way, the item in its record is the one of its begin.
abbrev pub ItemKept : Machine → Story → Type 0
ItemKept m s = (w x : ℕ) → item_in (task_of (place_of m.workers w)) ≡ x ∷ [] → items_begun ((known s).each w).calls ≡ x ∷ []

pub record NothingLost (d : Definition) (m : Machine) (s : Story) : Type 0 where
  -- what came in, in order, is what went out, in order, and then what waits
  pub in_order : came_from actor change_of (fresh 0) s ≡ went_from actor change_of (fresh 0) s ++ (known s).queue.items
  -- with all workers idle these are the contents
  pub contents : all_idle d.sizes m.workers ≡ true → contents_of d.sizes m ≡ (known s).queue.items
  -- what a call under way has taken out is one item at most, and then it stands between its claim and its answer (V6 to V15); what a call has taken out that has ended, it handed out (`Meant`)
  pub hands : (w v : ℕ) (more : List ℕ) → (view_of d.sizes (place_of m.workers w)).busy ≡ true → ((known s).each w).takes ≡ v ∷ more
      → (more ≡ []) × (task_of (place_of m.workers w) ≡ Takes)

-- A call that ended before another began comes before it in the plain queue's run.
abbrev pub InCallOrder : Story → Type 0
InCallOrder s =
    (earlier between later : Story) (first second : Event) (a b : Answer) (i j : ℕ) → s ≡ earlier ++ Does first ∷ between ++ Does second ∷ later
    → first.after ≡ Idle a → second.after ≡ Idle b → length earlier < ((known (earlier ++ Does first ∷ between)).each second.worker).begun
    → moment_of first.worker (earlier ++ Does first ∷ []) ≡ At i → moment_of second.worker (earlier ++ Does first ∷ between ++ Does second ∷ []) ≡ At j → i < j

pub record PlainThroughout (d : Definition) (m : Machine) (h : List Event) (s : Story) : Type 0 where
  -- it is the story of the same acts
  pub acts : acts_in s ≡ h
  pub answers : (earlier later : Story) (act : Event) (a : Answer) → s ≡ earlier ++ Does act ∷ later → act.after ≡ Idle a
      → (Answered earlier act a ⊎ AtBlocksEnd earlier act a) × Meant earlier act a
  pub yes_there : (earlier later : Story) (act : Event) (h : Index) → s ≡ earlier ++ Does act ∷ later → act.before ≡ Empty2 h → act.after ≡ Idle Yes → YesAtBlocksEnd earlier act.worker
  pub changes : (earlier later : Story) (act : Event) → s ≡ earlier ++ Does act ∷ later → Changes earlier act
  pub item_kept : ItemKept m s
  pub nothing_lost : NothingLost d m s
  pub call_order : InCallOrder s

-- Every number of workers, every schedule.
abbrev pub AnswersPlain : Definition → Type 0
AnswersPlain d =
    (workers : ℕ) → Allowed workers → (s : List ℕ) → PlainThroughout d (machine_after d workers s) (acts_of d workers s) (story_of d workers s)

-- It happens: in a block of `more` slots and two more, pushed full, popped but for the last slot and that one claimed, worker 1's len answers 0, and its is_empty no, with nothing waiting.
pub record SaidAtBlocksEnd (d : Definition) (more : ℕ) : Type 0 where
  pub len : place_of (machine_after d 2 (last_claimed more ++ asks_len)).workers 1 ≡ Idle (Len 0)
  pub empty : place_of (machine_after d 2 (last_claimed more ++ asks_empty)).workers 1 ≡ Idle No
  pub none_waits : (known (story_of d 2 (last_claimed more ++ asks_empty))).queue.items ≡ []

-- ---- close, and a call's own claim: said of the machine that entries reach, and of the acts behind it

-- Tail's mark is set exactly if a close was made; of all closes one at most answers yes; and after a pop has answered Closed nothing is claimed.
pub record CloseHolds (m : Machine) (h : List Event) : Type 0 where
  pub mark : marked_of m.ends.tail ≡ closed_by h
  pub yes_once : (earlier between later : List Event) (act again : Event) → h ≡ earlier ++ act ∷ between ++ again ∷ later → ClosesYes act → ClosesYes again → ⊥
  pub none_after : (earlier later : List Event) (act : Event) → h ≡ earlier ++ act ∷ later → act.after ≡ Idle PopClosed → NoClaims later

-- The claim rule of request 12 with the call's own claim: a value handed out is the item of the tail claim that has the number of the head claim that its call has made, and was written for that
-- tail claim.
abbrev pub OwnClaim : List Event → Type 0
OwnClaim h =
    (earlier later : List Event) (act : Event) (v : ℕ) → h ≡ earlier ++ act ∷ later → act.after ≡ Idle (Popped v)
    → (k : ℕ) × CallClaim earlier act.worker k × LatestIn (takers_of earlier) act.worker k × ItemIn earlier k v × WrittenIn earlier k v

abbrev pub ClosesAndClaims : Definition → Type 0
ClosesAndClaims d =
    (workers : ℕ) → Allowed workers → (s : List ℕ) → CloseHolds (machine_after d workers s) (acts_of d workers s) × OwnClaim (acts_of d workers s)

-- ==== 1. Any machine, entry or schedule handed in gets an answer or a numbered refusal; a refused step changes nothing.
-- That each gets an answer is what the functions of crate unbounded promise: none has a `requires`, and each answer is equal to a
-- definition. What follows speaks of these definitions.

-- What crate unbounded's functions are equal to.
abbrev pub functions : Functions Machine Did Ran
functions = record { make = make_of sizes; step = step_of sizes; begin = begin_step_of sizes; act = act_step_of sizes; run = run_of sizes; written = written sizes }

-- A refused step changes nothing, in the machine or in a lent buffer. Of any functions, so that slips can be said of them.
pub record RefusedUnchangedBy (f : Functions Machine Did Ran) : Type 0 where
  -- refusal 2 returns the blank machine
  pub make : (workers : ℕ) → ((f.make workers).refusal ≡ 0 → ⊥) → (f.make workers).machine ≡ blank sizes
  pub step : (m : Machine) (first second : ℕ) → ((f.step m first second).refusal ≡ 0 → ⊥) → (f.step m first second).machine ≡ m
  pub begin : (m : Machine) (first second : ℕ) → ((f.begin m first second).refusal ≡ 0 → ⊥) → (f.begin m first second).machine ≡ m
  pub act : (m : Machine) (first second : ℕ) → ((f.act m first second).refusal ≡ 0 → ⊥) → (f.act m first second).machine ≡ m
  -- a schedule that is refused at a place leaves what the entries before that place leave: they stand, and no more
  pub run : (m : Machine) (s : List ℕ) → ((f.run m s).refusal ≡ 0 → ⊥) → ((f.run m s).refusal ≡ 9 → ⊥)
      → (f.run m s).machine ≡ (f.run m (take (2 * (f.run m s).place) s)).machine
  -- but one with an entry that can't be read leaves the machine as it was
  pub unread : (m : Machine) (s : List ℕ) → (f.run m s).refusal ≡ 9 → (f.run m s).machine ≡ m
  pub contents : (m : Machine) (buffer : List ℕ) → (contents_refusal sizes m (length buffer) ≡ 0 → ⊥) → f.written m buffer ≡ buffer

abbrev pub RefusedUnchanged : Type 0
RefusedUnchanged = RefusedUnchangedBy functions

-- Why refusal 6 is judged at every entry: an accepted act can break a machine that no schedule reaches. One worker at its one act of is_full, tail ahead of head, no block: while it is busy nobody
-- asks for `Drop`'s walk; once it is idle that is asked for, and its first step uses no block.
abbrev pub unblocked : Machine
unblocked = machine_of (record { head = index 0; front = None; tail = index 2; back = None }) (free_blocks sizes) (empty_slots sizes) (record { place = Full1 } ∷ []) 1 0

pub record AnActMayBreak : Type 0 where
  pub sound : broken_of sizes unblocked ≡ false
  pub accepted : (step_of sizes unblocked 8 0).refusal ≡ 0
  pub broken : broken_of sizes (step_of sizes unblocked 8 0).machine ≡ true

-- The list is checked first (document 02, item 7): of a machine that is not broken and a schedule of whole entries.
pub record ListFirstBy (f : Functions Machine Did Ran) : Type 0 where
  -- the first entry that can't be read is reported, and nothing is run; k entries stand before it, and each of them can be read
  pub stops : (m : Machine) (before : List ℕ) (k first second : ℕ) (rest : List ℕ) → broken_of sizes m ≡ false → length (before ++ first ∷ second ∷ rest) % 2 ≡ 0
      → length before ≡ 2 * k → Readable entry_here before → entry_here first second ≡ Unreadable → f.run m (before ++ first ∷ second ∷ rest) ≡ ran 9 k m
  -- a schedule that can be read is run, entry by entry
  pub runs : (m : Machine) (s : List ℕ) → broken_of sizes m ≡ false → length s % 2 ≡ 0 → Readable entry_here s → f.run m s ≡ run_from sizes m 0 s

abbrev pub ListFirst : Type 0
ListFirst = ListFirstBy functions

-- The numbers that the functions of crate unbounded give.
abbrev pub refusals : Numbers Machine
refusals =
    record {
      make = λ workers. (make_of sizes workers).refusal;
      step = λ m first second. (step_of sizes m first second).refusal;
      begin = λ m first second. (begin_step_of sizes m first second).refusal;
      act = λ m first second. (act_step_of sizes m first second).refusal;
      run = λ m s. (run_of sizes m s).refusal;
      contents = contents_refusal sizes;
    }

-- Refusals are numbered, and each function gives these numbers alone; 0 is none.
pub record Numbered (n : Numbers Machine) : Type 0 where
  pub make : (workers : ℕ) → numbers.has (0 ∷ 2 ∷ []) (n.make workers) ≡ true
  pub step : (m : Machine) (first second : ℕ) → numbers.has (0 ∷ 3 ∷ 4 ∷ 5 ∷ 6 ∷ 7 ∷ 8 ∷ 9 ∷ 23 ∷ []) (n.step m first second) ≡ true
  pub begin : (m : Machine) (first second : ℕ) → numbers.has (0 ∷ 3 ∷ 4 ∷ 6 ∷ 9 ∷ []) (n.begin m first second) ≡ true
  pub act : (m : Machine) (first second : ℕ) → numbers.has (0 ∷ 3 ∷ 5 ∷ 6 ∷ 7 ∷ 8 ∷ 9 ∷ 23 ∷ []) (n.act m first second) ≡ true
  pub run : (m : Machine) (s : List ℕ) → numbers.has (0 ∷ 3 ∷ 4 ∷ 5 ∷ 6 ∷ 7 ∷ 8 ∷ 9 ∷ 11 ∷ 23 ∷ []) (n.run m s) ≡ true
  pub contents : (m : Machine) (room : ℕ) → numbers.has (0 ∷ 4 ∷ 6 ∷ 10 ∷ []) (n.contents m room) ≡ true

-- Each of these numbers is given, by the machines of Notions.antt and the blank one.
pub record EachNumber (n : Numbers Machine) : Type 0 where
  pub make : n.make 1 ∷ n.make 0 ∷ [] ≡ 0 ∷ 2 ∷ []
  pub step :
      n.step fresh_two 0 5 ∷ n.step fresh_two 32 5 ∷ n.step pushing_two 0 5 ∷ n.step fresh_two 8 0 ∷ n.step (blank sizes) 0 5 ∷ n.step spent_two 8 0 ∷ n.step wanting_two 9 0 ∷ n.step fresh_two 10 0
      ∷ n.step wanting_two 8 0 ∷ []
      ≡ 0 ∷ 3 ∷ 4 ∷ 5 ∷ 6 ∷ 7 ∷ 8 ∷ 9 ∷ 23 ∷ []
  pub begin : n.begin fresh_two 0 5 ∷ n.begin fresh_two 32 5 ∷ n.begin pushing_two 0 5 ∷ n.begin (blank sizes) 0 5 ∷ n.begin fresh_two 8 0 ∷ [] ≡ 0 ∷ 3 ∷ 4 ∷ 6 ∷ 9 ∷ []
  pub act :
      n.act pushing_two 8 0 ∷ n.act pushing_two 40 0 ∷ n.act fresh_two 8 0 ∷ n.act (blank sizes) 8 0 ∷ n.act spent_two 8 0 ∷ n.act wanting_two 9 0 ∷ n.act fresh_two 0 5 ∷ n.act wanting_two 8 0 ∷ []
      ≡ 0 ∷ 3 ∷ 5 ∷ 6 ∷ 7 ∷ 8 ∷ 9 ∷ 23 ∷ []
  pub run :
      n.run fresh_two [] ∷ n.run fresh_two (32 ∷ 5 ∷ []) ∷ n.run pushing_two (0 ∷ 5 ∷ []) ∷ n.run fresh_two (8 ∷ 0 ∷ []) ∷ n.run (blank sizes) [] ∷ n.run spent_two (8 ∷ 0 ∷ [])
      ∷ n.run wanting_two (9 ∷ 0 ∷ []) ∷ n.run fresh_two (10 ∷ 0 ∷ []) ∷ n.run fresh_two (0 ∷ []) ∷ n.run wanting_two (8 ∷ 0 ∷ []) ∷ []
      ≡ 0 ∷ 3 ∷ 4 ∷ 5 ∷ 6 ∷ 7 ∷ 8 ∷ 9 ∷ 11 ∷ 23 ∷ []
  pub contents : n.contents fresh_one 0 ∷ n.contents fresh_two 0 ∷ n.contents (blank sizes) 0 ∷ n.contents stocked_one 0 ∷ [] ≡ 0 ∷ 4 ∷ 6 ∷ 10 ∷ []

-- "Where an answer is an enum, a definition gives this paper's number and values for each of the enum's cases": there and back, inverse to each other, of what `contents` answers and of what
-- `capacity` does, which has no value; and the promises use it.
abbrev pub bound_number : Result (Unit {0}) ℕ → ℕ
bound_number (Ok value) = 0
bound_number (Err number) = number

abbrev pub bound_of : ℕ → Unit {0} → Result (Unit {0}) ℕ
bound_of number value = cond (eqb number 0) (Ok tt) (Err number)

-- What an entry is refused for on a machine that is not broken, in document 01's order; last, request 12's 23: a call needs a block and none is free.
abbrev pub entry_grounds : Machine → Entry → List Ground
entry_grounds m Unreadable = on 9 true ∷ []
entry_grounds m (Asks w (Begin c)) = on 3 (not (ltb w m.count)) ∷ on 4 (view_of sizes (place_of m.workers w)).busy ∷ []
entry_grounds m (Asks w (Act lose)) =
    on 3 (not (ltb w m.count)) ∷ on 5 (not (view_of sizes (place_of m.workers w)).busy) ∷ on 7 (not (ltb m.meter meter_most))
    ∷ on 8 (cond lose (not (view_of sizes (place_of m.workers w)).weak) false)
    ∷ on 23 (cond (view_of sizes (place_of m.workers w)).takes (not (ltb (lowest_free sizes m.blocks) sizes.blocks)) false) ∷ []

-- Each number is given exactly when its ground holds and none before it, of any machine and anything handed in. (Of a schedule's 9 and of its entries: `ListFirst`. Of 23: `TwentyThree` too.)
pub record RefusedExactly (n : Numbers Machine) : Type 0 where
  pub make : (workers : ℕ) → n.make workers ≡ first_of (on 2 (not (in_limits workers workers_most)) ∷ [])
  pub step : (m : Machine) (first second : ℕ) → n.step m first second ≡ first_of (on 6 (broken_of sizes m) ∷ entry_grounds m (entry_here first second))
  -- codes 0 to 7 begin
  pub begin : (m : Machine) (first second : ℕ)
      → n.begin m first second ≡ first_of (on 6 (broken_of sizes m) ∷ on 9 (not (ltb (first % 16) 8)) ∷ entry_grounds m (entry_here first second))
  pub act : (m : Machine) (first second : ℕ)
      → n.act m first second ≡ first_of (on 6 (broken_of sizes m) ∷ on 9 (ltb (first % 16) 8) ∷ entry_grounds m (entry_here first second))
  pub run : (m : Machine) (s : List ℕ) → (broken_of sizes m ≡ true → n.run m s ≡ 6) × (broken_of sizes m ≡ false → length s % 2 ≡ 1 → n.run m s ≡ 11)
  pub contents : (m : Machine) (room : ℕ)
      → n.contents m room ≡ first_of (on 6 (broken_of sizes m) ∷ on 4 (not (all_idle sizes m.workers)) ∷ on 10 (ltb room (count_in sizes m)) ∷ [])
  pub capacity : (m : Machine) → bound_number (capacity_of sizes m) ≡ first_of (on 6 (broken_of sizes m) ∷ [])

pub record EnumsBothWays : Type 0 where
  pub numbers_back : BothWays Err number_in value_in told
  pub bounds_back : BothWays Err bound_number (λ (b : Result (Unit {0}) ℕ). tt) bound_of
  pub bound_is : (m : Machine) → capacity_of sizes m ≡ bound_of (cond (broken_of sizes m) 6 0) tt

-- Only one answer meets a promise: of the whole answer, the machine and the lent buffer.
pub record OnlyOne : Type 0 where
  pub make : (workers : ℕ) (x y : Did) → x ≡ make_of sizes workers → y ≡ make_of sizes workers → x ≡ y
  pub step : (m : Machine) (first second : ℕ) (x y : Did) → x ≡ step_of sizes m first second → y ≡ step_of sizes m first second → x ≡ y
  pub begin : (m : Machine) (first second : ℕ) (x y : Did) → x ≡ begin_step_of sizes m first second → y ≡ begin_step_of sizes m first second → x ≡ y
  pub act : (m : Machine) (first second : ℕ) (x y : Did) → x ≡ act_step_of sizes m first second → y ≡ act_step_of sizes m first second → x ≡ y
  pub run : (m : Machine) (s : List ℕ) (x y : Ran) → x ≡ run_of sizes m s → y ≡ run_of sizes m s → x ≡ y
  pub contents : (m : Machine) (before : List ℕ) (x y : Result ℕ ℕ) (a b : List ℕ)
      → (x ≡ told (contents_refusal sizes m (length before)) (count_in sizes m)) × (a ≡ written sizes m before)
      → (y ≡ told (contents_refusal sizes m (length before)) (count_in sizes m)) × (b ≡ written sizes m before) → (x ≡ y) × (a ≡ b)
  pub capacity : (m : Machine) (x y : Result (Unit {0}) ℕ) → x ≡ capacity_of sizes m → y ≡ capacity_of sizes m → x ≡ y
  pub broken : (m : Machine) (x y : Bool) → x ≡ broken_of sizes m → y ≡ broken_of sizes m → x ≡ y

-- ==== 2. Under every schedule from a fresh machine. Said of the machine m that entries reach, and of the acts h behind it.

-- The claim rule: a value handed out is the item of the tail claim that has the number of its worker's latest head claim.
abbrev pub ClaimRule : List Event → Type 0
ClaimRule h =
    (earlier later : List Event) (act : Event) (v : ℕ) → h ≡ earlier ++ act ∷ later → sign_of act.after ≡ HandsOut v
    → (k : ℕ) × LatestIn (takers_of earlier) act.worker k × ItemIn earlier k v

-- No two of these answers share that number.
abbrev pub OnceOut : List Event → Type 0
OnceOut h =
    (earlier between later : List Event) (act again : Event) (v u k : ℕ) → h ≡ earlier ++ act ∷ between ++ again ∷ later
    → sign_of act.after ≡ HandsOut v → sign_of again.after ≡ HandsOut u
    → LatestIn (takers_of earlier) act.worker k → LatestIn (takers_of (earlier ++ act ∷ between)) again.worker k → ⊥

-- No slot is in two hands: neither two pushes nor two pops are at one position; and where a push and a pop are, the pop has not read.
abbrev pub OneHand : Machine → Type 0
OneHand m =
    ((v w : ℕ) (t u : Index) → Pushing (place_of m.workers v) t → Pushing (place_of m.workers w) u → position t ≡ position u → v ≡ w)
    × ((v w : ℕ) (t u : Index) → Popping (place_of m.workers v) t → Popping (place_of m.workers w) u → position t ≡ position u → v ≡ w)
    × ((v w : ℕ) (t u : Index) (b : Pointer) → Pushing (place_of m.workers v) t → Reads (place_of m.workers w) b u → position t ≡ position u → ⊥)

-- V11 reads only a value that was written for the claim that its worker has taken: it is that claim's item, and WRITE is set.
abbrev pub ReadsWritten : Definition → Machine → List Event → Type 0
ReadsWritten d m h =
    (w : ℕ) (b : Pointer) (t : Index) → Reads (place_of m.workers w) b t
    → (k : ℕ) × LatestIn (takers_of h) w k × ItemIn h k (value_at d.sizes m b t) × (has WRITE (state_at d.sizes m b t) ≡ true)

-- No act touches a free block.
abbrev pub NoneFree : Definition → Machine → Type 0
NoneFree d m = (w : ℕ) → uses_fit d.sizes m.blocks (view_of d.sizes (place_of m.workers w)).uses ≡ true

-- Empty and Closed are true at the load that decided them. (Push decides at its load of tail index; where a block is set aside, it answers later.)
abbrev pub AnswersTrue : Definition → Machine → Type 0
AnswersTrue d m =
    (w : ℕ) (next : Machine) (a : Answer) → Acts d m w next → place_of next.workers w ≡ Idle a → Truth m.ends a

-- A block is freed once for each taking: of every block there were as many takings as freeings, and one more exactly while it is taken.
abbrev pub FreedOnce : Definition → Machine → List Event → Type 0
FreedOnce d m h = (k : ℕ) → k < d.sizes.blocks → takings_of k h ≡ freeings_of d.sizes k h + cond (live d.sizes m.blocks k) 1 0

-- With all idle the taken blocks are those from head's to tail's: those that head's block leads to by next, of which tail's is the last.
abbrev pub TakenChained : Definition → Machine → Type 0
TakenChained d m =
    all_idle d.sizes m.workers ≡ true
    → ((k : ℕ) → k < d.sizes.blocks → live d.sizes m.blocks k ≡ chained d.sizes.blocks m.blocks m.ends.front k)
    × ((b : ℕ) → m.ends.back ≡ To b → (chained d.sizes.blocks m.blocks m.ends.front b ≡ true) × ((block_at m.blocks b).next ≡ None))

-- With all idle contents are, in order, the items of the claims not yet taken.
abbrev pub ContentsWait : Definition → Machine → List Event → Type 0
ContentsWait d m h = all_idle d.sizes m.workers ≡ true → contents_of d.sizes m ≡ waiting h

pub record Demand2 (d : Definition) (workers : ℕ) (m : Machine) (h : List Event) : Type 0 where
  pub team : m.count ≡ workers
  pub meter : m.meter ≡ length h
  -- No machine so reached is broken.
  pub unbroken : broken_of d.sizes m ≡ false
  pub claim_rule : ClaimRule h
  pub once_out : OnceOut h
  pub one_hand : OneHand m
  pub reads : ReadsWritten d m h
  pub none_free : NoneFree d m
  pub answers : AnswersTrue d m
  pub freed_once : FreedOnce d m h
  pub chained : TakenChained d m
  pub contents : ContentsWait d m h
  pub fifo : Fifo h (waiting h)

-- Every number of workers, every schedule.
abbrev pub UnderEverySchedule : Definition → Type 0
UnderEverySchedule d =
    (workers : ℕ) → Allowed workers → (s : List ℕ) → Demand2 d workers (machine_after d workers s) (acts_of d workers s)

-- Each act is the one action that the source takes there: of entries that are accepted, each is one turn of the definition, on the machine and on the
-- history; and a schedule of whole entries is run so.
abbrev pub ActByAct : Definition → Type 0
ActByAct d =
    (m : Machine) (s : List ℕ) (first second : ℕ) → length s % 2 ≡ 0 → (d.run m 0 s).refusal ≡ 0
    → (d.turn (d.run m 0 s).machine first second).refusal ≡ 0
    → ((d.run m 0 (s ++ first ∷ second ∷ [])).machine ≡ (d.turn (d.run m 0 s).machine first second).machine)
    × (d.history m (s ++ first ∷ second ∷ [])
    ≡ d.history m s ++ events_of (d.run m 0 s).machine (entry_of first second) (d.turn (d.run m 0 s).machine first second).machine)

abbrev pub WholeSchedules : Definition → Type 0
WholeSchedules d =
    (workers : ℕ) → Allowed workers → (s : List ℕ)
    → (length s % 2 ≡ 0 → Readable entry_here s → run_of d.sizes (fresh_of d.sizes workers) s ≡ d.run (fresh_of d.sizes workers) 0 s)
    × (length s % 2 ≡ 1 → (run_of d.sizes (fresh_of d.sizes workers) s).machine ≡ fresh_of d.sizes workers)

-- Refusal 23 is given exactly when a call needs a block and none is free: of an act that is not refused before. It leaves all unchanged (demand 1), so
-- the same act goes on once one is free.
abbrev pub NoBlock : Definition → Type 0
NoBlock d =
    (m : Machine) (w first second : ℕ) → broken_of d.sizes m ≡ false → Asking d m w first second
    → (((d.turn m first second).refusal ≡ 23) → ((view_of d.sizes (place_of m.workers w)).takes ≡ true) × (lowest_free d.sizes m.blocks ≡ d.sizes.blocks))
    × (((view_of d.sizes (place_of m.workers w)).takes ≡ true) → lowest_free d.sizes m.blocks ≡ d.sizes.blocks → (d.turn m first second).refusal ≡ 23)
    × (((view_of d.sizes (place_of m.workers w)).takes ≡ true) → lowest_free d.sizes m.blocks < d.sizes.blocks → (d.turn m first second).refusal ≡ 0)

-- ==== The pool. Of any machine, reached or not.

-- "None is free" and "the lowest number first": a search for a free block finds the one with the lowest number, and where none is free the number of none.
pub record LowestFirst (lowest : Sizes → List Block → ℕ) : Type 0 where
  pub most : (z : Sizes) (l : List Block) → lowest z l ≤ z.blocks
  pub free : (z : Sizes) (l : List Block) → lowest z l < z.blocks → (block_at l (lowest z l)).free ≡ true
  pub lower : (z : Sizes) (l : List Block) (k : ℕ) → k < lowest z l → (block_at l k).free ≡ false
  pub none : (z : Sizes) (l : List Block) → lowest z l ≡ z.blocks ↔ ((k : ℕ) → k < z.blocks → (block_at l k).free ≡ false)

-- The entry is an act of a counted worker of a machine that is not broken, in time; the act takes a block, and no block is free.
pub record WantsBlock (d : Definition) (m : Machine) (first second : ℕ) : Type 0 where
  pub unbroken : broken_of d.sizes m ≡ false
  pub worker : ℕ
  -- (code 9 is refused by 8: to take a block is no weak exchange)
  pub asks : entry_here first second ≡ Asks worker (Act false)
  pub known : worker < m.count
  pub in_time : m.meter < meter_most
  pub takes : (view_of d.sizes (place_of m.workers worker)).takes ≡ true
  pub none_free : (k : ℕ) → k < d.sizes.blocks → (block_at m.blocks k).free ≡ false

-- Refusal 23 is given by exactly these entries.
abbrev pub TwentyThree : Definition → Type 0
TwentyThree d = (m : Machine) (first second : ℕ) → (d.turn m first second).refusal ≡ 23 ↔ WantsBlock d m first second

-- ==== The pool under every schedule, beside demand 2.

-- Nobody sets a second block aside: no worker is ever at U15.
abbrev pub OneAside : Machine → Type 0
OneAside m = (w : ℕ) (n new : Pointer) (x : ℕ) → place_of m.workers w ≡ U15 n new x → ⊥

-- No slot of the pool is in two hands, whatever positions it stands for: blocks come round again.
abbrev pub OneHandInPool : Definition → Machine → Type 0
OneHandInPool d m =
    ((v w : ℕ) (b c : Pointer) (t u : Index) → PushingIn (place_of m.workers v) b t → PushingIn (place_of m.workers w) c u → OneSlot d.sizes b t c u → v ≡ w)
    × ((v w : ℕ) (b c : Pointer) (t u : Index) → PoppingIn (place_of m.workers v) b t → PoppingIn (place_of m.workers w) c u → OneSlot d.sizes b t c u → v ≡ w)
    × ((v w : ℕ) (b c : Pointer) (t u : Index) → PushingIn (place_of m.workers v) b t → Reads (place_of m.workers w) c u → OneSlot d.sizes b t c u → ⊥)

pub record PoolKept (d : Definition) (m : Machine) : Type 0 where
  pub one_aside : OneAside m
  pub one_hand : OneHandInPool d m

abbrev pub PoolUnderEverySchedule : Definition → Type 0
PoolUnderEverySchedule d = (workers : ℕ) → Allowed workers → (s : List ℕ) → PoolKept d (machine_after d workers s)

-- ==== Progress. (Demand 3 is not asked of this queue, and it does not have it: an act of one worker can wait for another.)

-- An act of a call under way is refused by 7 or 23 alone.
abbrev pub RefusedByMeterOrPool : Definition → Machine → Type 0
RefusedByMeterOrPool d m =
    (w : ℕ) → (view_of d.sizes (place_of m.workers w)).busy ≡ true
    → ((d.turn m (16 * w + 8) 0).refusal ≡ 0) ⊎ ((((d.turn m (16 * w + 8) 0).refusal ≡ 7) × (meter_most ≤ m.meter)) ⊎ ((d.turn m (16 * w + 8) 0).refusal ≡ 23))

-- Whoever waits, waits for a worker that is under way, and here is who that is.
pub record Holders (d : Definition) (m : Machine) : Type 0 where
  -- a push that finds tail at offset 31: for the push that claimed the slot before it
  pub tail : offset_of d.sizes m.ends.tail ≡ d.sizes.slots
      → (v : ℕ) × (t : Index) × Crossing (place_of m.workers v) t × (position t + 1 ≡ position m.ends.tail)
  -- a pop that finds head there: for the pop that claimed the slot before it
  pub head : offset_of d.sizes m.ends.head ≡ d.sizes.slots
      → (v : ℕ) × (h : Index) × Leaving (place_of m.workers v) h × (position h + 1 ≡ position m.ends.head)
  -- a pop that finds no block yet, although tail has moved: for the push that installed the first
  pub first : m.ends.front ≡ None → 0 < position m.ends.tail → (v : ℕ) × Fronting (place_of m.workers v)
  -- V6, next none: for the push of that slot
  pub next : (w : ℕ) (h new : Index) (b : Pointer) → place_of m.workers w ≡ V6 h b new → (block_at m.blocks (number_of d.sizes b)).next ≡ None
      → (v : ℕ) × (t : Index) × Tying (place_of m.workers v) b t × (position t ≡ position h)
  -- V10, WRITE clear: for the push of that slot
  pub write : (w : ℕ) (h : Index) (b : Pointer) → place_of m.workers w ≡ V10 h b → has WRITE (state_at d.sizes m b h) ≡ false
      → (v : ℕ) × (t : Index) × PushingIn (place_of m.workers v) b t × (position t ≡ position h)

pub record Progress (d : Definition) (m : Machine) : Type 0 where
  pub refused_by : RefusedByMeterOrPool d m
  pub holders : Holders d m

abbrev pub ProgressUnderEverySchedule : Definition → Type 0
ProgressUnderEverySchedule d = (workers : ℕ) → Allowed workers → (s : List ℕ) → Progress d (machine_after d workers s)

-- Among these entries, with so many acts of w accepted, w's push has answered Pushed.
pub record AnswersPushed (d : Definition) (m : Machine) (w : ℕ) (entries : List ℕ) (n : ℕ) : Type 0 where
  pub before : List ℕ
  pub after : List ℕ
  pub split : entries ≡ before ++ after
  pub count : own_acts d w m before ≡ n
  pub ends : place_of (passed d m before).workers w ≡ Idle Pushed

-- A push with a slot in hand answers Pushed within five acts of its own, whatever entries of others come between; of any machine, reached or not. (U14, where
-- a block is set aside, is one of the five: at U9 to U11 the block set aside goes into the chain.)
pub record PushEnds (d : Definition) : Type 0 where
  pub ends : (m : Machine) (w : ℕ) (t : Index) (entries : List ℕ) → Pushing (place_of m.workers w) t
      → push_left (place_of m.workers w) ≤ own_acts d w m entries → AnswersPushed d m w entries (push_left (place_of m.workers w))
  pub most : (p : Place) (t : Index) → Pushing p t → push_left p ≤ 5

-- Worker w's call, if only acts of w are scheduled (code 8), ends within so many of them, none refused.
pub record EndsAlone (d : Definition) (m : Machine) (w most : ℕ) : Type 0 where
  -- the acts before the last
  pub before : ℕ
  pub within : before + 1 ≤ most
  pub accepted : (d.run m 0 (acts w (suc before))).refusal ≡ 0
  pub busy : (view_of d.sizes (place_of (d.run m 0 (acts w before)).machine.workers w)).busy ≡ true
  pub idle : (view_of d.sizes (place_of (d.run m 0 (acts w (suc before))).machine.workers w)).busy ≡ false

-- A pop that alone is scheduled ends, with no holder among the others.
abbrev pub PopAlone : Definition → Machine → Type 0
PopAlone d m =
    (w : ℕ) → 0 < pop_most (place_of m.workers w) → m.meter + pop_most (place_of m.workers w) ≤ meter_most
    → ((v : ℕ) → (v ≡ w → ⊥) → Holding (place_of m.workers v) → ⊥) → EndsAlone d m w (pop_most (place_of m.workers w))

abbrev pub PopsEndAlone : Definition → Type 0
PopsEndAlone d = (workers : ℕ) → Allowed workers → (s : List ℕ) → PopAlone d (machine_after d workers s)

-- A push that alone is scheduled ends, with tail in nobody else's hand and a block free.
abbrev pub PushAlone : Definition → Machine → Type 0
PushAlone d m =
    (w : ℕ) → 0 < push_most (place_of m.workers w) → m.meter + push_most (place_of m.workers w) ≤ meter_most
    → ((v : ℕ) (t : Index) → (v ≡ w → ⊥) → Crossing (place_of m.workers v) t → ⊥)
    → ((k : ℕ) × (k < d.sizes.blocks) × ((block_at m.blocks k).free ≡ true)) → EndsAlone d m w (push_most (place_of m.workers w))

abbrev pub PushesEndAlone : Definition → Type 0
PushesEndAlone d = (workers : ℕ) → Allowed workers → (s : List ℕ) → PushAlone d (machine_after d workers s)

-- A len, is_empty, is_full, close or is_closed that alone is scheduled ends, whoever else is under way: it waits for nobody.
abbrev pub LookAlone : Definition → Machine → Type 0
LookAlone d m =
    (w : ℕ) → 0 < look_most (place_of m.workers w) → m.meter + look_most (place_of m.workers w) ≤ meter_most → EndsAlone d m w (look_most (place_of m.workers w))

abbrev pub LooksEndAlone : Definition → Type 0
LooksEndAlone d = (workers : ℕ) → Allowed workers → (s : List ℕ) → LookAlone d (machine_after d workers s)

-- The numbers of pushes and pops alone are attained: each schedule of the table leads to its place, alone, and the call there needs exactly its number of acts. By any table of what an act does at
-- each place, so that it can be said of one with a slip; it is met by the source's.
abbrev pub AttainedIn : Table → List Case → Type 0
AttainedIn table cases = map (seen_by table) cases ≡ map (λ (c : Case). exactly c.place c.number) cases

pub record AttainedBy (table : Table) : Type 0 where
  pub old_pops_lem : AttainedIn table old_pops
  pub crossing_pops_lem : AttainedIn table crossing_pops
  pub ending_pops_lem : AttainedIn table ending_pops
  pub beginning_pushes_lem : AttainedIn table beginning_pushes
  pub going_pushes_lem : AttainedIn table going_pushes
  pub ending_pushes_lem : AttainedIn table ending_pushes
