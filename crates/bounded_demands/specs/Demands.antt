-- The demands of document 01, all of them, in its words. The notions (history, claim, hand, stock ..) are defined in Notions.antt.
-- The proofs are gathered in crates/bounded_proof_all_demands/proofs/Headlines.antt; docs/PROMISES.md says in plain words what each says and
-- what not.
use Rattle.std.specs.Prelude.{ℕ, suc, ◌+◌, ◌*◌, ◌-◌, ◌%◌, ◌≤◌, ◌<◌, ◌/◌, Bool, true, false, not, ◌≡◌, ltb, length, take, drop, Result, Ok, Err}
use mathlib.Core.List.{List, [], ◌∷◌, ◌++◌, map, Memᴰ}
use Rattle.queue_entries.specs.Limits.{workers_most, meter_most, in_limits}
use Rattle.queue_numbers.specs.Numbers.{on, first_of}
use Rattle.bounded_words.specs.Limits.{slots_most, editions_most}
use Rattle.queue_entries.specs.declared.Call.{Call}
use Rattle.queue_entries.specs.declared.Call.TheVariants.{Close}
use Rattle.queue_entries.specs.Told.{told}
use Rattle.queue_entries.specs.declared.Order.{Order}
use Rattle.queue_entries.specs.declared.Order.TheVariants.{Act}
use Rattle.queue_entries.specs.declared.Entry.TheVariants.{Unreadable, Asks}
use Rattle.queue_entries.specs.Entries.{entry_of}
use Rattle.queue_schedules.specs.Reading.{Readable}
use Rattle.queue_plain.specs.Plain.{Queue, queue, answer_of}
use Rattle.queue_plain.specs.OneStep.{Step, Follows}
use Rattle.queue_plain.specs.Story.{Does, acts_in, fresh, came_from, went_from}
use Rattle.queue_plain.specs.Story.{items_of as items_begun}
use Rattle.bounded_words.specs.declared.Stamp.{Stamp}
use Rattle.bounded_words.specs.declared.Fixed.{Fixed}
use Rattle.bounded_words.specs.declared.Width.{Width}
use Rattle.bounded_words.specs.declared.Width.TheVariants.{Sixteen, SixtyFour}
use Rattle.bounded_words.specs.Limits.{wide}
use Rattle.bounded_words.specs.Words.{fixed_of, index_of, marked_of, unmarked_of, lap_behind}
use Rattle.bounded_places.specs.declared.Answer.{Answer}
use Rattle.bounded_places.specs.declared.Answer.TheVariants.{Yes, PopClosed}
use Rattle.bounded_places.specs.declared.Loss.{Loss}
use Rattle.bounded_places.specs.declared.Loss.TheVariants as loss
use Rattle.bounded_places.specs.declared.Loss.TheVariants.{ByWords, BySchedule}
use Rattle.bounded_places.specs.declared.Place.{Place}
use Rattle.bounded_places.specs.declared.Place.TheVariants.{Idle, F7, Empty2, Full2, Len3}
use Rattle.bounded_places.specs.declared.Worker.{Worker}
use Rattle.bounded_places.specs.declared.Moved.{Moved}
use Rattle.bounded_places.specs.declared.Moved.TheVariants.{Neither, Tail}
use Rattle.bounded_places.specs.declared.Stand.{Stand}
use Rattle.bounded_places.specs.Places as places
use Rattle.bounded_acts.specs.Acts as tables
use Rattle.bounded_machine.specs.declared.Machine.{Machine}
use Rattle.bounded_machine.specs.declared.Event.{Event}
use Rattle.bounded_machine.specs.declared.Tally.{Tally}
use Rattle.bounded_machine.specs.Machine.{fresh_of, record_of_worker, place_of, blank, fresh_with, idler, fixed_on, ends_on}
use Rattle.bounded_machine.specs.Broken.{broken_of, all_idle, broken_with}
use Rattle.bounded_machine.specs.Contents.{count_on, count_in, contents_of, contents_refusal, written, capacity_refusal, capacity_of}
use Rattle.bounded_machine.specs.Turn.{by_words, by_schedule}
use Rattle.bounded_machine.specs.Turn.{Table}
use Rattle.bounded_machine.specs.Run.{run_from, run_of_by, run_of}
use Rattle.bounded_machine.specs.History.{events_of, moved_of, reads_at, stock_of, untaken_of}
use Rattle.bounded_causes.specs.declared.Deed.{Deed}
use Rattle.bounded_causes.specs.declared.Causes.{Causes}
use Rattle.bounded_causes.specs.declared.Watches.{Watches}
use Rattle.bounded_causes.specs.declared.Named.{Named}
use Rattle.bounded_causes.specs.Causes as causes
use Rattle.bounded_causes.specs.Causes.{watch_of, named_of}
use Rattle.bounded_moments.specs.declared.Moments.{Moments}
use Rattle.bounded_moments.specs.declared.Moment.{Moment}
use Rattle.bounded_moments.specs.declared.Named.{Named as NamedMoment}
use Rattle.bounded_moments.specs.Moments as moments
use Rattle.bounded_sixteen_bits.specs.declared.Machine as widths
use Rattle.bounded_sixteen_bits.specs.declared.Ran as widths_ran
use Rattle.bounded_sixteen_bits.specs.SixteenBits.{widened, narrowed, Short}
use Rattle.bounded_narrow.specs.Narrow as narrow
use Rattle.bounded_stock.specs.Stock.{tallied_of}
use Rattle.queue_walks.specs.Walks.{depth_most}
use Rattle.queue_walks.specs.Listed.{bytes_of, walked as sized}
use Rattle.queue_walks.specs.Meaning.{Before, InOrder}
use Rattle.bounded_sequences.specs.Sequences.{walk_of}
use Rattle.queue_walks.specs.declared.Walked.{Walked}
use Rattle.bounded_walks.specs.Walks.{size_of}
use Rattle.bounded_demands.specs.Notions.{Tried, entries_of, Face, Definition, of_width, Allowed, machine_after, acts_of, Acts, acts, InHand, HandsOut, Reads, Truth, item_at, items_of, tailers_of, takers_of, LatestIn, ItemIn, WrittenIn, CallClaim, tally, tallied_by, reads_in, waiting, stock, unread_by, lesser, Exchanges, lost_in, struck, Fifo, Words, Plain, since, turn_length, window_length, widest_length, KeepsWindow, KeepsWindowOf, KeepsWidestWindow, KeepsPrompt, rounds, sleeping_push, sleeping_pop, value_at, queue_answer, LenAnswers, most_of, most_beside, OtherHand, OtherHandAt, slot_needed, lent_others, begins, unreadable, begin_grounds, act_grounds, entry_grounds, passed, own_acts, LetsGo, has, ClosesYes, NoClaims, ClaimsOn, with_records, AllowedWith, Asking, left_by_all, taken_by_all, Promises, fresh_in, pushing_in, stocked_in, sixty_four, at_the_end}
use Rattle.bounded_walks.specs.Walks.{size_refusal}
use Rattle.queue_numbers.specs.Answers.{BothWays, number_in, value_in}
use Rattle.bounded_demands.specs.Answers.{sized_number, sized_values, sized_of}
use Rattle.bounded.specs.Bounded.{make_of, step_of}
use Rattle.bounded_orders.specs.declared.Metered.{Metered}
use Rattle.bounded_orders.specs.Orders.{records_most, metered_of, Filled, filled, report}
use Rattle.bounded_lent.specs.Lent.{held, Lent, Gone, gone}
use Rattle.bounded_demands.specs.Stories.{Story, story_of, one_step, OnlySuch, unlooked, never_closes, between_claims, two_closes, known, queue_at, change_of, actor, reply_of, put_by, taken_by, given_back, At, moment_of, moment_named, moment_named_of, in_story}
use Rattle.bounded_demands.specs.Lending.{Lending, Promise, promised, holding, holds_did, holds_ran, steps, held_in, acts_lent, refusal_of, step_by_step, Doing, left_lent, all_taken_lent, step_on, run_on, fresh_lent, pushing_lent, stocked_lent, none_lent, spent_lent}
use Rattle.bounded_demands.specs.Foretold.{foretold, Telling, told_by, told_in, tellings, as_foretold}
use Rattle.bounded_demands.specs.Eight.{closed_f, case_f}
use Rattle.bounded_demands.specs.Attained.{Case, seen_by, seen_in, attained, exactly, seen_beside, attained_beside, exactly_beside}
use Rattle.bounded_demands.specs.Walkings.{WalkFace, item10, Walking, walkings, walked}
use Rattle.bounded_demands.specs.Shelves.{Shelf, shelving, stock_at_most, fullest}
use Rattle.bounded_demands.specs.Notions.{goes_back_at, WayBack, watches, causes_in, Caused, other_hand, deed, DoneSince, LatestBy, Tells, Alone, goings_back}
use Rattle.bounded_demands.specs.Retries.{Retry, retries, last_in, back_by, only_own}

-- ==== What an answer means: every run of the ring is a run of a plain queue (crates/queue_plain). The story of a schedule is its accepted entries, begins too; the plain queue along it,
-- and what each call has put in and taken out, are `known` of Stories.antt.

-- After the story `earlier` an act of its worker answers a. Inside the call that it is in, after its begin and not after this act, there is a moment at which the plain queue, asked that
-- call, gives that answer; `moment_of` names it.
pub record Answered (capacity edition : ℕ) (earlier : Story) (act : Event) (a : Answer) : Type 0 where
  pub call : Call
  pub its : ((known capacity edition earlier).each act.worker).calls ≡ call ∷ []
  pub moment : ℕ
  pub named : moment_of capacity edition act.worker (earlier ++ Does act ∷ []) ≡ At moment
  pub begun : ((known capacity edition earlier).each act.worker).begun < moment
  pub inside : moment ≤ length earlier
  pub plain : answer_of (queue_at capacity edition moment earlier) call ∷ [] ≡ reply_of a

-- A call that answered Pushed put its item in once and took none out; Displaced one of each; Popped took out the one that it hands out and put in none; any other answer neither. Full and
-- Closed give the item back that the call came with. After a close, whatever it answered, the queue is closed.
pub record Meant (capacity edition : ℕ) (earlier : Story) (act : Event) (a : Answer) : Type 0 where
  pub put : ((known capacity edition (earlier ++ Does act ∷ [])).each act.worker).puts ≡ put_by a (items_begun ((known capacity edition earlier).each act.worker).calls)
  pub took : ((known capacity edition (earlier ++ Does act ∷ [])).each act.worker).takes ≡ taken_by a
  pub back : (x : ℕ) → given_back a ≡ x ∷ [] → items_begun ((known capacity edition earlier).each act.worker).calls ≡ x ∷ []
  pub closed : ((known capacity edition earlier).each act.worker).calls ≡ Close ∷ [] → (known capacity edition (earlier ++ Does act ∷ [])).queue.closed ≡ true

-- The plain queue just before an act that changes it: something waits where the front goes out, there is room where an item comes in, and a push (which has no head claim behind it) finds it
-- open; a force_push that displaces finds it full; a close that answers yes finds it open.
pub record Changes (edition : ℕ) (q : Queue) (act : Event) : Type 0 where
  pub takes : (change_of edition act).takes ≡ true → 0 < length q.items
  pub puts : (change_of edition act).puts ≡ true → length q.items < q.capacity
  pub while_open : (change_of edition act).puts ≡ true → moved_of act.before ≡ Neither → q.closed ≡ false
  pub full : (t : Stamp) (x : ℕ) → act.after ≡ F7 t x → length q.items ≡ q.capacity
  pub closes : (change_of edition act).closes ≡ true → q.closed ≡ false

-- While a push or force_push is under way, the item in its record is the one of its begin.
abbrev pub ItemKept : ℕ → ℕ → Machine → Story → Type 0
ItemKept capacity edition m s = (w x : ℕ) → item_at (place_of m.workers w) ≡ x ∷ [] → items_begun ((known capacity edition s).each w).calls ≡ x ∷ []

pub record NothingLost (capacity edition : ℕ) (m : Machine) (s : Story) : Type 0 where
  -- what came in, in order, is what went out, in order, and then what waits
  pub in_order : came_from actor (change_of edition) (fresh capacity) s ≡ went_from actor (change_of edition) (fresh capacity) s ++ (known capacity edition s).queue.items
  -- with all workers idle these are the contents
  pub contents : all_idle m.workers ≡ true → contents_of m ≡ (known capacity edition s).queue.items
  -- what a call under way has taken out is one item at most, and then a slot is in its worker's hand (it lets go: demand 3); what a call has taken out that has ended, it handed out (`Meant`)
  pub hands : (w v : ℕ) (more : List ℕ) → (places.view_of (place_of m.workers w)).busy ≡ true → ((known capacity edition s).each w).takes ≡ v ∷ more
      → (more ≡ []) × (t : Stamp) × InHand (place_of m.workers w) t

-- A call that ended before another began comes before it in the plain queue's run.
abbrev pub InCallOrder : ℕ → ℕ → Story → Type 0
InCallOrder capacity edition s =
    (earlier between later : Story) (first second : Event) (a b : Answer) (i j : ℕ) → s ≡ earlier ++ Does first ∷ between ++ Does second ∷ later
    → first.after ≡ Idle a → second.after ≡ Idle b → length earlier < ((known capacity edition (earlier ++ Does first ∷ between)).each second.worker).begun
    → moment_of capacity edition first.worker (earlier ++ Does first ∷ []) ≡ At i → moment_of capacity edition second.worker (earlier ++ Does first ∷ between ++ Does second ∷ []) ≡ At j → i < j

pub record PlainThroughout (capacity edition : ℕ) (m : Machine) (h : List Event) (s : Story) : Type 0 where
  -- it is the story of the same acts
  pub acts : acts_in s ≡ h
  pub answers : (earlier later : Story) (act : Event) (a : Answer) → s ≡ earlier ++ Does act ∷ later → act.after ≡ Idle a → Answered capacity edition earlier act a × Meant capacity edition earlier act a
  pub changes : (earlier later : Story) (act : Event) → s ≡ earlier ++ Does act ∷ later → Changes edition (known capacity edition earlier).queue act
  pub item_kept : ItemKept capacity edition m s
  pub nothing_lost : NothingLost capacity edition m s
  pub call_order : InCallOrder capacity edition s

-- Every capacity, every number of workers, both editions, every schedule; and every schedule that keeps the window.
abbrev pub AnswersPlain : Definition → Type 0
AnswersPlain d =
    (capacity workers edition : ℕ) → AllowedWith d.records capacity workers edition → (s : List ℕ)
    → PlainThroughout capacity edition (machine_after d capacity workers edition s) (acts_of d capacity workers edition s) (story_of d capacity workers edition s)

abbrev pub AnswersPlainInWindow : Definition → Type 0
AnswersPlainInWindow d =
    (capacity workers edition : ℕ) → AllowedWith d.records capacity workers edition → (s : List ℕ) → KeepsWindow d (fresh_with d.records capacity workers edition) [] s
    → PlainThroughout capacity edition (machine_after d capacity workers edition s) (acts_of d capacity workers edition s) (story_of d capacity workers edition s)

-- ---- force_push as one step: linearizable in the classical sense

-- One run of the plain queue, every call one step: the steps taken just before each element of the story (at most one), and the queue there. Every call that answered took one step inside
-- it, with that answer; a step is of a call under way, and no call takes two.
pub record OneByOne (capacity edition : ℕ) (s : Story) : Type 0 where
  pub steps : ℕ → List Step
  pub queues : ℕ → Queue
  pub first : queues 0 ≡ queue [] false capacity
  pub follows : (i : ℕ) → i < length s → Follows (queues i) (steps i) (queues (suc i))
  pub single : (i : ℕ) → length (steps i) ≤ 1
  pub answered : (earlier later : Story) (act : Event) (a : Answer) → s ≡ earlier ++ Does act ∷ later → act.after ≡ Idle a
      → (i : ℕ) × (x : Step) × (steps i ≡ x ∷ []) × (((known capacity edition earlier).each act.worker).begun < i) × (i ≤ length earlier)
      × (x.worker ≡ act.worker) × (((known capacity edition earlier).each act.worker).calls ≡ x.call ∷ []) × (x.reply ∷ [] ≡ reply_of a)
  pub own : (i : ℕ) (x : Step) → steps i ≡ x ∷ []
      → (i < length s) × (((known capacity edition (take i s)).each x.worker).calls ≡ x.call ∷ []) × (((known capacity edition (take i s)).each x.worker).begun < i)
  pub once : (i j : ℕ) (x y : Step) → i < j → steps i ≡ x ∷ [] → steps j ≡ y ∷ [] → x.worker ≡ y.worker → i < ((known capacity edition (take j s)).each y.worker).begun

-- So it is in edition 2 with push, force_push, pop, close and is_closed, and in edition 1 with push, force_push and pop. (With len, is_empty or is_full it is not: `LooksNotOneStep`.)
abbrev pub OneStep : Definition → Type 0
OneStep d =
    (capacity workers edition : ℕ) → AllowedWith d.records capacity workers edition → (s : List ℕ) → OnlySuch (one_step edition) (story_of d capacity workers edition s)
    → OneByOne capacity edition (story_of d capacity workers edition s)

abbrev pub OneStepInWindow : Definition → Type 0
OneStepInWindow d =
    (capacity workers edition : ℕ) → AllowedWith d.records capacity workers edition → (s : List ℕ) → KeepsWindow d (fresh_with d.records capacity workers edition) [] s
    → OnlySuch (one_step edition) (story_of d capacity workers edition s) → OneByOne capacity edition (story_of d capacity workers edition s)

-- Of every schedule, len, is_empty and is_full left out of its story: they move nothing. In edition 1 no close and no is_closed is begun.
abbrev pub OthersOneByOne : Definition → ℕ → ℕ → ℕ → List ℕ → Type 0
OthersOneByOne d capacity workers edition s =
    (edition ≡ 1 → OnlySuch never_closes (story_of d capacity workers edition s)) → OneByOne capacity edition (unlooked (story_of d capacity workers edition s))

abbrev pub OneStepUnderEverySchedule : Definition → Type 0
OneStepUnderEverySchedule d =
    (capacity workers edition : ℕ) → AllowedWith d.records capacity workers edition → (s : List ℕ) → OthersOneByOne d capacity workers edition s

abbrev pub OneStepUnderEveryInWindow : Definition → Type 0
OneStepUnderEveryInWindow d =
    (capacity workers edition : ℕ) → AllowedWith d.records capacity workers edition → (s : List ℕ) → KeepsWindow d (fresh_with d.records capacity workers edition) [] s
    → OthersOneByOne d capacity workers edition s

-- With one of them in the story there is no such run, in either edition: between the two claims of a force_push len answers 0, is_empty yes and is_full no (case G).
pub record LooksNotOneStep (d : Definition) : Type 0 where
  pub len : (edition : ℕ) → OneByOne 1 edition (story_of d 1 2 edition (between_claims 3 3)) → ⊥
  pub is_empty : (edition : ℕ) → OneByOne 1 edition (story_of d 1 2 edition (between_claims 4 2)) → ⊥
  pub is_full : (edition : ℕ) → OneByOne 1 edition (story_of d 1 2 edition (between_claims 5 2)) → ⊥

-- In edition 1 close is not: two closes, one after the other, both answer yes.
abbrev pub ClosesNotOneStep : Definition → Type 0
ClosesNotOneStep d = OneByOne 1 1 (story_of d 1 2 1 two_closes) → ⊥

-- What is named at every act of the first so many workers, by what was kept along the story before it, is the moment of its call. Of less than 2^64 entries; the meter ends a run before. Of any way to
-- name it, so that slips can be said of it.
abbrev pub NamesMomentsOf : ℕ → (ℕ → Story → Event → Moment) → ℕ → ℕ → Story → Type 0
NamesMomentsOf many name capacity edition s =
    length s < wide → (earlier later : Story) (act : Event) → s ≡ earlier ++ Does act ∷ later → act.worker < many
    → in_story (name capacity earlier act) ≡ moment_of capacity edition act.worker (earlier ++ Does act ∷ [])

-- What the program names (`replay --moments`): of the first sixteen workers, what `name_moment` of crate bounded_moments answers.
abbrev pub NamesMomentsBy : (ℕ → Story → Event → Moment) → ℕ → ℕ → Story → Type 0
NamesMomentsBy = NamesMomentsOf workers_most

abbrev pub NamesMoments : ℕ → ℕ → Story → Type 0
NamesMoments = NamesMomentsBy moment_named

abbrev pub MomentsKept : Definition → Type 0
MomentsKept d =
    (capacity workers edition : ℕ) → AllowedWith d.records capacity workers edition → (s : List ℕ) → NamesMoments capacity edition (story_of d capacity workers edition s)

abbrev pub MomentsKeptInWindow : Definition → Type 0
MomentsKeptInWindow d =
    (capacity workers edition : ℕ) → AllowedWith d.records capacity workers edition → (s : List ℕ) → KeepsWindow d (fresh_with d.records capacity workers edition) [] s
    → NamesMoments capacity edition (story_of d capacity workers edition s)

-- By the same rule, kept for as many workers as are lent: at every act of every one of these.
abbrev pub MomentsKeptOf : ℕ → Definition → Type 0
MomentsKeptOf many d =
    (capacity workers edition : ℕ) → AllowedWith d.records capacity workers edition → (s : List ℕ)
    → NamesMomentsOf many (moment_named_of many) capacity edition (story_of d capacity workers edition s)

-- ==== 1. Any machine, entry or schedule handed in gets an answer or a numbered refusal; a refused step changes nothing.
-- That each gets an answer is what the functions of crates bounded and bounded_narrow promise: none has a `requires`, and each answer is equal to a
-- definition. What follows speaks of these definitions, face by face (`Face` of Notions.antt).

-- Demand 1: a refused step changes nothing, in the machine or in a lent buffer.
pub record RefusedUnchanged {M D R : Type 0} (f : Face M D R) : Type 0 where
  -- refusals 1, 2 and 18 return the blank machine
  pub make : (capacity workers edition : ℕ) → (f.refusal (f.make capacity workers edition) ≡ 0 → ⊥) → f.left (f.make capacity workers edition) ≡ f.blank
  pub step : (m : M) (first second : ℕ) → (f.refusal (f.step m first second) ≡ 0 → ⊥) → f.left (f.step m first second) ≡ m
  pub begin : (m : M) (first second : ℕ) → (f.refusal (f.begin m first second) ≡ 0 → ⊥) → f.left (f.begin m first second) ≡ m
  pub act : (m : M) (first second : ℕ) → (f.refusal (f.act m first second) ≡ 0 → ⊥) → f.left (f.act m first second) ≡ m
  -- a schedule that is refused at a place leaves what the entries before that place leave: they stand, and no more
  pub run : (m : M) (s : List ℕ) → (f.refusal_in (f.run m s) ≡ 0 → ⊥) → (f.refusal_in (f.run m s) ≡ 9 → ⊥)
      → f.left_in (f.run m s) ≡ f.left_in (f.run m (take (2 * f.place_in (f.run m s)) s))
  -- but one with an entry that can't be read leaves the machine as it was
  pub unread : (m : M) (s : List ℕ) → f.refusal_in (f.run m s) ≡ 9 → f.left_in (f.run m s) ≡ m
  pub contents : (m : M) (buffer : List ℕ) → (contents_refusal (f.wide m) (length buffer) ≡ 0 → ⊥) → written (f.wide m) buffer ≡ buffer

-- Demand 1: the refusals that each function can give; 0 is none.
pub record Numbered {M D R : Type 0} (f : Face M D R) : Type 0 where
  pub make : (capacity workers edition : ℕ) → has (0 ∷ 1 ∷ 2 ∷ 18 ∷ []) (f.refusal (f.make capacity workers edition)) ≡ true
  pub step : (m : M) (first second : ℕ) → has (0 ∷ 3 ∷ 4 ∷ 5 ∷ 6 ∷ 7 ∷ 8 ∷ 9 ∷ []) (f.refusal (f.step m first second)) ≡ true
  pub begin : (m : M) (first second : ℕ) → has (0 ∷ 3 ∷ 4 ∷ 6 ∷ 9 ∷ []) (f.refusal (f.begin m first second)) ≡ true
  pub act : (m : M) (first second : ℕ) → has (0 ∷ 3 ∷ 5 ∷ 6 ∷ 7 ∷ 8 ∷ 9 ∷ []) (f.refusal (f.act m first second)) ≡ true
  pub run : (m : M) (s : List ℕ) → has (0 ∷ 3 ∷ 4 ∷ 5 ∷ 6 ∷ 7 ∷ 8 ∷ 9 ∷ 11 ∷ []) (f.refusal_in (f.run m s)) ≡ true
  pub contents : (m : M) (room : ℕ) → has (0 ∷ 4 ∷ 6 ∷ 10 ∷ []) (contents_refusal (f.wide m) room) ≡ true
  pub capacity : (m : M) → has (0 ∷ 6 ∷ []) (capacity_refusal (f.wide m)) ≡ true

-- Each number is given exactly when its ground holds and none before it, in document 01's order, of any machine and anything handed in. (Of a schedule's 9 and of its entries: `ListFirst`.)
pub record RefusedExactly {M D R : Type 0} (f : Face M D R) : Type 0 where
  pub make : (capacity workers edition : ℕ) → f.refusal (f.make capacity workers edition)
      ≡ first_of (on 1 (not (in_limits capacity slots_most)) ∷ on 2 (not (in_limits workers workers_most)) ∷ on 18 (not (in_limits edition editions_most)) ∷ [])
  pub step : (m : M) (first second : ℕ) → f.refusal (f.step m first second) ≡ first_of (on 6 (broken_of (f.wide m)) ∷ entry_grounds (f.wide m) first second)
  pub begin : (m : M) (first second : ℕ) → f.refusal (f.begin m first second)
      ≡ first_of (on 6 (broken_of (f.wide m)) ∷ on 9 (not (begins first)) ∷ on 9 (unreadable first second) ∷ begin_grounds (f.wide m) first)
  pub act : (m : M) (first second : ℕ) → f.refusal (f.act m first second)
      ≡ first_of (on 6 (broken_of (f.wide m)) ∷ on 9 (begins first) ∷ on 9 (unreadable first second) ∷ act_grounds (f.wide m) first)
  pub run : (m : M) (s : List ℕ) → (broken_of (f.wide m) ≡ true → f.run m s ≡ f.ran 6 0 m) × (broken_of (f.wide m) ≡ false → length s % 2 ≡ 1 → f.run m s ≡ f.ran 11 0 m)
  pub contents : (m : M) (room : ℕ) → contents_refusal (f.wide m) room
      ≡ first_of (on 6 (broken_of (f.wide m)) ∷ on 4 (not (all_idle (f.wide m).workers)) ∷ on 10 (ltb room (count_in (f.wide m))) ∷ [])
  pub capacity : (m : M) → capacity_refusal (f.wide m) ≡ first_of (on 6 (broken_of (f.wide m)) ∷ [])

-- "Code 9 where the words differ anyway does what code 8 does": the same refusal, and the same machine after it.
abbrev pub NineAsEight : Definition → Type 0
NineAsEight d =
    (m : Machine) (w : ℕ) (found expected : Stamp) → Exchanges d.width (fixed_on m.ring) (ends_on m.ring) (place_of m.workers w) found expected → (found ≡ expected → ⊥)
    → d.turn m (16 * w + 9) 0 ≡ d.turn m (16 * w + 8) 0

-- The list is checked first (document 02, item 7): of a machine that is not broken and a schedule of whole entries.
pub record ListFirst {M D R : Type 0} (f : Face M D R) : Type 0 where
  -- the first entry that can't be read is reported, and nothing is run; k entries stand before it, and each of them can be read
  pub stops : (m : M) (before : List ℕ) (k first second : ℕ) (rest : List ℕ) → broken_of (f.wide m) ≡ false → length (before ++ first ∷ second ∷ rest) % 2 ≡ 0
      → length before ≡ 2 * k → Readable entry_of before → entry_of first second ≡ Unreadable → f.run m (before ++ first ∷ second ∷ rest) ≡ f.ran 9 k m
  -- a schedule that can be read is run, entry by entry
  pub runs : (m : M) (s : List ℕ) → broken_of (f.wide m) ≡ false → length s % 2 ≡ 0 → Readable entry_of s → f.run m s ≡ f.entries m s

-- No entry and no schedule breaks an unbroken machine, reached or not: so refusal 6 is tested once a schedule.
pub record StaysUnbroken {M D R : Type 0} (f : Face M D R) : Type 0 where
  pub step : (m : M) (first second : ℕ) → broken_of (f.wide m) ≡ false → broken_of (f.wide (f.left (f.step m first second))) ≡ false
  pub run : (m : M) (s : List ℕ) → broken_of (f.wide m) ≡ false → broken_of (f.wide (f.left_in (f.run m s))) ≡ false
  -- and a made machine is unbroken
  pub made : (capacity workers edition : ℕ) → f.refusal (f.make capacity workers edition) ≡ 0 → broken_of (f.wide (f.left (f.make capacity workers edition))) ≡ false

-- Only one answer meets a promise: of the whole answer, the machine and the lent buffer.
pub record OnlyOne {M D R : Type 0} (f : Face M D R) : Type 0 where
  pub make : (capacity workers edition : ℕ) (x y : D) → x ≡ f.make capacity workers edition → y ≡ f.make capacity workers edition → x ≡ y
  pub step : (m : M) (first second : ℕ) (x y : D) → x ≡ f.step m first second → y ≡ f.step m first second → x ≡ y
  pub begin : (m : M) (first second : ℕ) (x y : D) → x ≡ f.begin m first second → y ≡ f.begin m first second → x ≡ y
  pub act : (m : M) (first second : ℕ) (x y : D) → x ≡ f.act m first second → y ≡ f.act m first second → x ≡ y
  pub run : (m : M) (s : List ℕ) (x y : R) → x ≡ f.run m s → y ≡ f.run m s → x ≡ y
  pub contents : (m : M) (before : List ℕ) (x y : Result ℕ ℕ) (a b : List ℕ)
      → (x ≡ told (contents_refusal (f.wide m) (length before)) (count_in (f.wide m))) × (a ≡ written (f.wide m) before)
      → (y ≡ told (contents_refusal (f.wide m) (length before)) (count_in (f.wide m))) × (b ≡ written (f.wide m) before) → (x ≡ y) × (a ≡ b)
  pub capacity : (m : M) (x y : Result ℕ ℕ) → x ≡ capacity_of (f.wide m) → y ≡ capacity_of (f.wide m) → x ≡ y
  pub broken : (m : M) (x y : Bool) → x ≡ broken_of (f.wide m) → y ≡ broken_of (f.wide m) → x ≡ y

-- And of what is counted along a run for reports (crates bounded_stock, bounded_causes and bounded_moments).
pub record OnlyOneCount : Type 0 where
  pub moved : (p : Place) (x y : Moved) → x ≡ moved_of p → y ≡ moved_of p → x ≡ y
  pub reads : (p : Place) (x y : Bool) → x ≡ reads_at p → y ≡ reads_at p → x ≡ y
  pub tally : (t : Tally) (p q : Place) (x y : Tally) → x ≡ tallied_of t p q → y ≡ tallied_of t p q → x ≡ y
  pub stock : (t : Tally) (x y : ℕ) → x ≡ stock_of t → y ≡ stock_of t → x ≡ y
  pub kept : (x y : Watches) → x ≡ causes.start → y ≡ causes.start → x ≡ y
  pub named : (ws : Watches) (w : ℕ) (p q : Place) (l : Loss) (x y : Named) → x ≡ named_of ws w p q l → y ≡ named_of ws w p q l → x ≡ y
  pub stands : (p : Place) (x y : Stand) → x ≡ causes.stand_of p → y ≡ causes.stand_of p → x ≡ y
  pub goes_back : (s t : Stand) (x y : Bool) → x ≡ causes.goes_back_of s t → y ≡ causes.goes_back_of s t → x ≡ y
  pub at_tail : (m : Moved) (x y : Bool) → x ≡ causes.claims_tail m → y ≡ causes.claims_tail m → x ≡ y
  pub at_head : (m : Moved) (x y : Bool) → x ≡ causes.claims_head m → y ≡ causes.claims_head m → x ≡ y
  pub moments_kept : (capacity : ℕ) (x y : Moments) → x ≡ moments.start capacity → y ≡ moments.start capacity → x ≡ y
  pub moments_begun : (ms : Moments) (x y : Moments) → x ≡ moments.begun_of ms → y ≡ moments.begun_of ms → x ≡ y
  pub moment_named_lem : (ms : Moments) (w : ℕ) (p q : Place) (x y : NamedMoment) → x ≡ moments.named_of ms w p q → y ≡ moments.named_of ms w p q → x ≡ y

-- The same of any promises, so that it can be said of one with a slip.
pub record OnlyOneMeets {M D R : Type 0} (p : Promises M D R) : Type 0 where
  pub make : (capacity workers edition : ℕ) (x y : D) → p.make capacity workers edition x → p.make capacity workers edition y → x ≡ y
  pub step : (m : M) (first second : ℕ) (x y : D) → p.step m first second x → p.step m first second y → x ≡ y
  pub begin : (m : M) (first second : ℕ) (x y : D) → p.begin m first second x → p.begin m first second y → x ≡ y
  pub act : (m : M) (first second : ℕ) (x y : D) → p.act m first second x → p.act m first second y → x ≡ y
  pub run : (m : M) (s : List ℕ) (x y : R) → p.run m s x → p.run m s y → x ≡ y
  pub contents : (m : M) (before : List ℕ) (x y : Result ℕ ℕ) (a b : List ℕ) → p.contents m before x a → p.contents m before y b → (x ≡ y) × (a ≡ b)
  pub capacity : (m : M) (x y : Result ℕ ℕ) → p.capacity m x → p.capacity m y → x ≡ y
  pub broken : (m : M) (x y : Bool) → p.broken m x → p.broken m y → x ≡ y

-- Each number of `Numbered` is given, by the machines named here; `spent` has a push begun and its meter at the end.
pub record EachNumber {M D R : Type 0} (f : Face M D R) (spent : M) : Type 0 where
  pub make : map f.refusal (f.make 1 1 1 ∷ f.make 0 1 1 ∷ f.make 1 0 1 ∷ f.make 1 1 0 ∷ []) ≡ 0 ∷ 1 ∷ 2 ∷ 18 ∷ []
  pub step :
      map f.refusal
      (f.step (fresh_in f) 0 5 ∷ f.step (fresh_in f) 16 5 ∷ f.step (pushing_in f) 0 5 ∷ f.step (fresh_in f) 8 0 ∷ f.step f.blank 0 5 ∷ f.step spent 8 0 ∷ f.step (pushing_in f) 9 0
      ∷ f.step (fresh_in f) 10 0 ∷ [])
      ≡ 0 ∷ 3 ∷ 4 ∷ 5 ∷ 6 ∷ 7 ∷ 8 ∷ 9 ∷ []
  pub begin : map f.refusal (f.begin (fresh_in f) 0 5 ∷ f.begin (fresh_in f) 16 5 ∷ f.begin (pushing_in f) 0 5 ∷ f.begin f.blank 0 5 ∷ f.begin (fresh_in f) 8 0 ∷ []) ≡ 0 ∷ 3 ∷ 4 ∷ 6 ∷ 9 ∷ []
  pub act :
      map f.refusal
      (f.act (pushing_in f) 8 0 ∷ f.act (pushing_in f) 24 0 ∷ f.act (fresh_in f) 8 0 ∷ f.act f.blank 8 0 ∷ f.act spent 8 0 ∷ f.act (pushing_in f) 9 0 ∷ f.act (fresh_in f) 0 5 ∷ [])
      ≡ 0 ∷ 3 ∷ 5 ∷ 6 ∷ 7 ∷ 8 ∷ 9 ∷ []
  pub run :
      map f.refusal_in
      (f.run (fresh_in f) [] ∷ f.run (fresh_in f) (16 ∷ 5 ∷ []) ∷ f.run (pushing_in f) (0 ∷ 5 ∷ []) ∷ f.run (fresh_in f) (8 ∷ 0 ∷ []) ∷ f.run f.blank [] ∷ f.run spent (8 ∷ 0 ∷ [])
      ∷ f.run (pushing_in f) (9 ∷ 0 ∷ []) ∷ f.run (fresh_in f) (10 ∷ 0 ∷ []) ∷ f.run (fresh_in f) (0 ∷ []) ∷ [])
      ≡ 0 ∷ 3 ∷ 4 ∷ 5 ∷ 6 ∷ 7 ∷ 8 ∷ 9 ∷ 11 ∷ []
  pub contents : map (λ (m : M). contents_refusal (f.wide m) 0) (fresh_in f ∷ pushing_in f ∷ f.blank ∷ stocked_in f ∷ []) ≡ 0 ∷ 4 ∷ 6 ∷ 10 ∷ []
  pub capacity : map (λ (m : M). capacity_refusal (f.wide m)) (fresh_in f ∷ f.blank ∷ []) ≡ 0 ∷ 6 ∷ []

-- "Where an answer is an enum, a definition gives this paper's number and values for each of the enum's cases": there and back, inverse to each other, of what `capacity`, `contents` and `walk` answer
-- and of what `size` does; and the promises use it.
pub record EnumsBothWays : Type 0 where
  pub numbers : BothWays Err number_in value_in told
  pub sizes : BothWays Err sized_number sized_values sized_of
  pub size : (m : Machine) (depth : ℕ) → size_of m depth ≡ sized_of (size_refusal m depth) (length (walk_of depth m), length (bytes_of (walk_of depth m)))

-- Demand 1 of a face.
pub record Demand1 {M D R : Type 0} (f : Face M D R) : Type 0 where
  pub refused_unchanged : RefusedUnchanged f
  pub numbered : Numbered f
  pub list_first : ListFirst f
  pub stays_unbroken : StaysUnbroken f
  pub only_one : OnlyOne f

-- ==== 2. Under every schedule from a fresh machine. Said of the machine m that entries reach, and of the acts h behind it.

-- The claim rule: a value handed out is the item of the tail claim that has the number of the call's head claim.
abbrev pub ClaimRule : List Event → Type 0
ClaimRule h =
    (earlier later : List Event) (act : Event) (v : ℕ) → h ≡ earlier ++ act ∷ later → HandsOut act.after v
    → (k : ℕ) × CallClaim earlier act.worker k × LatestIn (takers_of earlier) act.worker k × ItemIn earlier k v

-- No two of these answers share that number.
abbrev pub OnceOut : List Event → Type 0
OnceOut h =
    (earlier between later : List Event) (act again : Event) (v u k : ℕ) → h ≡ earlier ++ act ∷ between ++ again ∷ later
    → HandsOut act.after v → HandsOut again.after u
    → LatestIn (takers_of earlier) act.worker k → LatestIn (takers_of (earlier ++ act ∷ between)) again.worker k → ⊥

-- No slot is in two hands at any moment.
abbrev pub OneHand : Machine → Type 0
OneHand m =
    (v w : ℕ) (t u : Stamp) → InHand (place_of m.workers v) t → InHand (place_of m.workers w) u
    → index_of (fixed_on m.ring) t ≡ index_of (fixed_on m.ring) u → v ≡ w

-- O4 and F8 read only a value that was written for that claim.
abbrev pub ReadsWritten : Machine → List Event → Type 0
ReadsWritten m h =
    (w : ℕ) (t : Stamp) → Reads (place_of m.workers w) t
    → (k : ℕ) × LatestIn (takers_of h) w k × ItemIn h k (value_at m t) × WrittenIn h k (value_at m t)

-- Empty, Full and Closed are true of the words at the load or exchange that decided them.
abbrev pub AnswersTrue : Definition → Machine → Type 0
AnswersTrue d m =
    (w : ℕ) (next : Machine) (a : Answer) → Acts d m w next → place_of next.workers w ≡ Idle a
    → Truth d.width (fixed_on m.ring) (ends_on m.ring) a

-- The claims not yet taken are `len`'s count of the words at every moment. With all workers idle the contents are, in order, their items.
abbrev pub UntakenCounts : Machine → List Event → Type 0
UntakenCounts m h = untaken_of (tally h) ≡ count_in m

abbrev pub ContentsWait : Machine → List Event → Type 0
ContentsWait m h = all_idle m.workers ≡ true → contents_of m ≡ waiting h

-- Beside the demand: every run is one of a plain queue, and a yes of is_empty and of is_full is true at its last load.
abbrev pub PlainQueue : List Event → Type 0
PlainQueue h = Fifo h (waiting h)

abbrev pub EmptyTrue : Definition → Machine → Type 0
EmptyTrue d m =
    (w : ℕ) (next : Machine) (t : Stamp) → place_of m.workers w ≡ Empty2 t → Acts d m w next → place_of next.workers w ≡ Idle Yes
    → unmarked_of (fixed_on m.ring) m.ring.tail ≡ m.ring.head

abbrev pub FullTrue : Definition → Machine → Type 0
FullTrue d m =
    (w : ℕ) (next : Machine) (t : Stamp) → place_of m.workers w ≡ Full2 t → Acts d m w next → place_of next.workers w ≡ Idle Yes
    → lap_behind d.width (fixed_on m.ring) m.ring.head (unmarked_of (fixed_on m.ring) m.ring.tail) ≡ true

pub record Demand2 (d : Definition) (capacity workers edition : ℕ) (m : Machine) (h : List Event) : Type 0 where
  -- It is the machine that was made, and its meter counts the acts.
  pub made : fixed_on m.ring ≡ fixed_of capacity edition
  pub team : m.count ≡ workers
  pub records : length m.workers ≡ d.records
  pub meter : m.meter ≡ length h
  -- No machine so reached is broken, and its words are those of claims.
  pub unbroken : broken_with d.records m ≡ false
  pub words : Words d.width m h
  -- The lists of claims are as long as the tally says.
  pub tails : length (items_of h) ≡ (tally h).tail.0
  pub heads : length (takers_of h) ≡ (tally h).head.0
  pub claim_rule : ClaimRule h
  pub once_out : OnceOut h
  pub one_hand : OneHand m
  pub reads : ReadsWritten m h
  pub answers : AnswersTrue d m
  pub untaken : UntakenCounts m h
  pub contents : ContentsWait m h
  pub fifo : PlainQueue h
  pub empty : EmptyTrue d m
  pub full : FullTrue d m

-- Every capacity, every number of workers, both editions, every schedule.
abbrev pub UnderEverySchedule : Definition → Type 0
UnderEverySchedule d =
    (capacity workers edition : ℕ) → AllowedWith d.records capacity workers edition → (s : List ℕ)
    → Demand2 d capacity workers edition (machine_after d capacity workers edition s) (acts_of d capacity workers edition s)

-- "The meter rises by one with each accepted act, so from a fresh machine no stamp wraps": of 64 bits.
abbrev pub NothingWraps : Definition → Type 0
NothingWraps d =
    (capacity workers edition : ℕ) → AllowedWith d.records capacity workers edition → (s : List ℕ)
    → Plain (machine_after d capacity workers edition s) (acts_of d capacity workers edition s)

-- Each act is the one action that document 01 reads out of the source: of entries that are accepted, each is one turn of the
-- definition, on the machine and on the history; and a schedule of whole entries is run so.
abbrev pub ActByAct : Definition → Type 0
ActByAct d =
    (m : Machine) (s : List ℕ) (first second : ℕ) → length s % 2 ≡ 0 → (d.run m 0 s).refusal ≡ 0
    → (d.turn (d.run m 0 s).machine first second).refusal ≡ 0
    → ((d.run m 0 (s ++ first ∷ second ∷ [])).machine ≡ (d.turn (d.run m 0 s).machine first second).machine)
    × (d.history m (s ++ first ∷ second ∷ [])
    ≡ d.history m s ++ events_of d.width (d.run m 0 s).machine (entry_of first second) (d.turn (d.run m 0 s).machine first second).machine)

abbrev pub WholeSchedules : Definition → Type 0
WholeSchedules d =
    (capacity workers edition : ℕ) → Allowed capacity workers edition → (s : List ℕ)
    → (length s % 2 ≡ 0 → Readable entry_of s → run_of_by (tables.act_of d.width) (fresh_of capacity workers edition) s ≡ d.run (fresh_of capacity workers edition) 0 s)
    × (length s % 2 ≡ 1 → (run_of_by (tables.act_of d.width) (fresh_of capacity workers edition) s).machine ≡ fresh_of capacity workers edition)

-- Beside the demand: `len`'s count is true at its head load.
abbrev pub LenTrue : Definition → Type 0
LenTrue d =
    (capacity workers edition : ℕ) → AllowedWith d.records capacity workers edition → (s : List ℕ) (w n : ℕ) → LenAnswers d capacity workers edition s w n
    → n ≡ untaken_of (tally (acts_of d capacity workers edition s))

-- ==== 3. Nobody waits without a holder. Said of the same machines and acts.

-- Worker w's call, if only acts of w are scheduled (code 8), ends within so many of them, none refused; its answer is the one that the
-- words foretell (Foretold.antt), is true of the words at the act that decided it and keeps the claim rule, and that of a call only begun is a
-- plain queue's.
pub record EndsAlone (d : Definition) (m : Machine) (h : List Event) (w most : ℕ) : Type 0 where
  -- the acts before the last
  pub before : ℕ
  pub within : before + 1 ≤ most
  pub accepted : (d.run m 0 (acts w (suc before))).refusal ≡ 0
  pub busy : (places.view_of (place_of (d.run m 0 (acts w before)).machine.workers w)).busy ≡ true
  pub answer : Answer
  pub ends : place_of (d.run m 0 (acts w (suc before))).machine.workers w ≡ Idle answer
  pub foretold_answer : answer ≡ foretold d.width m w
  pub true_then : Truth d.width (fixed_on m.ring) (ends_on (d.run m 0 (acts w before)).machine.ring) answer
  -- a value handed out is the item of the tail claim that has the number of the call's head claim
  pub claim_rule : (v : ℕ) → HandsOut (Idle answer) v
      → (k : ℕ) × CallClaim (h ++ d.history m (acts w before)) w k × ItemIn (h ++ d.history m (acts w before)) k v
  pub queue : (c : Call) → place_of m.workers w ≡ places.begin_of c
      → answer ≡ queue_answer c (marked_of (fixed_on m.ring) m.ring.tail) m.ring.capacity (waiting h)

-- Nothing but the meter refuses an act of a call under way.
abbrev pub NeverRefused : Definition → Machine → Type 0
NeverRefused d m =
    (w : ℕ) → (places.view_of (place_of m.workers w)).busy ≡ true → m.meter < meter_most → (d.turn m (16 * w + 8) 0).refusal ≡ 0

-- With seven acts left on the meter and no other worker's hand on a slot a call that alone is scheduled ends.
abbrev pub AloneEnds : Definition → Machine → List Event → Type 0
AloneEnds d m h =
    (w : ℕ) → (places.view_of (place_of m.workers w)).busy ≡ true → m.meter + 7 ≤ meter_most → (OtherHand m w → ⊥)
    → EndsAlone d m h w (most_of (place_of m.workers w))

-- One that is still under way after those acts has another worker's hand on a slot.
abbrev pub InTheWay : Definition → Machine → Type 0
InTheWay d m =
    (w : ℕ) → m.meter + 7 ≤ meter_most
    → (places.view_of (place_of (d.run m 0 (acts w (most_of (place_of m.workers w)))).machine.workers w)).busy ≡ true → OtherHand m w

-- Whatever entries come between, a worker with a slot in hand lets go with its next acts.
abbrev pub HandLetsGo : Definition → Machine → Type 0
HandLetsGo d m =
    (w : ℕ) (t : Stamp) (entries : List ℕ) → InHand (place_of m.workers w) t
    → most_of (place_of m.workers w) ≤ own_acts d w m entries → LetsGo d m w entries (most_of (place_of m.workers w))

-- (Entries that are all accepted are passed as a schedule runs them.)
abbrev pub PassedAsRun : Definition → Machine → Type 0
PassedAsRun d m = (entries : List ℕ) → (d.run m 0 entries).refusal ≡ 0 → passed d m entries ≡ (d.run m 0 entries).machine

pub record Demand3 (d : Definition) (m : Machine) (h : List Event) : Type 0 where
  pub accepted : NeverRefused d m
  pub alone : AloneEnds d m h
  pub in_the_way : InTheWay d m
  pub lets_go : HandLetsGo d m
  pub as_run : PassedAsRun d m

-- Whom a call waits for: the call of worker w needs a slot, and another worker has that slot in hand.
pub record WaitsFor (m : Machine) (w : ℕ) : Type 0 where
  pub slot : ℕ
  pub needed : slot_needed (fixed_on m.ring) (ends_on m.ring) (place_of m.workers w) ≡ slot ∷ []
  pub hand : OtherHandAt m w slot

-- A call that alone is scheduled, with eight acts left on the meter, has ended after so many acts; or another worker has in hand the very slot that the present word of the call's own end
-- points to, and then it is a push, a force_push or a pop. So len, is_empty, is_full, close and is_closed wait for nobody, and nobody waits for a slot that it does not need.
abbrev pub WaitsAt : Definition → Machine → Type 0
WaitsAt d m =
    (w : ℕ) → m.meter + 8 ≤ meter_most
    → (places.view_of (place_of (d.run m 0 (acts w (most_beside (place_of m.workers w)))).machine.workers w)).busy ≡ true → WaitsFor m w

-- Of every machine that a schedule reaches; at any width, one that keeps the widest window.
abbrev pub WaitsForItsSlot : Definition → Type 0
WaitsForItsSlot d =
    (capacity workers edition : ℕ) → AllowedWith d.records capacity workers edition → (s : List ℕ) → WaitsAt d (machine_after d capacity workers edition s)

abbrev pub WaitsForItsSlotInWindow : Definition → Type 0
WaitsForItsSlotInWindow d =
    (capacity workers edition : ℕ) → AllowedWith d.records capacity workers edition → (s : List ℕ) → KeepsWidestWindow d (fresh_with d.records capacity workers edition) [] s
    → WaitsAt d (machine_after d capacity workers edition s)

abbrev pub ScheduledAlone : Definition → Type 0
ScheduledAlone d =
    (capacity workers edition : ℕ) → AllowedWith d.records capacity workers edition → (s : List ℕ)
    → Demand3 d (machine_after d capacity workers edition s) (acts_of d capacity workers edition s)

-- The numbers are attained: each schedule of the table leads to its place, alone, and the call there needs exactly its number of acts.
abbrev pub Attained : Type 0
Attained = map seen_in attained ≡ map (λ (c : Case). exactly c.place c.number) attained

-- The same by any table of what an act does at each place, in any edition, so that it can be said of both widths and of a table with a slip.
abbrev pub AttainedBy : Table → ℕ → Type 0
AttainedBy table edition = map (seen_by table edition) attained ≡ map (λ (c : Case). exactly c.place c.number) attained

-- Beside another's hand push's seven and force_push's eight are attained; the other numbers of `most_beside` are those of `Attained`.
abbrev pub AttainedBeside : Table → ℕ → Type 0
AttainedBeside table edition = map (seen_beside table edition) attained_beside ≡ map (λ (c : Case). exactly_beside c.place c.number) attained_beside

-- In words: seven acts at most, and three with a slot in hand. It is met by `most_of`.
abbrev pub AtMost : (Place → ℕ) → Type 0
AtMost most = (p : Place) → (most p ≤ 7) × ((t : Stamp) → InHand p t → most p ≤ 3)

-- Each schedule of the table leads to the answer that is foretold there.
abbrev pub AsForetold : Type 0
AsForetold = map told_in tellings ≡ map (λ (r : Telling). as_foretold r.answer) tellings

-- The same of words of any width, by any table, in any edition.
abbrev pub AsForetoldBy : Width → Table → ℕ → Type 0
AsForetoldBy bits table edition = map (told_by bits table edition) tellings ≡ map (λ (r : Telling). as_foretold r.answer) tellings

-- ==== Stock (document 02, item 4). Said of the same machines and acts, and of any way to count stock from a history, so that crate bounded_slips can
-- say it of wrong ones; it is met by `stock`.

-- Stock rises by one at each tail claim,
abbrev pub StockRises : (List Event → ℕ) → List Event → Type 0
StockRises count h =
    (earlier later : List Event) (act : Event) → h ≡ earlier ++ act ∷ later → moved_of act.after ≡ Tail
    → count (earlier ++ act ∷ []) ≡ count earlier + 1

-- falls by one at each read,
abbrev pub StockFalls : (List Event → ℕ) → List Event → Type 0
StockFalls count h =
    (earlier later : List Event) (act : Event) (t : Stamp) → h ≡ earlier ++ act ∷ later → Reads act.before t
    → count earlier ≡ count (earlier ++ act ∷ []) + 1

-- and changes at no other act.
abbrev pub StockStays : (List Event → ℕ) → List Event → Type 0
StockStays count h =
    (earlier later : List Event) (act : Event) → h ≡ earlier ++ act ∷ later → (moved_of act.after ≡ Tail → ⊥) → ((t : Stamp) → Reads act.before t → ⊥)
    → count (earlier ++ act ∷ []) ≡ count earlier

-- It is the old difference plus the workers standing at O4, F7 or F8.
abbrev pub StockByHands : (List Event → ℕ) → Machine → List Event → Type 0
StockByHands count m h = count h ≡ untaken_of (tally h) + unread_by m.workers

-- With all workers idle it is the number of contents, and both rules agree.
abbrev pub StockIsNumber : (List Event → ℕ) → Machine → List Event → Type 0
StockIsNumber count m h = all_idle m.workers ≡ true → (count h ≡ length (contents_of m)) × (count h ≡ untaken_of (tally h))

-- It is never above capacity plus the number of workers, and no more of them count than there are slots. Every ring reaches it: `StockAttained`.
abbrev pub StockMost : (List Event → ℕ) → ℕ → ℕ → List Event → Type 0
StockMost count capacity workers h = count h ≤ capacity + lesser capacity workers

pub record Stocked (count : List Event → ℕ) (capacity workers : ℕ) (m : Machine) (h : List Event) : Type 0 where
  pub rises : StockRises count h
  pub falls : StockFalls count h
  pub stays : StockStays count h
  pub hands : StockByHands count m h
  pub number : StockIsNumber count m h
  pub most : StockMost count capacity workers h

abbrev pub StockUnderEverySchedule : Definition → (List Event → ℕ) → Type 0
StockUnderEverySchedule d count =
    (capacity workers edition : ℕ) → AllowedWith d.records capacity workers edition → (s : List ℕ)
    → Stocked count capacity workers (machine_after d capacity workers edition s) (acts_of d capacity workers edition s)

-- What the code counts act by act (`tally` of crate bounded_stock, which is `tallied_of`) is what the acts say: of any acts, fewer than 2^64, the claims at each end and the values read. Of any
-- way to count an act on, so that slips can be said of it.
pub record TallyAsSaid (count : Tally → Place → Place → Tally) : Type 0 where
  pub tails : (h : List Event) → length h < wide → (tallied_by count h).tail.0 ≡ length (tailers_of h)
  pub heads : (h : List Event) → length h < wide → (tallied_by count h).head.0 ≡ length (takers_of h)
  pub reads : (h : List Event) → length h < wide → (tallied_by count h).reads ≡ reads_in h
  -- and so they are the tally of the history, by which stock is said
  pub so : (h : List Event) → length h < wide → tallied_by count h ≡ tally h

-- Under every schedule, at either width, the stock that is made of these counts is the stock: the meter ends long before.
abbrev pub TalliedUnderEverySchedule : Definition → (Tally → Place → Place → Tally) → Type 0
TalliedUnderEverySchedule d count =
    (capacity workers edition : ℕ) → AllowedWith d.records capacity workers edition → (s : List ℕ)
    → stock_of (tallied_by count (acts_of d capacity workers edition s)) ≡ stock (acts_of d capacity workers edition s)

-- The bound is attained, in both editions: each ring of the table, full and with a force_push of as many workers as can claim in it, each before its read.
abbrev pub MostStock : Type 0
MostStock = map stock_at_most fullest ≡ map (λ (r : Shelf). r.capacity + lesser r.capacity r.workers) fullest

-- By every ring: every capacity, every number of workers, both editions, with any number of records.
abbrev pub StockAttained : Definition → (List Event → ℕ) → Type 0
StockAttained d count =
    (capacity workers edition : ℕ) → AllowedWith d.records capacity workers edition
    → count (acts_of d capacity workers edition (shelving capacity workers)) ≡ capacity + lesser capacity workers

-- ==== How an exchange ended (document 02, item 8). Of any way to tell it, so that crate bounded_slips can say it of wrong ones; it is met by `loss_at`, which
-- the events of a history have.

-- Lost because the words differed, also where the schedule makes it fail; lost by the schedule; won; or no exchange.
pub record EndTold (bits : Width) (tell : Machine → ℕ → Bool → Loss) (m : Machine) (w : ℕ) : Type 0 where
  pub differed : (found expected : Stamp) (lose : Bool) → Exchanges bits (fixed_on m.ring) (ends_on m.ring) (place_of m.workers w) found expected
      → (found ≡ expected → ⊥) → tell m w lose ≡ ByWords
  pub failed : (found expected : Stamp) → Exchanges bits (fixed_on m.ring) (ends_on m.ring) (place_of m.workers w) found expected
      → found ≡ expected → tell m w true ≡ BySchedule
  pub won : (found expected : Stamp) → Exchanges bits (fixed_on m.ring) (ends_on m.ring) (place_of m.workers w) found expected
      → found ≡ expected → tell m w false ≡ loss.Nothing
  pub none : (lose : Bool) → (places.view_of (place_of m.workers w)).weak ≡ false → tell m w lose ≡ loss.Nothing

abbrev pub EndsTold : Width → (Machine → ℕ → Bool → Loss) → Type 0
EndsTold bits tell = (m : Machine) (w : ℕ) → EndTold bits tell m w

-- The counts of a worker are the numbers of its lost exchanges of each kind in its present call, or its last if it is idle.
abbrev pub LossesCounted : Machine → List Event → Type 0
LossesCounted m h =
    (w : ℕ) → ((record_of_worker m.workers w).differed ≡ lost_in by_words m w h) × ((record_of_worker m.workers w).failed ≡ lost_in by_schedule m w h)

abbrev pub LossesUnderEverySchedule : Definition → Type 0
LossesUnderEverySchedule d =
    (capacity workers edition : ℕ) → AllowedWith d.records capacity workers edition → (s : List ℕ)
    → LossesCounted (machine_after d capacity workers edition s) (acts_of d capacity workers edition s)

-- No answer of a call changes: an entry is refused as if the counts were struck out, and what it leaves is the same but for them.
abbrev pub CountsAside : Definition → Type 0
CountsAside d =
    (m : Machine) (first second : ℕ)
    → ((d.turn m first second).refusal ≡ (d.turn (struck m) first second).refusal)
    × (struck (d.turn m first second).machine ≡ struck (d.turn (struck m) first second).machine)

-- ==== A step reads no other worker's record (refusal 6 aside, which the faces judge before it): with other records beside it, it is refused alike and leaves the same ring, the same meter and
-- the same record of its own.
pub record OwnRecordAlone (d : Definition) : Type 0 where
  pub refusal : (m : Machine) (ys : List Worker) (w : ℕ) (o : Order) (first second : ℕ) → entry_of first second ≡ Asks w o → record_of_worker ys w ≡ record_of_worker m.workers w
      → (d.turn (lent_others m ys) first second).refusal ≡ (d.turn m first second).refusal
  pub ring : (m : Machine) (ys : List Worker) (w : ℕ) (o : Order) (first second : ℕ) → entry_of first second ≡ Asks w o → record_of_worker ys w ≡ record_of_worker m.workers w
      → (d.turn (lent_others m ys) first second).machine.ring ≡ (d.turn m first second).machine.ring
  pub meter : (m : Machine) (ys : List Worker) (w : ℕ) (o : Order) (first second : ℕ) → entry_of first second ≡ Asks w o → record_of_worker ys w ≡ record_of_worker m.workers w
      → (d.turn (lent_others m ys) first second).machine.meter ≡ (d.turn m first second).machine.meter
  pub own : (m : Machine) (ys : List Worker) (w : ℕ) (o : Order) (first second : ℕ) → entry_of first second ≡ Asks w o → record_of_worker ys w ≡ record_of_worker m.workers w
      → w < length ys → w < length m.workers
      → record_of_worker (d.turn (lent_others m ys) first second).machine.workers w ≡ record_of_worker (d.turn m first second).machine.workers w

-- ==== A close that holds (document 02, item 6). Said of the same machines and acts.

-- Edition 2: once closed, always closed.
abbrev pub OnceClosed : Definition → Machine → Type 0
OnceClosed d m =
    marked_of (fixed_on m.ring) m.ring.tail ≡ true → (entries : List ℕ)
    → marked_of (fixed_on m.ring) (d.run m 0 entries).machine.ring.tail ≡ true

-- Edition 2: from the first on, a close answers yes at most once.
abbrev pub YesOnce : List Event → Type 0
YesOnce h =
    (earlier between later : List Event) (act again : Event) → h ≡ earlier ++ act ∷ between ++ again ∷ later → ClosesYes act → ClosesYes again → ⊥

-- Both editions: after any pop has answered Closed there is no further tail or head claim.
abbrev pub NoneAfterClosed : List Event → Type 0
NoneAfterClosed h = (earlier later : List Event) (act : Event) → h ≡ earlier ++ act ∷ later → act.after ≡ Idle PopClosed → NoClaims later

abbrev pub CloseHolds : Definition → Type 0
CloseHolds d =
    (capacity workers : ℕ) → AllowedWith d.records capacity workers 2 → (s : List ℕ)
    → OnceClosed d (machine_after d capacity workers 2 s) × YesOnce (acts_of d capacity workers 2 s)

-- Edition 2, of any machine that is not broken, reached or not: once closed, always closed. It asks for no window.
abbrev pub OnceClosedAnywhere : Definition → Type 0
OnceClosedAnywhere d = (m : Machine) → broken_with d.records m ≡ false → m.ring.edition ≡ 2 → OnceClosed d m

abbrev pub ClosedIsLast : Definition → Type 0
ClosedIsLast d = (capacity workers edition : ℕ) → AllowedWith d.records capacity workers edition → (s : List ℕ) → NoneAfterClosed (acts_of d capacity workers edition s)

-- Edition 2: a force_push past its load may still claim, by case F. Edition 1: the two that hold of edition 2 do not, by case F and a close more.
pub record CaseF (d : Definition) : Type 0 where
  pub still_claims : ClaimsOn (acts_of d 1 2 2 case_f)
  pub forgets : OnceClosed d (machine_after d 1 2 1 closed_f) → ⊥
  pub yes_again : YesOnce (acts_of d 1 2 1 (case_f ++ 22 ∷ 0 ∷ acts 1 1)) → ⊥

-- ==== Every retry has a cause (document 02, item 9). Of any way to name the causes of an act that comes after others, so that slips can be said of it; it is met
-- by `causes_in`.

-- At every act that goes back one of the four holds,
abbrev pub RetriesCaused : (List Event → Event → Causes) → List Event → Type 0
RetriesCaused name h =
    (earlier later : List Event) (act : Event) → h ≡ earlier ++ act ∷ later → goes_back_at act ≡ true → Caused (name earlier act)

-- and at one of len it is its own end: "For len only the second counts."
abbrev pub LenByOwnEnd : (List Event → Event → Causes) → List Event → Type 0
LenByOwnEnd name h =
    (earlier later : List Event) (act : Event) (t u : Stamp) → h ≡ earlier ++ act ∷ later → goes_back_at act ≡ true → act.before ≡ Len3 t u
    → name earlier act ≡ only_own

abbrev pub EveryRetryHasACause : Definition → (List Event → Event → Causes) → Type 0
EveryRetryHasACause d name =
    (capacity workers edition : ℕ) → Allowed capacity workers edition → (s : List ℕ)
    → RetriesCaused name (acts_of d capacity workers edition s) × LenByOwnEnd name (acts_of d capacity workers edition s)

-- An act goes back exactly where it is one of the eight ways back.
abbrev pub WaysBack : List Event → Type 0
WaysBack h = (earlier later : List Event) (act : Event) → h ≡ earlier ++ act ∷ later → Tells (goes_back_at act) (WayBack act.before act.after)

abbrev pub EightWaysBack : Definition → Type 0
EightWaysBack d = (capacity workers edition : ℕ) → Allowed capacity workers edition → (s : List ℕ) → WaysBack (acts_of d capacity workers edition s)

-- Each of the four is needed, in both editions: at the last act of each schedule of the table, which goes back, its cause holds and no other.
abbrev pub EachNeeded : (List Event → Event → Causes) → ℕ → Type 0
EachNeeded name edition = map (last_in name edition) retries ≡ map (λ (r : Retry). back_by r.causes) retries

-- Alone, and with no exchange that the schedule makes fail, a worker goes back at most once while no other has a slot in hand.
abbrev pub BackOnce : List Event → Type 0
BackOnce h =
    (earlier alone later : List Event) (w : ℕ) → h ≡ earlier ++ alone ++ later → Alone w alone → other_hand w earlier ≡ false → goings_back alone ≤ 1

abbrev pub AloneBackOnce : Definition → Type 0
AloneBackOnce d = (capacity workers edition : ℕ) → Allowed capacity workers edition → (s : List ℕ) → BackOnce (acts_of d capacity workers edition s)

-- What is kept of worker w after these acts is what they say: of each end, whether it was claimed, and of tail whether it was marked, since w loaded or found a word, and since its
-- last stamp load; whether at that load another had a slot in hand; and whether w's latest act left it with one.
pub record Kept (kept : List Event → Watches) (h : List Event) (w : ℕ) : Type 0 where
  pub word_tail : Tells (watch_of (kept h).each w).word.tail (DoneSince (λ (d : Deed). d.tail) (λ (d : Deed). d.word) w h)
  pub word_head : Tells (watch_of (kept h).each w).word.head (DoneSince (λ (d : Deed). d.head) (λ (d : Deed). d.word) w h)
  pub word_mark : Tells (watch_of (kept h).each w).word.mark (DoneSince (λ (d : Deed). d.mark) (λ (d : Deed). d.word) w h)
  pub stamp_tail : Tells (watch_of (kept h).each w).stamp.tail (DoneSince (λ (d : Deed). d.tail) (λ (d : Deed). d.stamp) w h)
  pub stamp_head : Tells (watch_of (kept h).each w).stamp.head (DoneSince (λ (d : Deed). d.head) (λ (d : Deed). d.stamp) w h)
  pub others : Tells (watch_of (kept h).each w).others (LatestBy (λ (d : Deed). d.stamp) w (λ earlier act. other_hand w earlier ≡ true) h)
  pub hand : Tells (watch_of (kept h).each w).hand (LatestBy (λ (d : Deed). true) w (λ earlier act. (deed act).hand ≡ true) h)

-- Of every history, one act more is what `name_causes` of crate bounded_causes makes of it, and what is kept is so. Of any way to keep it, so that slips can be said of it; it is met by
-- `watches`.
pub record KeptAsSaid (kept : List Event → Watches) : Type 0 where
  pub more : (h : List Event) (e : Event) → kept (h ++ e ∷ []) ≡ (named_of (kept h) e.worker e.before e.after e.loss).watches
  pub so : (h : List Event) (w : ℕ) → w < workers_most → Kept kept h w

-- The same of so many workers as are lent.
abbrev pub KeptOf : ℕ → Type 0
KeptOf many = (h : List Event) (w : ℕ) → w < many → Kept watches h w

-- All that is said of retries, of one history;
pub record Retried (name : List Event → Event → Causes) (h : List Event) : Type 0 where
  pub caused : RetriesCaused name h
  pub len : LenByOwnEnd name h
  pub ways : WaysBack h
  pub once : BackOnce h

-- under every schedule of 64 bits, with any number of records (document 02, item 11) and up to 64 workers; and under every schedule that keeps the window.
abbrev pub RetriesUnderEverySchedule : Definition → (List Event → Event → Causes) → Type 0
RetriesUnderEverySchedule d name =
    (capacity workers edition : ℕ) → AllowedWith d.records capacity workers edition → workers ≤ records_most → (s : List ℕ) → Retried name (acts_of d capacity workers edition s)

abbrev pub RetriesInWindow : Definition → (List Event → Event → Causes) → Type 0
RetriesInWindow d name =
    (capacity workers edition : ℕ) → AllowedWith d.records capacity workers edition → workers ≤ records_most → (s : List ℕ)
    → KeepsWindow d (fresh_with d.records capacity workers edition) [] s → Retried name (acts_of d capacity workers edition s)

-- ==== Words that wrap (document 02, item 14). Of a schedule that keeps the window, all that is said above of every schedule of 64 bits, but that nothing
-- wraps.

pub record Within (d : Definition) (capacity workers edition : ℕ) (s : List ℕ) : Type 0 where
  pub demand2 : Demand2 d capacity workers edition (machine_after d capacity workers edition s) (acts_of d capacity workers edition s)
  pub demand3 : Demand3 d (machine_after d capacity workers edition s) (acts_of d capacity workers edition s)
  -- where the widest window is kept between the two acts of `len`
  pub len : (w n : ℕ) (a : LenAnswers d capacity workers edition s w n)
      → KeepsWidestWindow d a.loaded (acts_of d capacity workers edition s ++ events_of d.width (machine_after d capacity workers edition s) (Asks w (Act a.load.lose)) a.loaded) a.rest
      → n ≡ untaken_of (tally (acts_of d capacity workers edition s))
  pub stocked : Stocked stock capacity workers (machine_after d capacity workers edition s) (acts_of d capacity workers edition s)
  pub losses : LossesCounted (machine_after d capacity workers edition s) (acts_of d capacity workers edition s)
  pub once_closed : edition ≡ 2 → OnceClosed d (machine_after d capacity workers edition s)
  pub yes_once : edition ≡ 2 → YesOnce (acts_of d capacity workers edition s)
  pub none_after : NoneAfterClosed (acts_of d capacity workers edition s)

abbrev pub WithinTheWindow : Definition → Type 0
WithinTheWindow d =
    (capacity workers edition : ℕ) → AllowedWith d.records capacity workers edition → (s : List ℕ) → KeepsWindow d (fresh_with d.records capacity workers edition) [] s
    → Within d capacity workers edition s

-- The window is met by something: one worker alone keeps it under every schedule, however many turns it makes.
abbrev pub AloneKeeps : Definition → Type 0
AloneKeeps d = (capacity edition : ℕ) → Allowed capacity 1 edition → (s : List ℕ) → KeepsWindow d (fresh_of capacity 1 edition) [] s

-- A premise that a host can keep, with any number of workers: whoever drops a word within fewer acts of getting it than the window has claims keeps the window. (An act is one claim at most.) Of
-- any window and any number of acts, so that one that is too large can be refused.
abbrev pub PromptKeeps : (Width → Fixed → ℕ) → (Width → Fixed → ℕ) → Definition → Type 0
PromptKeeps many window d =
    (capacity workers edition : ℕ) → AllowedWith d.records capacity workers edition → (s : List ℕ)
    → KeepsPrompt many d (fresh_with d.records capacity workers edition) [] s → KeepsWindowOf window d (fresh_with d.records capacity workers edition) [] s

-- And a worker alone makes as many as it likes: so many pushes, each followed by a pop, are so many claims at either end, as far as the meter goes.
abbrev pub RoundsClaim : Definition → Type 0
RoundsClaim d =
    (capacity edition : ℕ) → Allowed capacity 1 edition → (n : ℕ) → 10 * n ≤ meter_most
    → ((tally (acts_of d capacity 1 edition (rounds n))).tail.0 ≡ n) × ((tally (acts_of d capacity 1 edition (rounds n))).head.0 ≡ n)

-- It is not idle: a push that sleeps at P6 while a turn less one capacity is claimed at either end finds its word again and answers Full of an empty ring; and in edition 2 a pop that
-- sleeps at O6 for a turn answers Closed with an item in, which is claimed after it.
pub record NotIdle : Type 0 where
  pub tails : (tally (since 1 (acts_of (of_width Sixteen) 1 2 1 sleeping_push))).tail.0 ≡ turn_length Sixteen (fixed_of 1 1) - 1
  pub heads : (tally (since 1 (acts_of (of_width Sixteen) 1 2 1 sleeping_push))).head.0 ≡ turn_length Sixteen (fixed_of 1 1) - 1
  pub untrue : AnswersTrue (of_width Sixteen) (machine_after (of_width Sixteen) 1 2 1 sleeping_push) → ⊥
  pub claimed_yet : NoneAfterClosed (acts_of (of_width Sixteen) 1 2 2 sleeping_pop) → ⊥
  -- and a host that lets a word sleep for 25 turns of acts does not keep the window
  pub too_late : PromptKeeps (λ bits f. 25 * turn_length bits f) window_length (of_width Sixteen) → ⊥

-- "(at capacity 256: 15,872)", and at 1,024, the largest since item 2.
abbrev pub WindowLengths : Type 0
WindowLengths = map (λ (c : ℕ). window_length Sixteen (fixed_of c 1)) (256 ∷ 1024 ∷ []) ≡ 15872 ∷ 14336 ∷ []

-- The face of sixteen bits keeps the one machine's numbers: none is lost, and from a fresh machine its schedules go where the definition goes. Of any way to narrow and to run, so that slips can
-- be said of them; met by the face's.
pub record SameNumbersBy (keep : Machine → widths.Machine) (run : widths.Machine → List ℕ → widths_ran.Ran) : Type 0 where
  pub back : (m : widths.Machine) → keep (widened m) ≡ m
  pub again : (m : Machine) → widened (keep m) ≡ m
  pub reaches : (capacity workers edition : ℕ) → Allowed capacity workers edition → (s : List ℕ) → length s % 2 ≡ 0 → Readable entry_of s
      → widened (run (keep (fresh_of capacity workers edition)) s).machine ≡ machine_after (of_width Sixteen) capacity workers edition s

abbrev pub SameNumbers : Type 0
SameNumbers = SameNumbersBy narrowed narrow.run_of

-- Its numbers are below 65,536: every word of head, tail and a slot, under every schedule from a fresh machine, and after any entry on a machine of such words. So cutting them to sixteen bits
-- changes none of them. Of any definition and any way to cut, so that slips can be said of them; met by the definition of sixteen bits and by `as u16`.
pub record NumbersFit (d : Definition) (cut : Machine → Machine) : Type 0 where
  pub fits : (capacity workers edition : ℕ) → Allowed capacity workers edition → (s : List ℕ) → Short (machine_after d capacity workers edition s)
  pub entry : (m : Machine) (first second : ℕ) → Short m → Short (d.turn m first second).machine
  pub uncut : (m : Machine) → Short m → cut m ≡ m
  -- what is cut and kept in sixteen bits is, widened, what it was
  pub again : (m : Machine) → Short m → widened (narrowed (cut m)) ≡ m

-- ==== Every schedule of a small case (document 02, item 10). A walk: what it lists of so many acts from a machine.

pub record WalksAll (walk : ℕ → Machine → List (List ℕ)) : Type 0 where
  -- What is listed goes so, act by act; what goes so is listed.
  pub goes : (depth : ℕ) (m : Machine) (s : List ℕ) → Memᴰ s (walk depth m) → Tried depth m s
  pub whole : (depth : ℕ) (m : Machine) (s : List ℕ) → Tried depth m s → Memᴰ s (walk depth m)
  -- Each is before those after it: lowest worker first, code 8 before code 9, at every place. What is before another is not the same, so none is there twice.
  pub order : (depth : ℕ) (m : Machine) → broken_of m ≡ false → InOrder (walk depth m)
  pub once : (s : List ℕ) → Before s s → ⊥
  -- As the entries of a schedule, each runs to its end: what holds under every schedule holds along it.
  pub runs : (depth : ℕ) (m : Machine) → broken_of m ≡ false → (s : List ℕ) → Memᴰ s (walk depth m) → (run_from m 0 (entries_of s)).refusal ≡ 0
  -- Depth 0 lists one empty sequence.
  pub none : (m : Machine) → walk 0 m ≡ [] ∷ []

-- What it answers, and what it leaves in the buffer. Of any functions, so that slips can be said of them; met by `item10` of Walkings.antt.
pub record WalkToldBy (f : WalkFace) : Type 0 where
  pub numbered : (m : Machine) (depth room : ℕ) → has (0 ∷ 6 ∷ 19 ∷ 20 ∷ 21 ∷ 22 ∷ []) (f.refusal m depth room) ≡ true
  pub unchanged : (m : Machine) (depth : ℕ) (buffer : List ℕ) → (f.refusal m depth (length buffer) ≡ 0 → ⊥) → f.listed m depth buffer ≡ buffer
  pub filled : (m : Machine) (depth : ℕ) (buffer : List ℕ) → f.refusal m depth (length buffer) ≡ 0
      → (take (length (bytes_of (walk_of depth m))) (f.listed m depth buffer) ≡ bytes_of (walk_of depth m)) × (drop (length (bytes_of (walk_of depth m))) (f.listed m depth buffer) ≡ drop (length (bytes_of (walk_of depth m))) buffer)
  -- a host that lends as many bytes as `size` told is not refused for them
  pub fits : (m : Machine) (depth sequences bytes : ℕ) → f.size m depth ≡ Ok (sized sequences bytes) → f.refusal m depth bytes ≡ 0
  pub answer : (m : Machine) (depth : ℕ) (buffer : List ℕ) (x y : Result ℕ ℕ) (a b : List ℕ)
      → x ≡ f.told m depth buffer → y ≡ f.told m depth buffer → a ≡ f.listed m depth buffer → b ≡ f.listed m depth buffer → (x ≡ y) × (a ≡ b)
  pub size : (m : Machine) (depth : ℕ) (x y : Result Walked ℕ) → x ≡ f.size m depth → y ≡ f.size m depth → x ≡ y

abbrev pub WalkTold : Type 0
WalkTold = WalkToldBy item10

-- "The number of sequences is the answer", of any machine, any depth and any buffer; what is refused is told by its number. `size` tells that number and the bytes that the list needs, or the
-- same refusal, which is never 22. Of any functions; met by `item10`.
pub record WalkCountsBy (f : WalkFace) : Type 0 where
  pub counted : (m : Machine) (depth : ℕ) (buffer : List ℕ) → f.refusal m depth (length buffer) ≡ 0 → f.told m depth buffer ≡ Ok (length (walk_of depth m))
  pub refused : (m : Machine) (depth : ℕ) (buffer : List ℕ) → (f.refusal m depth (length buffer) ≡ 0 → ⊥) → f.told m depth buffer ≡ Err (f.refusal m depth (length buffer))
  pub size_counted : (m : Machine) (depth room : ℕ) → f.refusal m depth room ≡ 0 → f.size m depth ≡ Ok (sized (length (walk_of depth m)) (length (bytes_of (walk_of depth m))))
  pub size_refused : (m : Machine) (depth room number : ℕ) → f.refusal m depth room ≡ number → (number ≡ 0 → ⊥) → (number ≡ 22 → ⊥) → f.size m depth ≡ Err number
  -- 22 is given exactly where nothing else is amiss and the list is longer than the buffer
  pub short : (m : Machine) (depth room : ℕ) → f.refusal m depth room ≡ 22
      → (f.size m depth ≡ Ok (sized (length (walk_of depth m)) (length (bytes_of (walk_of depth m))))) × (room < length (bytes_of (walk_of depth m)))

abbrev pub WalkCounts : Type 0
WalkCounts = WalkCountsBy item10

-- Each of these numbers is given: of no act and of one more than a walk has; of the blank machine, one with nobody under way, a push under way and one whose meter is at its end.
abbrev pub WalkEachNumber : WalkFace → Type 0
WalkEachNumber f =
    f.refusal (pushing_in sixty_four) 0 8 ∷ f.refusal blank 0 8 ∷ f.refusal (pushing_in sixty_four) (depth_most + 1) 8 ∷ f.refusal (fresh_in sixty_four) 0 8
    ∷ f.refusal (at_the_end (pushing_in sixty_four)) 1 8 ∷ f.refusal (pushing_in sixty_four) 0 0 ∷ []
    ≡ 0 ∷ 6 ∷ 19 ∷ 20 ∷ 21 ∷ 22 ∷ []

-- Two pushes on one slot, a push and a pop, and case F's force_push and close: so many sequences.
abbrev pub WalksCounted : Type 0
WalksCounted = map walked walkings ≡ map (λ (w : Walking). w.sequences) walkings

-- ==== Records in the host's memory (document 02, item 11).

-- Equality: for up to 16 records every answer, the ring after it and the records after it are those of the machine that holds its records.
pub record AsHeld (d : Lending) : Type 0 where
  pub broken : (l : Metered) (ys : List Worker) → length ys ≤ workers_most → d.broken l ys ≡ broken_of (holding l ys)
  pub step : (l : Metered) (ys : List Worker) (first second : ℕ) → length ys ≤ workers_most → holds_did (d.step l ys first second) ≡ step_of (holding l ys) first second
  pub run : (l : Metered) (ys : List Worker) (s : List ℕ) → length ys ≤ workers_most → holds_ran (d.run l ys s) ≡ run_of (holding l ys) s
  pub capacity : (l : Metered) (ys : List Worker) → length ys ≤ workers_most → d.capacity l ys ≡ capacity_of (holding l ys)
  pub contents : (l : Metered) (ys : List Worker) (buffer : List ℕ) → length ys ≤ workers_most
      → d.contents l ys buffer ≡ filled (told (contents_refusal (holding l ys) (length buffer)) (count_in (holding l ys))) (written (holding l ys) buffer)
  -- making: the same refusal and the same ring; and what is not refused is the same machine
  pub refusal : (ys : List Worker) (capacity edition : ℕ) → length ys ≤ workers_most → (d.make ys capacity edition).answer ≡ (make_of capacity (length ys) edition).refusal
  pub made : (ys : List Worker) (capacity edition : ℕ) → length ys ≤ workers_most → (d.make ys capacity edition).answer ≡ 0
      → holds_did (d.make ys capacity edition) ≡ make_of capacity (length ys) edition
  pub blank : (ys : List Worker) (capacity edition : ℕ) → length ys ≤ workers_most → ((d.make ys capacity edition).answer ≡ 0 → ⊥)
      → (d.make ys capacity edition).ring ≡ metered_of (make_of capacity (length ys) edition).machine

-- "In a step only the acting record may change"; a refused step changes nothing, and a refused making no record.
pub record OnlyTheActing (d : Lending) : Type 0 where
  pub others : (l : Metered) (ys : List Worker) (first second w : ℕ) → (w ≡ first / 16 → ⊥) → record_of_worker (d.step l ys first second).records w ≡ record_of_worker ys w
  pub many : (l : Metered) (ys : List Worker) (first second : ℕ) → length (d.step l ys first second).records ≡ length ys
  pub refused : (l : Metered) (ys : List Worker) (first second : ℕ) → ((d.step l ys first second).answer ≡ 0 → ⊥)
      → ((d.step l ys first second).ring ≡ l) × ((d.step l ys first second).records ≡ ys)
  pub unmade : (ys : List Worker) (capacity edition : ℕ) → ((d.make ys capacity edition).answer ≡ 0 → ⊥) → (d.make ys capacity edition).records ≡ ys

-- Demands 2 and 3 for every number of records that making accepts: a ring and records that were made, and steps, each on what the last one left.
abbrev pub LentThroughout : Lending → Type 0
LentThroughout d =
    (ys : List Worker) (capacity edition : ℕ) → (d.make ys capacity edition).answer ≡ 0 → (entries : List ℕ)
    → Demand2 (with_records (length ys) SixtyFour) capacity (length ys) edition (held_in (steps d (d.make ys capacity edition) entries)) (acts_lent d (d.make ys capacity edition) entries)
    × Demand3 (with_records (length ys) SixtyFour) (held_in (steps d (d.make ys capacity edition) entries)) (acts_lent d (d.make ys capacity edition) entries)

-- No step breaks what is not broken, of any number of records: so refusal 6 is tested once a schedule.
abbrev pub LentUnbroken : Lending → Type 0
LentUnbroken d =
    (l : Metered) (ys : List Worker) (first second : ℕ) → d.broken l ys ≡ false → d.broken (d.step l ys first second).ring (d.step l ys first second).records ≡ false

-- Only one answer meets a promise: of the whole answer, the ring, the records and the lent buffer.
pub record OnlyOneLent (p : Promise) : Type 0 where
  pub make : (ys : List Worker) (capacity edition : ℕ) (x y : Lent) → p.make ys capacity edition x → p.make ys capacity edition y → x ≡ y
  pub step : (l : Metered) (ys : List Worker) (first second : ℕ) (x y : Lent) → p.step l ys first second x → p.step l ys first second y → x ≡ y
  pub run : (l : Metered) (ys : List Worker) (s : List ℕ) (x y : Gone) → p.run l ys s x → p.run l ys s y → x ≡ y
  pub capacity : (l : Metered) (ys : List Worker) (x y : Result ℕ ℕ) → p.capacity l ys x → p.capacity l ys y → x ≡ y
  pub contents : (l : Metered) (ys : List Worker) (before : List ℕ) (x y : Filled) → p.contents l ys before x → p.contents l ys before y → x ≡ y
  pub broken : (l : Metered) (ys : List Worker) (x y : Bool) → p.broken l ys x → p.broken l ys y → x ≡ y

-- Case H of this machine: 64 records are accepted, 65 are refused; 0 are refused, 1 is accepted.
pub record SixtyFourRecords (d : Lending) : Type 0 where
  pub none : (ys : List Worker) → length ys ≡ 0 → (d.make ys 1 1).answer ≡ 2
  pub one : (ys : List Worker) → length ys ≡ 1 → (d.make ys 1 1).answer ≡ 0
  pub most : (ys : List Worker) → length ys ≡ 64 → (d.make ys 1 1).answer ≡ 0
  pub more : (ys : List Worker) → length ys ≡ 65 → (d.make ys 1 1).answer ≡ 2

-- Demand 1 of this face, of any number of records. A refused call changes nothing, in the ring, the records or a lent buffer.
pub record LentRefused (d : Lending) : Type 0 where
  -- refusals 1, 2 and 18 return the blank ring
  pub make : (ys : List Worker) (capacity edition : ℕ) → ((d.make ys capacity edition).answer ≡ 0 → ⊥)
      → ((d.make ys capacity edition).ring ≡ metered_of blank) × ((d.make ys capacity edition).records ≡ ys)
  pub step : (l : Metered) (ys : List Worker) (first second : ℕ) → ((d.step l ys first second).answer ≡ 0 → ⊥)
      → ((d.step l ys first second).ring ≡ l) × ((d.step l ys first second).records ≡ ys)
  -- a schedule that is refused at a place leaves what the entries before that place leave
  pub run : (l : Metered) (ys : List Worker) (s : List ℕ) → ((d.run l ys s).report.refusal ≡ 0 → ⊥) → ((d.run l ys s).report.refusal ≡ 9 → ⊥)
      → ((d.run l ys s).ring ≡ (d.run l ys (take (2 * (d.run l ys s).report.place) s)).ring)
      × ((d.run l ys s).records ≡ (d.run l ys (take (2 * (d.run l ys s).report.place) s)).records)
  -- but one with an entry that can't be read leaves all as it was
  pub unread : (l : Metered) (ys : List Worker) (s : List ℕ) → (d.run l ys s).report.refusal ≡ 9 → ((d.run l ys s).ring ≡ l) × ((d.run l ys s).records ≡ ys)
  pub contents : (l : Metered) (ys : List Worker) (buffer : List ℕ) → (refusal_of (d.contents l ys buffer).answer ≡ 0 → ⊥) → (d.contents l ys buffer).buffer ≡ buffer

-- The refusals that each function can give; 0 is none.
pub record LentNumbered (d : Lending) : Type 0 where
  pub make : (ys : List Worker) (capacity edition : ℕ) → has (0 ∷ 1 ∷ 2 ∷ 18 ∷ []) (d.make ys capacity edition).answer ≡ true
  pub step : (l : Metered) (ys : List Worker) (first second : ℕ) → has (0 ∷ 3 ∷ 4 ∷ 5 ∷ 6 ∷ 7 ∷ 8 ∷ 9 ∷ []) (d.step l ys first second).answer ≡ true
  pub run : (l : Metered) (ys : List Worker) (s : List ℕ) → has (0 ∷ 3 ∷ 4 ∷ 5 ∷ 6 ∷ 7 ∷ 8 ∷ 9 ∷ 11 ∷ []) (d.run l ys s).report.refusal ≡ true
  pub contents : (l : Metered) (ys : List Worker) (buffer : List ℕ) → has (0 ∷ 4 ∷ 6 ∷ 10 ∷ []) (refusal_of (d.contents l ys buffer).answer) ≡ true
  pub capacity : (l : Metered) (ys : List Worker) → has (0 ∷ 6 ∷ []) (refusal_of (d.capacity l ys)) ≡ true

-- Each number is given exactly when its ground holds and none before it, in document 01's order, of any ring, any records and anything handed in; the count is the number lent.
pub record LentRefusedExactly (d : Lending) : Type 0 where
  pub make : (ys : List Worker) (capacity edition : ℕ) → (d.make ys capacity edition).answer
      ≡ first_of (on 1 (not (in_limits capacity slots_most)) ∷ on 2 (not (in_limits (length ys) records_most)) ∷ on 18 (not (in_limits edition editions_most)) ∷ [])
  pub step : (l : Metered) (ys : List Worker) (first second : ℕ) → (d.step l ys first second).answer ≡ first_of (on 6 (d.broken l ys) ∷ entry_grounds (held l ys) first second)
  pub run : (l : Metered) (ys : List Worker) (s : List ℕ)
      → (d.broken l ys ≡ true → (d.run l ys s).report ≡ report 6 0) × (d.broken l ys ≡ false → length s % 2 ≡ 1 → (d.run l ys s).report ≡ report 11 0)
  pub contents : (l : Metered) (ys : List Worker) (buffer : List ℕ) → refusal_of (d.contents l ys buffer).answer
      ≡ first_of (on 6 (d.broken l ys) ∷ on 4 (not (all_idle ys)) ∷ on 10 (ltb (length buffer) (count_on l.ring)) ∷ [])
  pub capacity : (l : Metered) (ys : List Worker) → refusal_of (d.capacity l ys) ≡ first_of (on 6 (d.broken l ys) ∷ [])

-- Each of them is given, by the rings and records named here.
pub record LentEachNumber (d : Lending) : Type 0 where
  pub make : map (λ (x : Lent). x.answer) (d.make (idler ∷ []) 1 1 ∷ d.make (idler ∷ []) 0 1 ∷ d.make [] 1 1 ∷ d.make (idler ∷ []) 1 0 ∷ []) ≡ 0 ∷ 1 ∷ 2 ∷ 18 ∷ []
  pub step :
      map (λ (x : Lent). x.answer)
      (step_on d (fresh_lent d) 0 5 ∷ step_on d (fresh_lent d) 16 5 ∷ step_on d (pushing_lent d) 0 5 ∷ step_on d (fresh_lent d) 8 0 ∷ step_on d (none_lent d) 0 5 ∷ step_on d (spent_lent d) 8 0
      ∷ step_on d (pushing_lent d) 9 0 ∷ step_on d (fresh_lent d) 10 0 ∷ [])
      ≡ 0 ∷ 3 ∷ 4 ∷ 5 ∷ 6 ∷ 7 ∷ 8 ∷ 9 ∷ []
  pub run :
      map (λ (g : Gone). g.report.refusal)
      (run_on d (fresh_lent d) [] ∷ run_on d (fresh_lent d) (16 ∷ 5 ∷ []) ∷ run_on d (pushing_lent d) (0 ∷ 5 ∷ []) ∷ run_on d (fresh_lent d) (8 ∷ 0 ∷ []) ∷ run_on d (none_lent d) []
      ∷ run_on d (spent_lent d) (8 ∷ 0 ∷ []) ∷ run_on d (pushing_lent d) (9 ∷ 0 ∷ []) ∷ run_on d (fresh_lent d) (10 ∷ 0 ∷ []) ∷ run_on d (fresh_lent d) (0 ∷ []) ∷ [])
      ≡ 0 ∷ 3 ∷ 4 ∷ 5 ∷ 6 ∷ 7 ∷ 8 ∷ 9 ∷ 11 ∷ []
  pub contents :
      map (λ (x : Lent). refusal_of (d.contents x.ring x.records []).answer) (fresh_lent d ∷ pushing_lent d ∷ none_lent d ∷ stocked_lent d ∷ []) ≡ 0 ∷ 4 ∷ 6 ∷ 10 ∷ []
  pub capacity : map (λ (x : Lent). refusal_of (d.capacity x.ring x.records)) (fresh_lent d ∷ none_lent d ∷ []) ≡ 0 ∷ 6 ∷ []

-- The list is checked first; one that can be read is run step by step.
pub record LentListFirst (d : Lending) : Type 0 where
  pub stops : (l : Metered) (ys : List Worker) (before : List ℕ) (k first second : ℕ) (rest : List ℕ) → d.broken l ys ≡ false → length (before ++ first ∷ second ∷ rest) % 2 ≡ 0
      → length before ≡ 2 * k → Readable entry_of before → entry_of first second ≡ Unreadable → d.run l ys (before ++ first ∷ second ∷ rest) ≡ gone (report 9 k) l ys
  pub runs : (l : Metered) (ys : List Worker) (s : List ℕ) → d.broken l ys ≡ false → length s % 2 ≡ 0 → Readable entry_of s → d.run l ys s ≡ step_by_step d l ys s

-- Nothing that is done to what is not broken breaks it, and what is made is not.
pub record LentStaysUnbroken (d : Lending) : Type 0 where
  pub step : LentUnbroken d
  pub run : (l : Metered) (ys : List Worker) (s : List ℕ) → d.broken l ys ≡ false → d.broken (d.run l ys s).ring (d.run l ys s).records ≡ false
  pub made : (ys : List Worker) (capacity edition : ℕ) → (d.make ys capacity edition).answer ≡ 0
      → d.broken (d.make ys capacity edition).ring (d.make ys capacity edition).records ≡ false

pub record LentDemand1 (d : Lending) : Type 0 where
  pub refused_unchanged : LentRefused d
  pub numbered : LentNumbered d
  pub list_first : LentListFirst d
  pub stays_unbroken : LentStaysUnbroken d
  pub only_one : OnlyOneLent (promised d)

-- ==== Calls in any mixture. Of the entries s, all that is said above of every schedule that keeps the window,
pub record ThroughoutInWindow (d : Definition) (capacity workers edition : ℕ) (s : List ℕ) : Type 0 where
  -- demands 2 and 3, stock, losses, a close that holds
  pub within : Within d capacity workers edition s
  -- what an answer means
  pub plain : PlainThroughout capacity edition (machine_after d capacity workers edition s) (acts_of d capacity workers edition s) (story_of d capacity workers edition s)
  pub one_step_lem : OnlySuch (one_step edition) (story_of d capacity workers edition s) → OneByOne capacity edition (story_of d capacity workers edition s)
  pub others_one_step : OthersOneByOne d capacity workers edition s
  -- why calls go back
  pub retries : workers ≤ records_most → Retried causes_in (acts_of d capacity workers edition s)

-- and of every schedule of 64 bits.
pub record Throughout (d : Definition) (capacity workers edition : ℕ) (s : List ℕ) : Type 0 where
  pub in_window : ThroughoutInWindow d capacity workers edition s
  pub len : (w n : ℕ) → LenAnswers d capacity workers edition s w n → n ≡ untaken_of (tally (acts_of d capacity workers edition s))

-- The widest window (document 02, item 14): a turn less one capacity suffices for all of this. Of a window of any length, so that one that is too long can be refused.
abbrev pub WithinWindowOf : (Width → Fixed → ℕ) → Definition → Type 0
WithinWindowOf many d =
    (capacity workers edition : ℕ) → AllowedWith d.records capacity workers edition → (s : List ℕ) → KeepsWindowOf many d (fresh_with d.records capacity workers edition) [] s
    → ThroughoutInWindow d capacity workers edition s

-- A window of one claim more does not.
abbrev pub NoWider : Type 0
NoWider = WithinWindowOf (λ bits f. widest_length bits f + 1) (of_width Sixteen) → ⊥

-- It does not at any capacity, in either edition, with any number of workers from two on. (One worker alone keeps every window.)
abbrev pub NoWiderAnywhere : Type 0
NoWiderAnywhere =
    (capacity workers edition : ℕ) → Allowed capacity workers edition → 1 < workers
    → ((s : List ℕ) → KeepsWindowOf (λ bits f. widest_length bits f + 1) (of_width Sixteen) (fresh_of capacity workers edition) [] s → ThroughoutInWindow (of_width Sixteen) capacity workers edition s) → ⊥

-- The machine m, whatever calls led to it, is where the entries s lead, each of them accepted.
pub record AsOneSchedule (d : Definition) (capacity workers edition : ℕ) (m : Machine) (s : List ℕ) : Type 0 where
  pub accepted : (d.run (fresh_with d.records capacity workers edition) 0 s).refusal ≡ 0
  pub machine : machine_after d capacity workers edition s ≡ m

-- Lent ring and records: a making, and then steps and schedules in any mixture, each on what the last one left. They are one schedule, of the entries that were accepted (refused
-- ones are passed over), and so all of this holds of them, for every number of records that making accepts.
abbrev pub LentMixed : Lending → Type 0
LentMixed d =
    (ys : List Worker) (capacity edition : ℕ) → (d.make ys capacity edition).answer ≡ 0 → (doings : List Doing)
    → AsOneSchedule (with_records (length ys) SixtyFour) capacity (length ys) edition (held_in (left_lent d (d.make ys capacity edition) doings)) (all_taken_lent d (d.make ys capacity edition) doings)
    × Throughout (with_records (length ys) SixtyFour) capacity (length ys) edition (all_taken_lent d (d.make ys capacity edition) doings)

-- The machine that holds its records: a making, and then step, begin, act and run of a face in any mixture; refused ones are passed over. Of 64 bits all of this holds of them; of
-- sixteen, if the accepted entries keep the window.
abbrev pub Mixed : {M D R : Type 0} → Face M D R → Definition → Type 0
Mixed f d =
    (capacity workers edition : ℕ) → f.refusal (f.make capacity workers edition) ≡ 0 → (askings : List Asking)
    → AsOneSchedule d capacity workers edition (f.wide (left_by_all f (f.left (f.make capacity workers edition)) askings)) (taken_by_all f (f.left (f.make capacity workers edition)) askings)
    × Throughout d capacity workers edition (taken_by_all f (f.left (f.make capacity workers edition)) askings)

abbrev pub MixedInWindow : {M D R : Type 0} → Face M D R → Definition → Type 0
MixedInWindow f d =
    (capacity workers edition : ℕ) → f.refusal (f.make capacity workers edition) ≡ 0 → (askings : List Asking)
    → AsOneSchedule d capacity workers edition (f.wide (left_by_all f (f.left (f.make capacity workers edition)) askings)) (taken_by_all f (f.left (f.make capacity workers edition)) askings)
    × (KeepsWindow d (fresh_with d.records capacity workers edition) [] (taken_by_all f (f.left (f.make capacity workers edition)) askings)
    → ThroughoutInWindow d capacity workers edition (taken_by_all f (f.left (f.make capacity workers edition)) askings))
