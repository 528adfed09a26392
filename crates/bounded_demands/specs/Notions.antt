-- The notions that the demands are said in: claim, hand, truth and the rest, of the machine's own struct, of the words of a schedule and
-- of the history of its acts (history, tally of claims and stock: crates/bounded_machine/specs/History.antt). The demands are Demands.antt.
use Rattle.std.specs.Prelude.{ℕ, zero, suc, ◌+◌, ◌*◌, ◌-◌, ◌/◌, ◌%◌, ◌≤◌, ◌<◌, Bool, true, false, cond, not, List, [], ◌∷◌, ◌++◌, map, ◌≡◌, ◌≢◌, eqb, ltb, leb, length, get_or, drop, take, Option, Some, None, Result}
use Rattle.queue_entries.specs.Limits.{workers_most, meter_most}
use Rattle.queue_entries.specs.declared.Call.{Call}
use Rattle.queue_entries.specs.declared.Call.TheVariants as call
use Rattle.queue_entries.specs.declared.Order.TheVariants.{Begin, Act}
use Rattle.queue_entries.specs.declared.Entry.{Entry}
use Rattle.queue_entries.specs.declared.Entry.TheVariants.{Unreadable, Asks}
use Rattle.queue_entries.specs.Told.{told}
use Rattle.queue_entries.specs.Entries.{entry_of, stray_of}
use Rattle.queue_numbers.specs.Numbers.{Ground, on}
use Rattle.queue_entries.specs.Schedules.{search_by}
use Rattle.queue_walks.specs.Meaning.{Goes}
use Rattle.bounded_words.specs.declared.Stamp.{Stamp}
use Rattle.bounded_words.specs.declared.Fixed.{Fixed}
use Rattle.bounded_words.specs.declared.Width.{Width}
use Rattle.bounded_words.specs.declared.Width.TheVariants.{Sixteen, SixtyFour}
use Rattle.bounded_words.specs.Limits.{slots_most, editions_most, wide}
use Rattle.bounded_words.specs.Words.{stamp, index_of, marked_of, unmarked_of, width_of, minus, lap_behind}
use Rattle.bounded_places.specs.declared.Slot.{Slot}
use Rattle.bounded_places.specs.declared.Ends.{Ends}
use Rattle.bounded_places.specs.declared.Kind.{Kind}
use Rattle.bounded_places.specs.declared.Kind.TheVariants.{Push, Force}
use Rattle.bounded_places.specs.declared.Answer.{Answer}
use Rattle.bounded_places.specs.declared.Answer.TheVariants.{Nothing, Pushed, Full, Closed, Displaced, Popped, Empty, PopClosed, Len, Yes, No}
use Rattle.bounded_places.specs.declared.Loss.{Loss}
use Rattle.bounded_places.specs.declared.Loss.TheVariants.{BySchedule}
use Rattle.bounded_places.specs.declared.Place.{Place}
use Rattle.bounded_places.specs.declared.Place.TheVariants.{Idle, P1, P2, P3, P4, P5, P6, F6, F7, F8, F9, O1, O2, O3, O4, O5, O6, Len1, Len2, Len3, Empty1, Empty2, Full1, Full2, Close1, IsClosed1}
use Rattle.bounded_places.specs.declared.Worker.{Worker}
use Rattle.bounded_places.specs.declared.Moved.{Moved}
use Rattle.bounded_places.specs.declared.Moved.TheVariants.{Neither, Tail, Head}
use Rattle.bounded_places.specs.Places.{view_of}
use Rattle.bounded_acts.specs.Acts.{yes_no, act_of}
use Rattle.bounded_machine.specs.declared.Machine.{Machine}
use Rattle.bounded_machine.specs.declared.Did.{Did}
use Rattle.bounded_machine.specs.declared.Ran.{Ran}
use Rattle.bounded_machine.specs.declared.Event.{Event}
use Rattle.bounded_machine.specs.declared.Tally.{Tally}
use Rattle.bounded_machine.specs.Machine.{slot, machine_of, blank, place_of, accepted, fresh_with, fixed_on, ends_on}
use Rattle.bounded_machine.specs.Broken.{all_idle, broken_of}
use Rattle.bounded_machine.specs.Contents.{count_in, contents_refusal, written, capacity_of}
use Rattle.bounded_machine.specs.Turn.{Table, beginner, turn_of_by, turn_of}
use Rattle.bounded_machine.specs.Run.{ran, run_with, run_at, run_from, run_of}
use Rattle.bounded_machine.specs.History.{history_with, moved_of, reads_at, untallied, tally_of, stock_of}
use Rattle.bounded.specs.Bounded as bounded
use Rattle.bounded_sixteen_bits.specs.declared.Machine as widths
use Rattle.bounded_sixteen_bits.specs.declared.Did as widths_did
use Rattle.bounded_sixteen_bits.specs.declared.Ran as widths_ran
use Rattle.bounded_sixteen_bits.specs.SixteenBits.{widened, narrowed, narrowed_ran}
use Rattle.bounded_narrow.specs.Narrow as narrow
use Rattle.bounded_causes.specs.declared.Deed.{Deed}
use Rattle.bounded_causes.specs.declared.Watches.{Watches}
use Rattle.bounded_causes.specs.declared.Causes.{Causes}
use Rattle.bounded_causes.specs.Causes as causes
use Rattle.bounded_causes.specs.Causes.{stand_of, goes_back_of, claims_tail, claims_head, deed_of, others_hold, named_of}

-- ---- faces

-- What a public face answers, of the machine M that it keeps and the answers D and R that it gives.
pub record Face (M D R : Type 0) : Type 0 where
  pub refusal : D → ℕ
  pub left : D → M
  pub refusal_in : R → ℕ
  pub place_in : R → ℕ
  pub left_in : R → M
  pub ran : ℕ → ℕ → M → R
  -- the one machine that it is
  pub wide : M → Machine
  pub blank : M
  pub make : ℕ → ℕ → ℕ → D
  pub step : M → ℕ → ℕ → D
  pub begin : M → ℕ → ℕ → D
  pub act : M → ℕ → ℕ → D
  pub run : M → List ℕ → R
  -- the entries of a schedule, one after another
  pub entries : M → List ℕ → R

-- Crate bounded's, of 64 bits.
abbrev pub sixty_four : Face Machine Did Ran
sixty_four =
    record {
      refusal = λ d. d.refusal;
      left = λ d. d.machine;
      refusal_in = λ r. r.refusal;
      place_in = λ r. r.place;
      left_in = λ r. r.machine;
      ran = ran;
      wide = λ m. m;
      blank = blank;
      make = bounded.make_of;
      step = bounded.step_of;
      begin = bounded.begin_step_of;
      act = bounded.act_step_of;
      run = run_of;
      entries = λ m s. run_from m 0 s;
    }

-- Crate bounded_narrow's, of sixteen.
abbrev pub sixteen : Face widths.Machine widths_did.Did widths_ran.Ran
sixteen =
    record {
      refusal = λ d. d.refusal;
      left = λ d. d.machine;
      refusal_in = λ r. r.refusal;
      place_in = λ r. r.place;
      left_in = λ r. r.machine;
      ran = λ number place m. record { refusal = number; place = place; machine = m };
      wide = widened;
      blank = narrowed blank;
      make = narrow.make_of;
      step = narrow.step_of;
      begin = narrow.begin_step_of;
      act = narrow.act_step_of;
      run = narrow.run_of;
      entries = λ m s. narrowed_ran (run_at Sixteen (widened m) 0 s);
    }

-- ---- "Eleven ways to be turned away": the grounds of refusal of an entry on a machine that is not broken, in document 01's order

-- Codes 0 to 7 begin a call, 8 and 9 act.
abbrev pub begins : ℕ → Bool
begins first = ltb (first % 16) 8

-- 9: a code of 10 to 15, or an item that is not 0 with a code above 1.
abbrev pub unreadable : ℕ → ℕ → Bool
unreadable first second = cond (stray_of (first % 16) second) true (not (ltb (first % 16) 10))

-- 3: worker number not below the count.
abbrev pub stranger : Machine → ℕ → Bool
stranger m first = not (ltb (first / 16) m.count)

abbrev pub busy_in : Machine → ℕ → Bool
busy_in m first = (view_of (place_of m.workers (first / 16))).busy

-- 7: the meter at its last number or above. 8: code 9 where the next action is no weak exchange.
abbrev pub spent_in : Machine → Bool
spent_in m = not (ltb m.meter meter_most)

abbrev pub strong_in : Machine → ℕ → Bool
strong_in m first = cond (eqb (first % 16) 9) (not (view_of (place_of m.workers (first / 16))).weak) false

-- 9, 3, then begin 4; act 5, 7, 8.
abbrev pub begin_grounds : Machine → ℕ → List Ground
begin_grounds m first = on 3 (stranger m first) ∷ on 4 (busy_in m first) ∷ []

abbrev pub act_grounds : Machine → ℕ → List Ground
act_grounds m first = on 3 (stranger m first) ∷ on 5 (not (busy_in m first)) ∷ on 7 (spent_in m) ∷ on 8 (strong_in m first) ∷ []

abbrev pub entry_grounds : Machine → ℕ → ℕ → List Ground
entry_grounds m first second = on 9 (unreadable first second) ∷ cond (begins first) (begin_grounds m first) (act_grounds m first)

-- Which answers meet the promise of each function of a face.
pub record Promises (M D R : Type 0) : Type 1 where
  pub make : ℕ → ℕ → ℕ → D → Type 0
  pub step : M → ℕ → ℕ → D → Type 0
  pub begin : M → ℕ → ℕ → D → Type 0
  pub act : M → ℕ → ℕ → D → Type 0
  pub run : M → List ℕ → R → Type 0
  -- the answer, and the buffer after it
  pub contents : M → List ℕ → Result ℕ ℕ → List ℕ → Type 0
  pub capacity : M → Result ℕ ℕ → Type 0
  pub broken : M → Bool → Type 0

-- Those that the functions of the face make.
abbrev pub promises_of : {M D R : Type 0} → Face M D R → Promises M D R
promises_of f = record {
  make = λ capacity workers edition x. x ≡ f.make capacity workers edition;
  step = λ m first second x. x ≡ f.step m first second;
  begin = λ m first second x. x ≡ f.begin m first second;
  act = λ m first second x. x ≡ f.act m first second;
  run = λ m s x. x ≡ f.run m s;
  contents = λ m before x a. (x ≡ told (contents_refusal (f.wide m) (length before)) (count_in (f.wide m))) × (a ≡ written (f.wide m) before);
  capacity = λ m x. x ≡ capacity_of (f.wide m);
  broken = λ m x. x ≡ broken_of (f.wide m);
}

-- ---- definitions and schedules

-- What a definition of the machine says: what an entry makes of a machine, what the entries of a schedule make of it up to the
-- first refusal, and their acts, oldest first. The demands are said of any definition, so that crate bounded_slips can say them of
-- one with a row changed; they are met by document 01's.
pub record Definition : Type 0 where
  -- how wide its words are
  pub width : Width
  -- how many records its machines have
  pub records : ℕ
  pub turn : Machine → ℕ → ℕ → Did
  pub run : Machine → ℕ → List ℕ → Ran
  pub history : Machine → List ℕ → List Event

-- By a table of what an act does at each place; the table of each width is `act_of`, and document 01's is that of 64 bits. Document 01's machine has 16 records;
-- one whose records are lent has as many as are lent (document 02, item 11).
abbrev pub by_table_with : ℕ → Width → Table → Definition
by_table_with records bits table =
    record { width = bits; records = records; turn = turn_of_by table; run = run_with (turn_of_by table); history = history_with bits (turn_of_by table) }

abbrev pub by_table : Width → Table → Definition
by_table = by_table_with workers_most

abbrev pub with_records : ℕ → Width → Definition
with_records records bits = by_table_with records bits (act_of bits)

abbrev pub of_width : Width → Definition
of_width = with_records workers_most

abbrev pub document01 : Definition
document01 = of_width SixtyFour

-- Every capacity, number of workers and edition that making accepts, where there are so many records.
pub record AllowedWith (records capacity workers edition : ℕ) : Type 0 where
  pub slot_some : 0 < capacity
  pub slot_most : capacity ≤ slots_most
  pub worker_some : 0 < workers
  pub worker_most : workers ≤ records
  pub edition_some : 0 < edition
  pub edition_most : edition ≤ editions_most

abbrev pub Allowed : ℕ → ℕ → ℕ → Type 0
Allowed = AllowedWith workers_most

-- What a schedule makes of a fresh machine, and its acts.
abbrev pub machine_after : Definition → ℕ → ℕ → ℕ → List ℕ → Machine
machine_after d capacity workers edition s = (d.run (fresh_with d.records capacity workers edition) 0 s).machine

abbrev pub acts_of : Definition → ℕ → ℕ → ℕ → List ℕ → List Event
acts_of d capacity workers edition s = d.history (fresh_with d.records capacity workers edition) s

-- The entries of a schedule that were run: those before the refused one; none where one can't be read.
abbrev pub ran_of : Option ℕ → ℕ → List ℕ → List ℕ
ran_of None place s = take (2 * place) s
ran_of (Some at) place s = []

-- An entry, unless it was refused.
abbrev pub entry_unless : ℕ → ℕ → ℕ → List ℕ
entry_unless refusal first second = cond (eqb refusal 0) (first ∷ second ∷ []) []

-- What a host asks of a face: an entry, by one of the three functions that take one, or a schedule. What it leaves, and the entries of it that were accepted.
pub data Asking : Type 0 where
  by_step : ℕ → ℕ → Asking
  by_begin : ℕ → ℕ → Asking
  by_act : ℕ → ℕ → Asking
  by_run : List ℕ → Asking

module _ {M D R : Type 0} (f : Face M D R) where
  abbrev pub left_by : M → Asking → M
  left_by m (by_step first second) = f.left (f.step m first second)
  left_by m (by_begin first second) = f.left (f.begin m first second)
  left_by m (by_act first second) = f.left (f.act m first second)
  left_by m (by_run s) = f.left_in (f.run m s)

  abbrev pub taken_by : M → Asking → List ℕ
  taken_by m (by_step first second) = entry_unless (f.refusal (f.step m first second)) first second
  taken_by m (by_begin first second) = entry_unless (f.refusal (f.begin m first second)) first second
  taken_by m (by_act first second) = entry_unless (f.refusal (f.act m first second)) first second
  taken_by m (by_run s) = ran_of (search_by entry_of 0 s) (f.place_in (f.run m s)) s

  -- One after another, each on what the last one left.
  unfoldable pub left_by_all : M → List Asking → M
  left_by_all m [] = m
  left_by_all m (y ∷ rest) = left_by_all (left_by m y) rest

  unfoldable pub taken_by_all : M → List Asking → List ℕ
  taken_by_all m [] = []
  taken_by_all m (y ∷ rest) = taken_by m y ++ taken_by_all (left_by m y) rest

-- A number of this list.
unfoldable pub has : List ℕ → ℕ → Bool
has [] n = false
has (x ∷ l) n = cond (eqb n x) true (has l n)

-- An act of worker w that is accepted takes the machine m to the machine next.
pub record Acts (d : Definition) (m : Machine) (w : ℕ) (next : Machine) : Type 0 where
  pub first : ℕ
  pub second : ℕ
  pub lose : Bool
  pub asks : entry_of first second ≡ Asks w (Act lose)
  pub done : d.turn m first second ≡ accepted next

-- The entries of so many acts of one worker.
unfoldable pub acts : ℕ → ℕ → List ℕ
acts worker zero = []
acts worker (suc n) = (16 * worker + 8) ∷ 0 ∷ acts worker n

-- Three machines of one slot and one worker: fresh, with a push begun, and with that item in.
module _ {M D R : Type 0} (f : Face M D R) where
  abbrev pub fresh_in : M
  fresh_in = f.left (f.make 1 1 1)

  abbrev pub pushing_in : M
  pushing_in = f.left (f.step fresh_in 0 5)

  abbrev pub stocked_in : M
  stocked_in = f.left_in (f.run fresh_in (0 ∷ 5 ∷ acts 0 5))

-- The same machine at the meter's end.
abbrev pub at_the_end : Machine → Machine
at_the_end m = machine_of (fixed_on m.ring) (ends_on m.ring) m.ring.slots m.workers m.count meter_most

-- ---- hands and places

-- In hand: from a won exchange until that worker's stamp store; the slot is the one at the index of the word.
pub data InHand : Place → Stamp → Type 0 where
  hand_p4 : {t : Stamp} {x : ℕ} → InHand (P4 t x) t
  hand_p5 : {t : Stamp} → InHand (P5 t) t
  hand_f7 : {t : Stamp} {x : ℕ} → InHand (F7 t x) t
  hand_f8 : {t : Stamp} {x : ℕ} → InHand (F8 t x) t
  hand_f9 : {t : Stamp} {old : ℕ} → InHand (F9 t old) t
  hand_o4 : {h : Stamp} → InHand (O4 h) h
  hand_o5 : {h : Stamp} {v : ℕ} → InHand (O5 h v) h

-- The next act writes the claim's item into its slot.
pub data Writes : Place → ℕ → Type 0 where
  write_p4 : {t : Stamp} {x : ℕ} → Writes (P4 t x) x
  write_f8 : {t : Stamp} {x : ℕ} → Writes (F8 t x) x

-- The next act reads a value out of the slot at the index of the word.
pub data Reads : Place → Stamp → Type 0 where
  read_o4 : {h : Stamp} → Reads (O4 h) h
  read_f8 : {t : Stamp} {x : ℕ} → Reads (F8 t x) t

-- Handed out: answered as Popped or Displaced.
pub data HandsOut : Place → ℕ → Type 0 where
  popped : {v : ℕ} → HandsOut (Idle (Popped v)) v
  displaced : {v : ℕ} → HandsOut (Idle (Displaced v)) v

-- "True is said of the words at that moment."
abbrev pub Truth : Width → Fixed → Ends → Answer → Type 0
Truth bits f e Nothing = Unit {0}
Truth bits f e Pushed = Unit {0}
Truth bits f e (Full x) = lap_behind bits f e.head (unmarked_of f e.tail) ≡ true
Truth bits f e (Closed x) = marked_of f e.tail ≡ true
Truth bits f e (Displaced v) = Unit {0}
Truth bits f e (Popped v) = Unit {0}
Truth bits f e Empty = (marked_of f e.tail ≡ false) × (e.tail ≡ e.head)
Truth bits f e PopClosed = (marked_of f e.tail ≡ true) × (unmarked_of f e.tail ≡ e.head)
Truth bits f e (Len k) = Unit {0}
Truth bits f e Yes = Unit {0}
Truth bits f e No = Unit {0}

-- ---- claims of a history

-- The item that a push or force_push under way has in its record, up to the write.
abbrev pub item_at : Place → List ℕ
item_at (Idle a) = []
item_at (P1 k x) = x ∷ []
item_at (P2 k t x) = x ∷ []
item_at (P3 k t x) = x ∷ []
item_at (P4 t x) = x ∷ []
item_at (P5 t) = []
item_at (P6 t x) = x ∷ []
item_at (F6 t x) = x ∷ []
item_at (F7 t x) = x ∷ []
item_at (F8 t x) = x ∷ []
item_at (F9 t old) = []
item_at O1 = []
item_at (O2 h) = []
item_at (O3 h) = []
item_at (O4 h) = []
item_at (O5 h v) = []
item_at (O6 h) = []
item_at Len1 = []
item_at (Len2 t) = []
item_at (Len3 t h) = []
item_at Empty1 = []
item_at (Empty2 h) = []
item_at Full1 = []
item_at (Full2 t) = []
item_at Close1 = []
item_at IsClosed1 = []

-- The item of a tail claim: a won P3 goes to P4, and F7 to F8.
abbrev pub item_in : Place → List ℕ
item_in p = cond (claims_tail (moved_of p)) (item_at p) []

abbrev pub tail_by : Moved → ℕ → List ℕ
tail_by Neither w = []
tail_by Tail w = w ∷ []
tail_by Head w = []

abbrev pub head_by : Moved → ℕ → List ℕ
head_by Neither w = []
head_by Tail w = []
head_by Head w = w ∷ []

-- Of the tail claims in order, from number 0: their items, and their workers. Of the head claims: their workers.
unfoldable pub items_of : List Event → List ℕ
items_of [] = []
items_of (e ∷ h) = item_in e.after ++ items_of h

unfoldable pub tailers_of : List Event → List ℕ
tailers_of [] = []
tailers_of (e ∷ h) = tail_by (moved_of e.after) e.worker ++ tailers_of h

unfoldable pub takers_of : List Event → List ℕ
takers_of [] = []
takers_of (e ∷ h) = head_by (moved_of e.after) e.worker ++ takers_of h

-- The latest claim of worker w, among claims with these workers, has the number k.
pub record LatestIn (by : List ℕ) (w k : ℕ) : Type 0 where
  pub made : k < length by
  pub its : get_or by k 0 ≡ w
  pub last : (n : ℕ) → k < n → n < length by → get_or by n 0 ≢ w

-- Tail claim number k was made, of the item v.
pub record ItemIn (h : List Event) (k v : ℕ) : Type 0 where
  pub made : k < length (items_of h)
  pub is : get_or (items_of h) k 0 ≡ v

-- Tail claims, head claims and values read, none before the first act.
abbrev pub tally : List Event → Tally
tally h = tally_of h untallied

-- The item v of tail claim number k was written: at P4 or F8, by the worker whose latest tail claim that was.
pub record WrittenIn (h : List Event) (k v : ℕ) : Type 0 where
  pub earlier : List Event
  pub act : Event
  pub later : List Event
  pub is : h ≡ earlier ++ act ∷ later
  pub claim : LatestIn (tailers_of earlier) act.worker k
  pub writes : Writes act.before v

-- Worker w has answered nothing in these acts.
abbrev pub Unanswered : ℕ → List Event → Type 0
Unanswered w [] = Unit {0}
Unanswered w (e ∷ h) = (e.worker ≡ w → (view_of e.after).busy ≡ true) × Unanswered w h

-- Head claim number k was made by w, in the call that it is in.
pub record CallClaim (h : List Event) (w k : ℕ) : Type 0 where
  pub earlier : List Event
  pub act : Event
  pub later : List Event
  pub is : h ≡ earlier ++ act ∷ later
  pub by : act.worker ≡ w
  pub claims : moved_of act.after ≡ Head
  pub number : (tally earlier).head.0 ≡ k
  pub same_call : Unanswered w later

-- The items of the claims not yet taken.
abbrev pub waiting : List Event → List ℕ
waiting h = drop (tally h).head.0 (items_of h)

-- ---- stock

abbrev pub stock : List Event → ℕ
stock h = stock_of (tally h)

-- What is counted of these acts where each of them is counted on so, none before the first.
unfoldable pub tallied_from : (Tally → Place → Place → Tally) → Tally → List Event → Tally
tallied_from count t [] = t
tallied_from count t (e ∷ h) = tallied_from count (count t e.before e.after) h

abbrev pub tallied_by : (Tally → Place → Place → Tally) → List Event → Tally
tallied_by count h = tallied_from count untallied h

-- How many of them read a value out.
unfoldable pub reads_in : List Event → ℕ
reads_in [] = 0
reads_in (e ∷ h) = cond (reads_at e.before) 1 0 + reads_in h

-- A head claim is made whose value is still to be read out: at O4, F7 and F8.
abbrev pub unread : Place → Bool
unread p = cond (claims_head (moved_of p)) true (reads_at p)

-- How many of these workers stand there.
unfoldable pub unread_by : List Worker → ℕ
unread_by [] = 0
unread_by (w ∷ others) = cond (unread w.place) 1 0 + unread_by others

abbrev pub lesser : ℕ → ℕ → ℕ
lesser a b = cond (leb a b) a b

-- ---- lost exchanges

-- The act at this place is an exchange: the word of the end that it finds, and the word that it expects there.
pub data Exchanges (bits : Width) (f : Fixed) (e : Ends) : Place → Stamp → Stamp → Type 0 where
  exchange_p3 : {k : Kind} {t : Stamp} {x : ℕ} → Exchanges bits f e (P3 k t x) e.tail t
  exchange_f6 : {t : Stamp} {x : ℕ} → Exchanges bits f e (F6 t x) e.head (minus bits t f.lap)
  exchange_o3 : {h : Stamp} → Exchanges bits f e (O3 h) e.head h

-- Of one kind, a worker's lost exchanges: in its call under way, and in its last that has ended.
pub record Lost : Type 0 where
  pub present : ℕ
  pub last : ℕ

-- With one act more: what it lost is of the call under way, and an act that answers ends that call.
abbrev pub lost_with : (Loss → ℕ) → ℕ → Lost → Event → Lost
lost_with kind w n e =
    cond (eqb e.worker w)
    (cond (view_of e.after).busy
    (record { present = n.present + kind e.loss; last = n.last })
    (record { present = 0; last = n.present + kind e.loss }))
    n

unfoldable pub lost_from : (Loss → ℕ) → ℕ → Lost → List Event → Lost
lost_from kind w n [] = n
lost_from kind w n (e ∷ h) = lost_from kind w (lost_with kind w n e) h

abbrev pub lost_by : (Loss → ℕ) → ℕ → List Event → Lost
lost_by kind w h = lost_from kind w (record { present = 0; last = 0 }) h

-- Worker w's lost exchanges of one kind in its present call, or its last if it is idle.
abbrev pub lost_in : (Loss → ℕ) → Machine → ℕ → List Event → ℕ
lost_in kind m w h = cond (view_of (place_of m.workers w)).busy (lost_by kind w h).present (lost_by kind w h).last

-- The machine with all counts of losses struck out.
unfoldable pub struck : Machine → Machine
struck m =
    machine_of (fixed_on m.ring) (ends_on m.ring) m.ring.slots (map (λ (r : Worker). beginner r.place) m.workers) m.count m.meter

-- ---- a plain queue

-- A run of a plain queue: a tail claim puts its item at the end, a head claim takes the front, no other act changes it.
pub data Fifo : List Event → List ℕ → Type 0 where
  start : Fifo [] []
  enqueue : (h : List Event) (q : List ℕ) (e : Event) (x : ℕ) → Fifo h q → item_in e.after ≡ x ∷ [] → Fifo (h ++ e ∷ []) (q ++ x ∷ [])
  dequeue : (h : List Event) (q : List ℕ) (e : Event) (x : ℕ) → Fifo h (x ∷ q) → moved_of e.after ≡ Head → Fifo (h ++ e ∷ []) q
  rest : (h : List Event) (q : List ℕ) (e : Event) → Fifo h q → moved_of e.after ≡ Neither → Fifo (h ++ e ∷ []) q

-- ---- words

-- The word of claim number k, where nothing wraps, and of this width.
abbrev pub plain_word : Fixed → ℕ → ℕ
plain_word f k = k / f.capacity * f.lap + k % f.capacity

abbrev pub claim_word : Width → Fixed → ℕ → ℕ
claim_word bits f k = plain_word f k % width_of bits

-- Head, tail and every stamp are words of claims; a slot's claim is no more than a capacity from the ends.
pub record Words (bits : Width) (m : Machine) (h : List Event) : Type 0 where
  pub head : m.ring.head.0 ≡ claim_word bits (fixed_on m.ring) (tally h).head.0
  pub tail : (unmarked_of (fixed_on m.ring) m.ring.tail).0 ≡ claim_word bits (fixed_on m.ring) (tally h).tail.0
  pub stamps : (i : ℕ) → i < m.ring.capacity
      → (k : ℕ) × (full : Bool) × ((get_or m.ring.slots i (slot 0 0)).stamp.0 ≡ claim_word bits (fixed_on m.ring) k + cond full 1 0)
      × (k % m.ring.capacity ≡ i) × (k ≤ (tally h).tail.0 + m.ring.capacity) × ((tally h).head.0 ≤ k + m.ring.capacity)

-- They are the words where nothing wraps, and two laps more would still not wrap.
pub record Plain (m : Machine) (h : List Event) : Type 0 where
  pub head : m.ring.head.0 ≡ plain_word (fixed_on m.ring) (tally h).head.0
  pub tail : (unmarked_of (fixed_on m.ring) m.ring.tail).0 ≡ plain_word (fixed_on m.ring) (tally h).tail.0
  pub stamps : (i : ℕ) → i < m.ring.capacity
      → (k : ℕ) × (full : Bool) × ((get_or m.ring.slots i (slot 0 0)).stamp.0 ≡ plain_word (fixed_on m.ring) k + cond full 1 0)
      × (k % m.ring.capacity ≡ i) × (k ≤ (tally h).tail.0 + m.ring.capacity)
  pub room : plain_word (fixed_on m.ring) ((tally h).tail.0 + m.ring.capacity) + 2 * m.ring.lap < wide

-- ---- the window (document 02, item 14)

-- What a worker that comes to a place holds of the ends: no word; one that the act just gave it, by a load or an exchange that found it; or one from
-- before. (len loads head while it holds a tail, which is the older.)
pub data Holding : Type 0 where
  NoWord NewWord OldWord : Holding

-- The first load or exchange that finds a word leads to the second place of a call.
abbrev pub holding_at : Place → Holding
holding_at p = cond (ltb (stand_of p).far 2) NoWord (cond (eqb (stand_of p).far 2) NewWord OldWord)

abbrev pub holds : Holding → Bool
holds NoWord = false
holds NewWord = true
holds OldWord = true

abbrev pub is_new : Holding → Bool
is_new NoWord = false
is_new NewWord = true
is_new OldWord = false

-- The act gave worker w a word of an end.
abbrev pub gives_to : ℕ → Event → Bool
gives_to w e = cond (eqb e.worker w) (is_new (holding_at e.after)) false

-- The acts since the one that gave worker w the word that it holds.
unfoldable pub since_from : ℕ → List Event → List Event → List Event
since_from w acts [] = acts
since_from w acts (e ∷ h) = since_from w (cond (gives_to w e) [] (acts ++ e ∷ [])) h

abbrev pub since : ℕ → List Event → List Event
since w h = since_from w [] h

-- "A turn is capacity × 65,536 / lap claims."
abbrev pub turn_length : Width → Fixed → ℕ
turn_length bits f = f.capacity * width_of bits / f.lap

-- "a turn less two capacities"
abbrev pub window_length : Width → Fixed → ℕ
window_length bits f = turn_length bits f - 2 * f.capacity

-- A turn less one capacity: the widest that does.
abbrev pub widest_length : Width → Fixed → ℕ
widest_length bits f = turn_length bits f - f.capacity

-- "since the load or exchange that gave any word of an end a busy worker still holds, fewer claims were made at either end than" so many
abbrev pub InWindowOf : (Width → Fixed → ℕ) → Width → Machine → List Event → Type 0
InWindowOf many bits m h =
    (w : ℕ) → holds (holding_at (place_of m.workers w)) ≡ true
    → ((tally (since w h)).tail.0 < many bits (fixed_on m.ring)) × ((tally (since w h)).head.0 < many bits (fixed_on m.ring))

-- Each beginning of these entries leaves a machine in the window; h are the acts before them.
abbrev pub KeepsWindowOf : (Width → Fixed → ℕ) → Definition → Machine → List Event → List ℕ → Type 0
KeepsWindowOf many d m h entries =
    (before after : List ℕ) → entries ≡ before ++ after → InWindowOf many d.width (d.run m 0 before).machine (h ++ d.history m before)

-- Document 02's window, and the widest.
abbrev pub InWindow : Width → Machine → List Event → Type 0
InWindow = InWindowOf window_length

abbrev pub KeepsWindow : Definition → Machine → List Event → List ℕ → Type 0
KeepsWindow = KeepsWindowOf window_length

abbrev pub InWidestWindow : Width → Machine → List Event → Type 0
InWidestWindow = InWindowOf widest_length

abbrev pub KeepsWidestWindow : Definition → Machine → List Event → List ℕ → Type 0
KeepsWidestWindow = KeepsWindowOf widest_length

-- What a host can see to: each word is dropped before so many acts, its own and others', were done since the act that gave it; so that a worker which holds one got it fewer acts ago.
abbrev pub Prompt : (Width → Fixed → ℕ) → Width → Machine → List Event → Type 0
Prompt many bits m h = (w : ℕ) → holds (holding_at (place_of m.workers w)) ≡ true → length (since w h) < many bits (fixed_on m.ring)

abbrev pub KeepsPrompt : (Width → Fixed → ℕ) → Definition → Machine → List Event → List ℕ → Type 0
KeepsPrompt many d m h entries =
    (before after : List ℕ) → entries ≡ before ++ after → Prompt many d.width (d.run m 0 before).machine (h ++ d.history m before)

-- Worker 0 pushes and pops, so many times.
unfoldable pub rounds : ℕ → List ℕ
rounds zero = []
rounds (suc n) = 0 ∷ 7 ∷ acts 0 5 ++ 2 ∷ 0 ∷ acts 0 5 ++ rounds n

-- Capacity 1: while worker 0's pop has the slot in hand, and head is past it, worker 1's push loads tail and finds the stamp of a full ring; then worker 0 goes on for a turn less one.
unfoldable pub sleeping_push : List ℕ
sleeping_push = 0 ∷ 7 ∷ acts 0 5 ++ 2 ∷ 0 ∷ acts 0 3 ++ 16 ∷ 9 ∷ acts 1 2 ++ acts 0 2 ++ rounds 16383

-- Capacity 1: worker 1's pop loads head and finds the stamp of an empty ring; worker 0 goes on for a turn less one, pushes and closes; worker 1 loads tail; worker 0 pops, up to its claim.
unfoldable pub sleeping_pop : List ℕ
sleeping_pop = 18 ∷ 0 ∷ acts 1 2 ++ (rounds 16383 ++ (0 ∷ 7 ∷ acts 0 5 ++ 6 ∷ 0 ∷ acts 0 1 ++ acts 1 1 ++ 2 ∷ 0 ∷ acts 0 3))

-- A machine with head, tail and stamps cut to so many numbers, each to what is left of it modulo that many: to 65,536 it is what `as u16` makes of them.
abbrev pub cut_word : ℕ → Stamp → Stamp
cut_word many w = stamp (w.0 % many)

unfoldable pub cut_to : ℕ → Machine → Machine
cut_to many m =
    machine_of (fixed_on m.ring) (record { head = cut_word many m.ring.head; tail = cut_word many m.ring.tail })
    (map (λ (s : Slot). record { stamp = cut_word many s.stamp; value = s.value }) m.ring.slots) m.workers m.count m.meter

-- the value of the slot at the index of a word
abbrev pub value_at : Machine → Stamp → ℕ
value_at m t = (get_or m.ring.slots (index_of (fixed_on m.ring) t) (slot 0 0)).value

-- ---- calls and their answers

-- What a plain queue answers: closed or not, of this capacity, with these items waiting.
abbrev pub queue_answer : Call → Bool → ℕ → List ℕ → Answer
queue_answer (call.Push x) closed capacity q = cond closed (Closed x) (cond (eqb (length q) capacity) (Full x) Pushed)
queue_answer (call.ForcePush x) closed capacity [] = cond closed (Closed x) Pushed
queue_answer (call.ForcePush x) closed capacity (v ∷ q) = cond closed (Closed x) (cond (eqb (length (v ∷ q)) capacity) (Displaced v) Pushed)
queue_answer call.Pop closed capacity [] = cond closed PopClosed Empty
queue_answer call.Pop closed capacity (v ∷ q) = Popped v
queue_answer call.Len closed capacity q = Len (length q)
queue_answer call.IsEmpty closed capacity q = yes_no (eqb (length q) 0)
queue_answer call.IsFull closed capacity q = yes_no (eqb (length q) capacity)
queue_answer call.Close closed capacity q = cond closed No Yes
queue_answer call.IsClosed closed capacity q = yes_no closed

-- Worker w did none of these acts.
abbrev pub Unmoved : ℕ → List Event → Type 0
Unmoved w [] = Unit {0}
Unmoved w (e ∷ h) = (e.worker ≢ w) × Unmoved w h

-- A call of `len` by worker w that answers n: its head load is w's act on the machine after s; in the entries `rest` it does not
-- act; its next act answers.
pub record LenAnswers (d : Definition) (capacity workers edition : ℕ) (s : List ℕ) (w n : ℕ) : Type 0 where
  pub tail : Stamp
  pub loads : place_of (machine_after d capacity workers edition s).workers w ≡ Len2 tail
  pub loaded : Machine
  pub load : Acts d (machine_after d capacity workers edition s) w loaded
  pub rest : List ℕ
  pub still : Unmoved w (d.history loaded rest)
  pub answered : Machine
  pub answer : Acts d (d.run loaded 0 rest).machine w answered
  pub is : place_of answered.workers w ≡ Idle (Len n)

-- ---- waiting

-- Most acts to the end, from each place: push at most 6, force_push 7, pop 6, len 5, is_empty 2, is_full 2, close 1,
-- is_closed 1; in hand P4 2, F7 3, O4 2. A word that is out of date costs the acts up to the next load.
abbrev pub one_more_act : Kind → ℕ
one_more_act Push = 0
one_more_act Force = 1

abbrev pub most_of : Place → ℕ
most_of (Idle a) = 0
most_of (P1 k x) = 5 + one_more_act k
most_of (P2 k t x) = 6 + one_more_act k
most_of (P3 k t x) = 5 + one_more_act k
most_of (P4 t x) = 2
most_of (P5 t) = 1
most_of (P6 t x) = 6
most_of (F6 t x) = 7
most_of (F7 t x) = 3
most_of (F8 t x) = 2
most_of (F9 t old) = 1
most_of O1 = 5
most_of (O2 h) = 6
most_of (O3 h) = 5
most_of (O4 h) = 2
most_of (O5 h v) = 1
most_of (O6 h) = 6
most_of Len1 = 3
most_of (Len2 t) = 5
most_of (Len3 t h) = 4
most_of Empty1 = 2
most_of (Empty2 h) = 1
most_of Full1 = 2
most_of (Full2 t) = 1
most_of Close1 = 1
most_of IsClosed1 = 1

-- What stands in the way: another worker has a slot in hand.
abbrev pub OtherHand : Machine → ℕ → Type 0
OtherHand m w = (v : ℕ) × (v ≢ w) × (t : Stamp) × InHand (place_of m.workers v) t

-- Another worker has slot i in hand.
abbrev pub OtherHandAt : Machine → ℕ → ℕ → Type 0
OtherHandAt m w i = (v : ℕ) × (v ≢ w) × (t : Stamp) × InHand (place_of m.workers v) t × (index_of (fixed_on m.ring) t ≡ i)

-- The machine with these records in place of its own.
abbrev pub lent_others : Machine → List Worker → Machine
lent_others m ys = record { ring = m.ring; workers = ys; count = m.count; meter = m.meter }

-- The slot that the present word of an end points to.
abbrev pub slot_at_end : Fixed → Ends → Moved → List ℕ
slot_at_end f e Neither = []
slot_at_end f e Tail = index_of f e.tail ∷ []
slot_at_end f e Head = index_of f e.head ∷ []

-- The slot that a call needs: in push, force_push and pop, with none in hand, the one at its own end. Every other call needs none.
abbrev pub slot_needed : Fixed → Ends → Place → List ℕ
slot_needed f e p = cond (view_of p).stand.stamps (cond (view_of p).stand.hand [] (slot_at_end f e (view_of p).stand.end)) []

-- A word of tail that is out of date, beside a hand on the slot that it points to: P2, where the stamp is loaded, goes to P6 or F6, and these back to P1.
abbrev pub by_tail : Moved → ℕ
by_tail Neither = 0
by_tail Tail = 1
by_tail Head = 0

abbrev pub round_more : Place → ℕ
round_more p = cond (view_of p).stand.stamps (cond (eqb (view_of p).stand.far 2) (by_tail (view_of p).stand.end) 0) 0

-- Most acts to the end while others have other slots in hand: push at most 7, force_push 8, all other calls as before.
abbrev pub most_beside : Place → ℕ
most_beside p = most_of p + round_more p

-- Entries one after another, refused ones passed over.
unfoldable pub passed : Definition → Machine → List ℕ → Machine
passed d m [] = m
passed d m (first ∷ []) = m
passed d m (first ∷ second ∷ others) = passed d (d.turn m first second).machine others

-- How many of them are acts of w, and accepted.
abbrev pub act_by : ℕ → Entry → ℕ
act_by w Unreadable = 0
act_by w (Asks v (Begin c)) = 0
act_by w (Asks v (Act lose)) = cond (eqb v w) 1 0

unfoldable pub own_acts : Definition → ℕ → Machine → List ℕ → ℕ
own_acts d w m [] = 0
own_acts d w m (first ∷ []) = 0
own_acts d w m (first ∷ second ∷ others) =
    cond (eqb (d.turn m first second).refusal 0) (act_by w (entry_of first second)) 0 + own_acts d w (d.turn m first second).machine others

-- Among these entries worker w's call ends, with so many acts of its own.
pub record LetsGo (d : Definition) (m : Machine) (w : ℕ) (entries : List ℕ) (n : ℕ) : Type 0 where
  pub before : List ℕ
  pub after : List ℕ
  pub split : entries ≡ before ++ after
  pub own : own_acts d w m before ≡ n
  pub answer : Answer
  pub ends : place_of (passed d m before).workers w ≡ Idle answer

-- ---- closing

-- A close that answered yes.
abbrev pub ClosesYes : Event → Type 0
ClosesYes e = (e.before ≡ Close1) × (e.after ≡ Idle Yes)

-- No act among these is a claim.
abbrev pub NoClaims : List Event → Type 0
NoClaims [] = Unit {0}
NoClaims (e ∷ h) = (moved_of e.after ≡ Neither) × NoClaims h

-- A tail claim that follows a close's yes.
pub record ClaimsOn (h : List Event) : Type 0 where
  pub earlier : List Event
  pub close : Event
  pub between : List Event
  pub claim : Event
  pub later : List Event
  pub is : h ≡ earlier ++ close ∷ between ++ claim ∷ later
  pub yes : ClosesYes close
  pub claims : moved_of claim.after ≡ Tail

-- ---- why a call goes back

-- The act goes back to an earlier place of its call.
abbrev pub goes_back_at : Event → Bool
goes_back_at e = goes_back_of (stand_of e.before) (stand_of e.after)

-- The ways back in document 01's tables and in len.
pub data WayBack : Place → Place → Type 0 where
  p2_p1 : {k : Kind} {t : Stamp} {x : ℕ} → WayBack (P2 k t x) (P1 k x)
  p3_p2 : {k : Kind} {t found : Stamp} {x : ℕ} → WayBack (P3 k t x) (P2 k found x)
  p6_p1 : {t : Stamp} {x : ℕ} → WayBack (P6 t x) (P1 Push x)
  f6_p1 : {t : Stamp} {x : ℕ} → WayBack (F6 t x) (P1 Force x)
  o2_o1 : {h : Stamp} → WayBack (O2 h) O1
  o3_o2 : {h found : Stamp} → WayBack (O3 h) (O2 found)
  o6_o1 : {h : Stamp} → WayBack (O6 h) O1
  len3_len1 : {t h : Stamp} → WayBack (Len3 t h) Len1

-- What is kept of all workers, act by act, none before the first (crates/bounded_causes/specs/Causes.antt).
unfoldable pub watches_from : Watches → List Event → Watches
watches_from ws [] = ws
watches_from ws (e ∷ h) = watches_from (named_of ws e.worker e.before e.after e.loss).watches h

abbrev pub watches : List Event → Watches
watches h = watches_from causes.start h

-- The causes that hold of an act after these.
abbrev pub causes_in : List Event → Event → Causes
causes_in earlier e = (named_of (watches earlier) e.worker e.before e.after e.loss).causes

-- One of the four holds.
pub data Caused (c : Causes) : Type 0 where
  by_schedule : c.schedule ≡ true → Caused c
  by_own_end : c.own ≡ true → Caused c
  by_other_end : c.other ≡ true → Caused c
  by_hand : c.hand ≡ true → Caused c

-- After these acts a worker other than w has a slot in hand.
abbrev pub other_hand : ℕ → List Event → Bool
other_hand w h = others_hold (watches h).each w

-- What an act did, as far as causes go: claims, the mark, loads, a slot in hand.
abbrev pub deed : Event → Deed
deed e = deed_of (stand_of e.before) (stand_of e.after) (moved_of e.after)

-- No act of w among these did such.
abbrev pub NoneBy : (Deed → Bool) → ℕ → List Event → Type 0
NoneBy such w [] = Unit {0}
NoneBy such w (e ∷ h) = (e.worker ≡ w → such (deed e) ≡ false) × NoneBy such w h

-- Among these an act did this, and neither it nor a later one is w's that did such.
pub record DoneSince (this such : Deed → Bool) (w : ℕ) (h : List Event) : Type 0 where
  pub earlier : List Event
  pub act : Event
  pub later : List Event
  pub is : h ≡ earlier ++ act ∷ later
  pub so : this (deed act) ≡ true
  pub since : NoneBy such w (act ∷ later)

-- Of w's acts that did such the latest, with what holds of it and of those before it.
pub record LatestBy (such : Deed → Bool) (w : ℕ) (so : List Event → Event → Type 0) (h : List Event) : Type 0 where
  pub earlier : List Event
  pub act : Event
  pub later : List Event
  pub is : h ≡ earlier ++ act ∷ later
  pub by : act.worker ≡ w
  pub did : such (deed act) ≡ true
  pub holds : so earlier act
  pub last : NoneBy such w later

-- It is true exactly where this holds.
abbrev pub Tells : Bool → Type 0 → Type 0
Tells b P = (b ≡ true → P) × (P → b ≡ true)

-- All of these acts are w's, and the schedule made none of its exchanges fail.
abbrev pub Alone : ℕ → List Event → Type 0
Alone w [] = Unit {0}
Alone w (e ∷ h) = (e.worker ≡ w) × (e.loss ≢ BySchedule) × Alone w h

unfoldable pub goings_back : List Event → ℕ
goings_back [] = 0
goings_back (e ∷ h) = cond (goes_back_at e) 1 0 + goings_back h

-- ---- walks (document 02, item 10)

-- A sequence of exactly so many acts from this machine, or ending sooner because all workers are idle and not before; each act, code 8 or 9 of a
-- worker, is accepted where it stands.
abbrev pub Tried : ℕ → Machine → List ℕ → Type 0
Tried = Goes (λ (d : Did). d.refusal) (λ (d : Did). d.machine) turn_of (λ (m : Machine). m.count) (λ (m : Machine). all_idle m.workers)

-- Its acts, bytes of 16 × code + worker, as the entries of a schedule.
unfoldable pub entries_of : List ℕ → List ℕ
entries_of [] = []
entries_of (act ∷ s) = (16 * (act % 16) + act / 16) ∷ 0 ∷ entries_of s
