-- What the statements of request 12 speak of.
use Rattle.std.specs.Prelude.{ℕ, zero, suc, ◌+◌, ◌*◌, ◌/◌, ◌<◌, ◌≤◌, Bool, true, false, cond, List, [], ◌∷◌, ◌++◌, ◌≢◌, ◌≡◌, eqb, get_or, length, drop, replicate}
use Rattle.queue_entries.specs.Limits.{workers_most, meter_most}
use Rattle.queue_entries.specs.declared.Order.TheVariants.{Act}
use Rattle.queue_entries.specs.declared.Entry.TheVariants.{Asks}
use Rattle.unbounded_words.specs.declared.Index.{Index}
use Rattle.unbounded_words.specs.declared.Pointer.{Pointer}
use Rattle.unbounded_words.specs.declared.Pointer.TheVariants.{None, To}
use Rattle.unbounded_words.specs.Words.{Sizes, sizes, index, offset_of, marked_of, number_of}
use Rattle.unbounded_places.specs.declared.Ends.{Ends}
use Rattle.unbounded_places.specs.declared.Block.{Block}
use Rattle.unbounded_places.specs.declared.Answer.{Answer}
use Rattle.unbounded_places.specs.declared.Answer.TheVariants.{Nothing, Pushed, Closed, Popped, Empty, PopClosed, Len, Yes, No}
use Rattle.unbounded_places.specs.declared.Place.{Place}
use Rattle.unbounded_places.specs.declared.Place.TheVariants.{Idle, U1, U2, U3, U4, U5, U6, U7, U8, U9, U10, U11, U12, U13, U14, U15, V1, V2, V3, V4, V5, V6, V7, V8, V9, V10, V11, V12, V13, V14, V15, Len1, Len2, Len3, Empty1, Empty2, Full1, Close1, IsClosed1}
use Rattle.unbounded_places.specs.Places.{view_of}
use Rattle.unbounded_acts.specs.Acts.{act_of, new_block}
use Rattle.unbounded_machine.specs.declared.Machine.{Machine}
use Rattle.unbounded_machine.specs.declared.Did.{Did}
use Rattle.unbounded_machine.specs.declared.Ran.{Ran}
use Rattle.unbounded_machine.specs.declared.Event.{Event}
use Rattle.unbounded_machine.specs.Machine.{slot_at, block_at, fresh_of, place_of, accepted}
use Rattle.unbounded_machine.specs.Turn.{entry_here, Table, begun, turn_with}
use Rattle.unbounded_machine.specs.Run.{run_with}
use Rattle.unbounded_machine.specs.History.{history_with}

-- ---- definitions and schedules

-- What a definition of the machine says, of blocks of any size: what an entry makes of a machine, what the entries of a schedule make of it up
-- to the first refusal, and their acts, oldest first. The statements are said of any, so that crate unbounded_slips can say them of one with a
-- row changed.
pub record Definition : Type 0 where
  pub sizes : Sizes
  pub turn : Machine → ℕ → ℕ → Did
  pub run : Machine → ℕ → List ℕ → Ran
  pub history : Machine → List ℕ → List Event

abbrev pub definition : Sizes → Table → Definition
definition z table =
    record { sizes = z; turn = turn_with z table; run = run_with (turn_with z table); history = history_with (turn_with z table) }

pub record Allowed (workers : ℕ) : Type 0 where
  pub worker_some : 0 < workers
  pub worker_most : workers ≤ workers_most

-- What a schedule makes of a fresh machine, and its acts.
abbrev pub machine_after : Definition → ℕ → List ℕ → Machine
machine_after d workers s = (d.run (fresh_of d.sizes workers) 0 s).machine

abbrev pub acts_of : Definition → ℕ → List ℕ → List Event
acts_of d workers s = d.history (fresh_of d.sizes workers) s

-- An act of worker w that is accepted takes the machine m to the machine next.
pub record Acts (d : Definition) (m : Machine) (w : ℕ) (next : Machine) : Type 0 where
  pub first : ℕ
  pub second : ℕ
  pub lose : Bool
  pub asks : entry_here first second ≡ Asks w (Act lose)
  pub done : d.turn m first second ≡ accepted next

-- An act (code 8) of worker w that no refusal before 23 turns away.
pub record Asking (d : Definition) (m : Machine) (w first second : ℕ) : Type 0 where
  pub asks : entry_here first second ≡ Asks w (Act false)
  pub known : w < m.count
  pub busy : (view_of d.sizes (place_of m.workers w)).busy ≡ true
  pub in_time : m.meter < meter_most

-- The entries of so many acts of one worker.
unfoldable pub acts : ℕ → ℕ → List ℕ
acts worker zero = []
acts worker (suc n) = (16 * worker + 8) ∷ 0 ∷ acts worker n

-- Machines of two workers, of whom the second has begun is_full: fresh; with a push begun; with a push begun at the meter's end; with a push that wants a block where none is free. And machines of
-- one worker: fresh, and with an item in.
abbrev pub fresh_two : Machine
fresh_two = begun (fresh_of sizes 2) 1 Full1

abbrev pub pushing_two : Machine
pushing_two = begun fresh_two 0 (U1 None 5)

abbrev pub spent_two : Machine
spent_two = record { ends = pushing_two.ends; blocks = pushing_two.blocks; slots = pushing_two.slots; workers = pushing_two.workers; count = 2; meter = meter_most }

abbrev pub wanting_two : Machine
wanting_two =
    record { ends = fresh_two.ends; blocks = replicate 64 new_block; slots = fresh_two.slots; workers = (begun fresh_two 0 (U4 None (index 0) 5)).workers; count = 2; meter = 0 }

abbrev pub fresh_one : Machine
fresh_one = fresh_of sizes 1

abbrev pub stocked_one : Machine
stocked_one = machine_after (definition sizes act_of) 1 (0 ∷ 5 ∷ acts 0 8)

-- ---- hands and places

-- In hand. A slot's push is in the hand of the worker that won U7 there, until its WRITE is set (U9 to U13); its pop in the hand of the worker
-- that won V4 there, until its value is read out and, but at the last slot, READ is set (V6 to V12). The slot is that of the position of the word.
pub data Pushing : Place → Index → Type 0 where
  push9 : {n b : Pointer} {t : Index} {x : ℕ} → Pushing (U9 n t b x) t
  push10 : {n b : Pointer} {t : Index} {x : ℕ} → Pushing (U10 n t b x) t
  push11 : {n b : Pointer} {t : Index} {x : ℕ} → Pushing (U11 n t b x) t
  push12 : {n b : Pointer} {t : Index} {x : ℕ} → Pushing (U12 n t b x) t
  push13 : {n b : Pointer} {t : Index} → Pushing (U13 n t b) t

pub data Popping : Place → Index → Type 0 where
  pop6 : {b : Pointer} {h new : Index} → Popping (V6 h b new) h
  pop7 : {b next : Pointer} {h new : Index} → Popping (V7 h b new next) h
  pop8 : {b next : Pointer} {h i : Index} → Popping (V8 h b next i) h
  pop9 : {b : Pointer} {h i : Index} → Popping (V9 h b i) h
  pop10 : {b : Pointer} {h : Index} → Popping (V10 h b) h
  pop11 : {b : Pointer} {h : Index} → Popping (V11 h b) h
  pop12 : {b : Pointer} {h : Index} {v : ℕ} → Popping (V12 h b v) h

-- The next act reads a value out of the slot of block b at the offset of the word.
pub data Reads : Place → Pointer → Index → Type 0 where
  read11 : {b : Pointer} {h : Index} → Reads (V11 h b) b h

-- the value of a slot, and its state
abbrev pub value_at : Sizes → Machine → Pointer → Index → ℕ
value_at z m b w = (slot_at z m.slots (number_of z b) (offset_of z w)).value

abbrev pub state_at : Sizes → Machine → Pointer → Index → ℕ
state_at z m b w = (slot_at z m.slots (number_of z b) (offset_of z w)).state

-- ---- claims of a history, counted on slots

-- What a history reads off a place: the two exchanges that claim; where a won one leads, with push's item; a value handed out.
pub data Sign : Type 0 where
  Plain Exchange7 Exchange4 Pops : Sign
  Pushes : ℕ → Sign
  HandsOut : ℕ → Sign

abbrev pub answered : Answer → Sign
answered Nothing = Plain
answered Pushed = Plain
answered (Closed x) = Plain
answered (Popped v) = HandsOut v
answered Empty = Plain
answered PopClosed = Plain
answered (Len n) = Plain
answered Yes = Plain
answered No = Plain

abbrev pub sign_of : Place → Sign
sign_of (Idle a) = answered a
sign_of (U1 n x) = Plain
sign_of (U2 n t x) = Plain
sign_of (U3 t b x) = Plain
sign_of (U4 n t x) = Plain
sign_of (U5 n t new x) = Plain
sign_of (U6 n t new x) = Plain
sign_of (U7 n t b x) = Exchange7
sign_of (U8 n t x) = Plain
sign_of (U9 n t b x) = Pushes x
sign_of (U10 n t b x) = Plain
sign_of (U11 n t b x) = Plain
sign_of (U12 n t b x) = Pushes x
sign_of (U13 n t b) = Plain
sign_of (U14 n a) = Plain
sign_of (U15 n new x) = Plain
sign_of V1 = Plain
sign_of (V2 h) = Plain
sign_of (V3 h b) = Plain
sign_of (V4 h b new) = Exchange4
sign_of (V5 h) = Plain
sign_of (V6 h b new) = Pops
sign_of (V7 h b new next) = Plain
sign_of (V8 h b next i) = Plain
sign_of (V9 h b i) = Plain
sign_of (V10 h b) = Pops
sign_of (V11 h b) = Plain
sign_of (V12 h b v) = Plain
sign_of (V13 b i v) = Plain
sign_of (V14 b i v) = Plain
sign_of (V15 b v) = Plain
sign_of Len1 = Plain
sign_of (Len2 t) = Plain
sign_of (Len3 t h) = Plain
sign_of Empty1 = Plain
sign_of (Empty2 h) = Plain
sign_of Full1 = Plain
sign_of Close1 = Plain
sign_of IsClosed1 = Plain

abbrev pub item_in : Sign → List ℕ
item_in Plain = []
item_in Exchange7 = []
item_in Exchange4 = []
item_in Pops = []
item_in (Pushes x) = x ∷ []
item_in (HandsOut v) = []

-- The item of an act's tail claim: a won U7, which leads to U9 or U12.
abbrev pub item_by : Sign → Sign → List ℕ
item_by Plain after = []
item_by Exchange7 after = item_in after
item_by Exchange4 after = []
item_by Pops after = []
item_by (Pushes x) after = []
item_by (HandsOut v) after = []

-- An act's head claim: a won V4, which leads to V6 or V10.
abbrev pub pops_to : Sign → Bool
pops_to Plain = false
pops_to Exchange7 = false
pops_to Exchange4 = false
pops_to Pops = true
pops_to (Pushes x) = false
pops_to (HandsOut v) = false

abbrev pub takes_by : Sign → Sign → Bool
takes_by Plain after = false
takes_by Exchange7 after = false
takes_by Exchange4 after = pops_to after
takes_by Pops after = false
takes_by (Pushes x) after = false
takes_by (HandsOut v) after = false

abbrev pub item_of : Event → List ℕ
item_of e = item_by (sign_of e.before) (sign_of e.after)

abbrev pub takes : Event → Bool
takes e = takes_by (sign_of e.before) (sign_of e.after)

-- Of the tail claims in order, from number 0: their items. Of the head claims: their workers.
unfoldable pub items_of : List Event → List ℕ
items_of [] = []
items_of (e ∷ h) = item_of e ++ items_of h

unfoldable pub takers_of : List Event → List ℕ
takers_of [] = []
takers_of (e ∷ h) = cond (takes e) (e.worker ∷ []) [] ++ takers_of h

-- The latest claim of worker w, among claims with these workers, has the number k.
pub record LatestIn (by : List ℕ) (w k : ℕ) : Type 0 where
  pub made : k < length by
  pub its : get_or by k 0 ≡ w
  pub last : (n : ℕ) → k < n → n < length by → get_or by n 0 ≢ w

-- Tail claim number k was made, of the item v.
pub record ItemIn (h : List Event) (k v : ℕ) : Type 0 where
  pub made : k < length (items_of h)
  pub is : get_or (items_of h) k 0 ≡ v

-- The items of the claims not yet taken.
abbrev pub waiting : List Event → List ℕ
waiting h = drop (length (takers_of h)) (items_of h)

-- A run of a plain queue: a tail claim puts its item at the end, a head claim takes the front, no other act changes it.
pub data Fifo : List Event → List ℕ → Type 0 where
  start : Fifo [] []
  enqueue : (h : List Event) (q : List ℕ) (e : Event) (x : ℕ) → Fifo h q → item_of e ≡ x ∷ [] → Fifo (h ++ e ∷ []) (q ++ x ∷ [])
  dequeue : (h : List Event) (q : List ℕ) (e : Event) (x : ℕ) → Fifo h (x ∷ q) → takes e ≡ true → Fifo (h ++ e ∷ []) q
  rest : (h : List Event) (q : List ℕ) (e : Event) → Fifo h q → item_of e ≡ [] → takes e ≡ false → Fifo (h ++ e ∷ []) q

-- ---- blocks taken and freed

-- What an act does with a block of the pool as a whole: it takes one (U3, U4) or frees this one (U14, U15, V15).
pub data Dealing : Type 0 where
  Leaves Takes : Dealing
  Frees : Pointer → Dealing

abbrev pub dealing_of : Place → Dealing
dealing_of (Idle a) = Leaves
dealing_of (U1 n x) = Leaves
dealing_of (U2 n t x) = Leaves
dealing_of (U3 t b x) = Takes
dealing_of (U4 n t x) = Takes
dealing_of (U5 n t new x) = Leaves
dealing_of (U6 n t new x) = Leaves
dealing_of (U7 n t b x) = Leaves
dealing_of (U8 n t x) = Leaves
dealing_of (U9 n t b x) = Leaves
dealing_of (U10 n t b x) = Leaves
dealing_of (U11 n t b x) = Leaves
dealing_of (U12 n t b x) = Leaves
dealing_of (U13 n t b) = Leaves
dealing_of (U14 n a) = Frees n
dealing_of (U15 n new x) = Frees n
dealing_of V1 = Leaves
dealing_of (V2 h) = Leaves
dealing_of (V3 h b) = Leaves
dealing_of (V4 h b new) = Leaves
dealing_of (V5 h) = Leaves
dealing_of (V6 h b new) = Leaves
dealing_of (V7 h b new next) = Leaves
dealing_of (V8 h b next i) = Leaves
dealing_of (V9 h b i) = Leaves
dealing_of (V10 h b) = Leaves
dealing_of (V11 h b) = Leaves
dealing_of (V12 h b v) = Leaves
dealing_of (V13 b i v) = Leaves
dealing_of (V14 b i v) = Leaves
dealing_of (V15 b v) = Frees b
dealing_of Len1 = Leaves
dealing_of (Len2 t) = Leaves
dealing_of (Len3 t h) = Leaves
dealing_of Empty1 = Leaves
dealing_of (Empty2 h) = Leaves
dealing_of Full1 = Leaves
dealing_of Close1 = Leaves
dealing_of IsClosed1 = Leaves

-- The block set aside, or taken to be installed, at the place where a taking leads.
abbrev pub new_of : Place → Pointer
new_of (Idle a) = None
new_of (U1 n x) = None
new_of (U2 n t x) = None
new_of (U3 t b x) = None
new_of (U4 n t x) = n
new_of (U5 n t new x) = new
new_of (U6 n t new x) = None
new_of (U7 n t b x) = n
new_of (U8 n t x) = None
new_of (U9 n t b x) = None
new_of (U10 n t b x) = None
new_of (U11 n t b x) = None
new_of (U12 n t b x) = None
new_of (U13 n t b) = None
new_of (U14 n a) = None
new_of (U15 n new x) = None
new_of V1 = None
new_of (V2 h) = None
new_of (V3 h b) = None
new_of (V4 h b new) = None
new_of (V5 h) = None
new_of (V6 h b new) = None
new_of (V7 h b new next) = None
new_of (V8 h b next i) = None
new_of (V9 h b i) = None
new_of (V10 h b) = None
new_of (V11 h b) = None
new_of (V12 h b v) = None
new_of (V13 b i v) = None
new_of (V14 b i v) = None
new_of (V15 b v) = None
new_of Len1 = None
new_of (Len2 t) = None
new_of (Len3 t h) = None
new_of Empty1 = None
new_of (Empty2 h) = None
new_of Full1 = None
new_of Close1 = None
new_of IsClosed1 = None

abbrev pub is_to : Pointer → ℕ → Bool
is_to None k = false
is_to (To b) k = eqb b k

abbrev pub takes_block : ℕ → Dealing → Place → Bool
takes_block k Leaves after = false
takes_block k Takes after = is_to (new_of after) k
takes_block k (Frees b) after = false

abbrev pub frees_block : Sizes → ℕ → Dealing → Bool
frees_block z k Leaves = false
frees_block z k Takes = false
frees_block z k (Frees b) = eqb (number_of z b) k

-- How often block k was taken, and freed.
unfoldable pub takings_of : ℕ → List Event → ℕ
takings_of k [] = 0
takings_of k (e ∷ h) = cond (takes_block k (dealing_of e.before) e.after) 1 0 + takings_of k h

unfoldable pub freeings_of : Sizes → ℕ → List Event → ℕ
freeings_of z k [] = 0
freeings_of z k (e ∷ h) = cond (frees_block z k (dealing_of e.before)) 1 0 + freeings_of z k h

-- ---- words and answers

-- The position of a word.
abbrev pub position : Index → ℕ
position w = w.0 / 2

-- "True" is said of the words at the load that decided: Empty: mark clear and the same position. Closed in a push: mark set. Closed in a pop:
-- mark set and the same position.
abbrev pub Truth : Ends → Answer → Type 0
Truth e Nothing = Unit {0}
Truth e Pushed = Unit {0}
Truth e (Closed x) = marked_of e.tail ≡ true
Truth e (Popped v) = Unit {0}
Truth e Empty = (marked_of e.tail ≡ false) × (position e.tail ≡ position e.head)
Truth e PopClosed = (marked_of e.tail ≡ true) × (position e.tail ≡ position e.head)
Truth e (Len n) = Unit {0}
Truth e Yes = Unit {0}
Truth e No = Unit {0}

-- Block b is reached from a block by next pointers, so many steps at most.
unfoldable pub chained : ℕ → List Block → Pointer → ℕ → Bool
chained zero l from b = false
chained (suc more) l None b = false
chained (suc more) l (To k) b = cond (eqb k b) true (chained more l (block_at l k).next b)
