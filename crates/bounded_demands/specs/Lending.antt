-- What is said of a ring and records that are lent (document 02, item 11).
-- The statements are over a definition of the lent face (`Lending`), so that they can be said of one with a slip.
use Rattle.std.specs.Prelude.{ℕ, ◌-◌, Bool, cond, ◌≡◌, List, [], ◌∷◌, ◌++◌, eqb, length, Result, Ok, Err}
use Rattle.queue_entries.specs.Limits.{workers_most, meter_most}
use Rattle.queue_entries.specs.Entries.{entry_of}
use Rattle.queue_entries.specs.Schedules.{search_by, run_by}
use Rattle.bounded_words.specs.declared.Width.TheVariants.{SixtyFour}
use Rattle.bounded_places.specs.declared.Worker.{Worker}
use Rattle.bounded_machine.specs.declared.Machine.{Machine}
use Rattle.bounded_machine.specs.declared.Did.{Did}
use Rattle.bounded_machine.specs.declared.Ran.{Ran}
use Rattle.bounded_machine.specs.declared.Event.{Event}
use Rattle.bounded_machine.specs.Machine.{machine_of, idler, idlers, fixed_on, ends_on}
use Rattle.bounded_machine.specs.History.{events_of}
use Rattle.bounded_orders.specs.declared.Metered.{Metered}
use Rattle.bounded_orders.specs.Orders.{Filled, report}
use Rattle.bounded_lent.specs.Lent.{held, broken_lent, Lent, lent, step_lent, Gone, gone, run_lent, make_lent, capacity_lent, contents_lent}
use Rattle.bounded_demands.specs.Notions.{ran_of, entry_unless, acts}

-- What each function of the lent face answers, with the ring, the records and the buffer as they are then.
pub record Lending : Type 0 where
  pub broken : Metered → List Worker → Bool
  pub make : List Worker → ℕ → ℕ → Lent
  pub step : Metered → List Worker → ℕ → ℕ → Lent
  pub run : Metered → List Worker → List ℕ → Gone
  pub capacity : Metered → List Worker → Result ℕ ℕ
  pub contents : Metered → List Worker → List ℕ → Filled

abbrev pub item11 : Lending
item11 = record { broken = broken_lent; make = make_lent; step = step_lent; run = run_lent; capacity = capacity_lent; contents = contents_lent }

-- Which answers meet the promise of each function.
pub record Promise : Type 1 where
  pub broken : Metered → List Worker → Bool → Type 0
  pub make : List Worker → ℕ → ℕ → Lent → Type 0
  pub step : Metered → List Worker → ℕ → ℕ → Lent → Type 0
  pub run : Metered → List Worker → List ℕ → Gone → Type 0
  pub capacity : Metered → List Worker → Result ℕ ℕ → Type 0
  pub contents : Metered → List Worker → List ℕ → Filled → Type 0

-- The promises that the functions of crate bounded_lent make.
abbrev pub promised : Lending → Promise
promised d = record {
  broken = λ l ys x. x ≡ d.broken l ys;
  make = λ ys capacity edition x. x ≡ d.make ys capacity edition;
  step = λ l ys first second x. x ≡ d.step l ys first second;
  run = λ l ys s x. x ≡ d.run l ys s;
  capacity = λ l ys x. x ≡ d.capacity l ys;
  contents = λ l ys buffer x. x ≡ d.contents l ys buffer;
}

-- The machine that holds its records: these, and idle ones beside them.
abbrev pub holding : Metered → List Worker → Machine
holding l ys = machine_of (fixed_on l.ring) (ends_on l.ring) l.ring.slots (ys ++ idlers (workers_most - length ys)) (length ys) l.meter

-- an answer, with the machine that holds what is lent then
abbrev pub holds_did : Lent → Did
holds_did x = record { refusal = x.answer; machine = holding x.ring x.records }

abbrev pub holds_ran : Gone → Ran
holds_ran g = record { refusal = g.report.refusal; place = g.report.place; machine = holding g.ring g.records }

-- "if the same records are lent throughout, they and the ring each time as the last step left them": steps one after another, and what they leave; a
-- refused one leaves what it found.
unfoldable pub steps : Lending → Lent → List ℕ → Lent
steps d x [] = x
steps d x (first ∷ []) = x
steps d x (first ∷ second ∷ rest) = steps d (d.step x.ring x.records first second) rest

abbrev pub held_in : Lent → Machine
held_in x = held x.ring x.records

-- The acts of these steps, oldest first.
unfoldable pub acts_lent : Lending → Lent → List ℕ → List Event
acts_lent d x [] = []
acts_lent d x (first ∷ []) = []
acts_lent d x (first ∷ second ∷ rest) =
    cond (eqb (d.step x.ring x.records first second).answer 0)
    (events_of SixtyFour (held_in x) (entry_of first second) (held_in (d.step x.ring x.records first second)) ++ acts_lent d (d.step x.ring x.records first second) rest)
    (acts_lent d (d.step x.ring x.records first second) rest)

-- The refusal of an answer that may be a number; 0 is none.
abbrev pub refusal_of : Result ℕ ℕ → ℕ
refusal_of (Ok n) = 0
refusal_of (Err n) = n

-- The entries of a schedule as steps, one after another, stopping at the first refusal.
abbrev pub step_by_step : Lending → Metered → List Worker → List ℕ → Gone
step_by_step d l ys s =
    run_by (λ (x : Lent). x.answer) (λ (x : Lent). (x.ring, x.records)) (λ (p : Metered × List Worker) (first second : ℕ). d.step p.0 p.1 first second)
    (λ (number place : ℕ) (p : Metered × List Worker). gone (report number place) p.0 p.1) (l, ys) 0 s

-- ---- what a host does with a ring and records that nobody else writes
pub data Doing : Type 0 where
  stepping : ℕ → ℕ → Doing
  running : List ℕ → Doing

abbrev pub done_lent : Lending → Lent → Doing → Lent
done_lent d x (stepping first second) = d.step x.ring x.records first second
done_lent d x (running s) =
    lent (d.run x.ring x.records s).report.refusal (d.run x.ring x.records s).ring (d.run x.ring x.records s).records

unfoldable pub left_lent : Lending → Lent → List Doing → Lent
left_lent d x [] = x
left_lent d x (y ∷ rest) = left_lent d (done_lent d x y) rest

-- The entries of it that were accepted; refused ones are passed over.
abbrev pub taken_lent : Lending → Lent → Doing → List ℕ
taken_lent d x (stepping first second) = entry_unless (d.step x.ring x.records first second).answer first second
taken_lent d x (running s) = ran_of (search_by entry_of 0 s) (d.run x.ring x.records s).report.place s

unfoldable pub all_taken_lent : Lending → Lent → List Doing → List ℕ
all_taken_lent d x [] = []
all_taken_lent d x (y ∷ rest) = taken_lent d x y ++ all_taken_lent d (done_lent d x y) rest

-- ---- rings of one slot with one record: fresh, with a push begun, with that item in, without the record (which is broken), and with a push begun at the meter's end
abbrev pub step_on : Lending → Lent → ℕ → ℕ → Lent
step_on d x first second = d.step x.ring x.records first second

abbrev pub run_on : Lending → Lent → List ℕ → Gone
run_on d x s = d.run x.ring x.records s

abbrev pub fresh_lent : Lending → Lent
fresh_lent d = d.make (idler ∷ []) 1 1

abbrev pub pushing_lent : Lending → Lent
pushing_lent d = step_on d (fresh_lent d) 0 5

abbrev pub stocked_lent : Lending → Lent
stocked_lent d = lent 0 (run_on d (fresh_lent d) (0 ∷ 5 ∷ acts 0 5)).ring (run_on d (fresh_lent d) (0 ∷ 5 ∷ acts 0 5)).records

abbrev pub none_lent : Lending → Lent
none_lent d = lent 0 (fresh_lent d).ring []

abbrev pub spent_lent : Lending → Lent
spent_lent d = lent 0 (record { ring = (pushing_lent d).ring.ring; meter = meter_most }) (pushing_lent d).records
