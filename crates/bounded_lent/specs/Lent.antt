-- A ring and records that are lent: what is broken, what making and an entry make of them, and what a schedule, capacity and contents are.
use Rattle.std.specs.Prelude.{ℕ, Bool, true, cond, List, leb, eqb, length, Result}
use Rattle.queue_entries.specs.Limits.{all}
use Rattle.queue_entries.specs.Entries.{entry_of}
use Rattle.queue_entries.specs.Schedules.{schedule_by}
use Rattle.bounded_places.specs.declared.Worker.{Worker}
use Rattle.bounded_machine.specs.declared.Machine.{Machine}
use Rattle.bounded_machine.specs.declared.Did.{Did}
use Rattle.bounded_machine.specs.declared.Ran.{Ran}
use Rattle.bounded_machine.specs.Machine.{machine_of, record_of_worker, fresh_with, blank, accepted, fixed_on, ends_on}
use Rattle.bounded_machine.specs.Broken.{record_fits, broken_with, all_idle}
use Rattle.bounded_machine.specs.Turn.{turn_of}
use Rattle.bounded_machine.specs.Run.{ran}
use Rattle.bounded_orders.specs.Orders.{records_most, make_refusal, metered_of, report, capacity_told, Filled, contents_by}
use Rattle.bounded_words.specs.declared.Fixed.{Fixed}
use Rattle.bounded_orders.specs.declared.Metered.{Metered}
use Rattle.bounded_orders.specs.declared.Report.{Report}

-- the machine that has these records and no others
abbrev pub held : Metered → List Worker → Machine
held l ys = machine_of (fixed_on l.ring) (ends_on l.ring) l.ring.slots ys (length ys) l.meter

-- "Up to 64 workers; the count is the number lent"; else broken as that machine is
unfoldable pub broken_lent : Metered → List Worker → Bool
broken_lent l ys = cond (leb (length ys) records_most) (broken_with (length ys) (held l ys)) true

-- an answer, with the ring and the records as they are then
pub record Lent : Type 0 where
  pub answer : ℕ
  pub ring : Metered
  pub records : List Worker

abbrev pub lent : ℕ → Metered → List Worker → Lent
lent r l ys = record { answer = r; ring = l; records = ys }

abbrev pub lent_of : Did → Lent
lent_of d = lent d.refusal (metered_of d.machine) d.machine.workers

-- the entry of two words, on a ring and records that are not broken
abbrev pub turn_lent : Metered → List Worker → ℕ → ℕ → Lent
turn_lent l ys first second = lent_of (turn_of (held l ys) first second)

-- the entry of two words: 6 first
unfoldable pub step_lent : Metered → List Worker → ℕ → ℕ → Lent
step_lent l ys first second = cond (broken_lent l ys) (lent 6 l ys) (turn_lent l ys first second)

-- what a schedule reports, with the ring and the records as they are then
pub record Gone : Type 0 where
  pub report : Report
  pub ring : Metered
  pub records : List Worker

abbrev pub gone : Report → Metered → List Worker → Gone
gone r l ys = record { report = r; ring = l; records = ys }

abbrev pub gone_of : Ran → Gone
gone_of r = gone (report r.refusal r.place) (metered_of r.machine) r.machine.workers

-- A whole schedule, of the machine that has these records.
unfoldable pub run_lent : Metered → List Worker → List ℕ → Gone
run_lent l ys s = gone_of (schedule_by (λ (d : Did). d.refusal) (λ (d : Did). d.machine) turn_of ran (λ (m : Machine). broken_lent l ys) entry_of (held l ys) s)

-- "Making sets all lent records idle, or if refused changes none."
unfoldable pub make_lent : List Worker → ℕ → ℕ → Lent
make_lent ys capacity edition =
    cond (eqb (make_refusal (length ys) capacity edition) 0) (lent_of (accepted (fresh_with (length ys) capacity (length ys) edition)))
    (lent (make_refusal (length ys) capacity edition) (metered_of blank) ys)

-- `capacity`: 6, else the ring's capacity at any time
abbrev pub capacity_lent : Metered → List Worker → Result ℕ ℕ
capacity_lent l ys = capacity_told (broken_lent l ys) l.ring.capacity

-- every lent record fits the ring, as one within the count or as one past it, which has to be idle
unfoldable pub each_fits : Fixed → ℕ → Bool → List Worker → Bool
each_fits f meter counted ys = all (length ys) 0 (λ (i : ℕ). record_fits f meter (record_of_worker ys i) counted)

-- the answer is the count, or 6, 4 or 10; the items are written at the buffer's start, the rest untouched
unfoldable pub contents_lent : Metered → List Worker → List ℕ → Filled
contents_lent l ys = contents_by (broken_lent l ys) (all_idle ys) l.ring
