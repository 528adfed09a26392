-- What the faces share, whoever keeps ring and records: making, schedules and contents, but for the records.
use Rattle.std.specs.Prelude.{ℕ, Bool, false, cond, not, List, eqb, length, Option, Result}
use Rattle.queue_entries.specs.Limits.{in_limits}
use Rattle.queue_entries.specs.Entries.{entry_of}
use Rattle.queue_entries.specs.Told.{told}
use Rattle.queue_entries.specs.Schedules.{searched, schedule_by}
use Rattle.bounded_words.specs.declared.Fixed.{Fixed}
use Rattle.bounded_words.specs.Limits.{slots_most, editions_most}
use Rattle.bounded_places.specs.declared.Ends.{Ends}
use Rattle.bounded_machine.specs.declared.Machine.{Machine}
use Rattle.bounded_machine.specs.declared.Ring.{Ring}
use Rattle.bounded_machine.specs.Machine.{fresh_of, blank, fixed_on, ends_on}
use Rattle.bounded_machine.specs.Contents.{count_on, contents_refusal_by, written_by}
use Rattle.bounded_machine.specs.Broken.{ring_fits}
use Rattle.bounded_orders.specs.declared.Metered.{Metered}
use Rattle.bounded_orders.specs.declared.Made.{Made}
use Rattle.bounded_orders.specs.declared.Report.{Report}

-- "Up to 64 workers; the count is the number lent."
abbrev pub records_most : ℕ
records_most = 64

-- a ring that is not broken, lent with so many records, which are another matter
unfoldable pub ring_fits_lent : Fixed → Ends → ℕ → Bool
ring_fits_lent f e count = cond (in_limits count records_most) (ring_fits f e) false

-- ---- making
-- Order: making 1, 2, 18, where there are at most so many records: what is made, or what the refusal's number gives.
abbrev pub make_by : {A : Type 0} → ℕ → (ℕ → A) → A → ℕ → ℕ → ℕ → A
make_by most refuse made capacity workers edition =
    cond (in_limits capacity slots_most)
    (cond (in_limits workers most)
    (cond (in_limits edition editions_most) made (refuse 18))
    (refuse 2))
    (refuse 1)

-- The number; 0 where it is not refused.
unfoldable pub make_refusal_with : ℕ → ℕ → ℕ → ℕ → ℕ
make_refusal_with most = make_by most (λ (number : ℕ). number) 0

-- of so many lent records
abbrev pub make_refusal : ℕ → ℕ → ℕ → ℕ
make_refusal count capacity edition = make_refusal_with records_most capacity count edition

abbrev pub metered_of : Machine → Metered
metered_of m = record { ring = m.ring; meter = m.meter }

unfoldable pub made_from : ℕ → Machine → Made
made_from number m = record { refusal = number; ring = metered_of m }

-- The ring of a fresh machine, or of the blank one.
unfoldable pub made_of : ℕ → ℕ → ℕ → Made
made_of count capacity edition =
    cond (eqb (make_refusal count capacity edition) 0) (made_from 0 (fresh_of capacity count edition)) (made_from (make_refusal count capacity edition) blank)

-- So many if it is not refused, none if it is: records that are made idle, entries that are run.
unfoldable pub unless_refused : ℕ → ℕ → ℕ
unless_refused number count = cond (eqb number 0) count 0

-- ---- schedules
abbrev pub report : ℕ → ℕ → Report
report number place = record { refusal = number; place = place }

-- What a schedule reports if no entry of it is refused, by every schedule's order (6, 11, 9): of no machine, whose entries do nothing.
abbrev pub read_through : List ℕ → Option ℕ → Report
read_through = searched (λ (none : Unit {0}). 0) (λ none. none) (λ none first second. none) (λ number place none. report number place) tt

unfoldable pub judged_of : Bool → List ℕ → Report
judged_of broken = schedule_by (λ (none : Unit {0}). 0) (λ none. none) (λ none first second. none) (λ number place none. report number place) (λ none. broken) entry_of tt

-- ---- capacity
unfoldable pub capacity_told : Bool → ℕ → Result ℕ ℕ
capacity_told broken capacity = told (cond broken 6 0) capacity

-- ---- contents
-- what is answered, and the buffer after it
pub record Filled : Type 0 where
  pub answer : Result ℕ ℕ
  pub buffer : List ℕ

abbrev pub filled : Result ℕ ℕ → List ℕ → Filled
filled t buffer = record { answer = t; buffer = buffer }

-- of a ring that is broken or not, whose workers are all idle or not
unfoldable pub contents_by : Bool → Bool → Ring → List ℕ → Filled
contents_by broken idle r buffer =
    filled (told (contents_refusal_by broken idle (count_on r) (length buffer)) (count_on r)) (written_by (contents_refusal_by broken idle (count_on r) (length buffer)) r buffer)

-- of a ring by itself
unfoldable pub contents_on : Bool → Ring → List ℕ → Filled
contents_on idle r = contents_by (not (ring_fits (fixed_on r) (ends_on r))) idle r
