-- "Broken" of document 01, clause by clause.
use Rattle.std.specs.Prelude.{ℕ, Bool, true, false, cond, not, List, ltb, eqb, length}
use Rattle.queue_entries.specs.Limits.{workers_most, in_limits, all}
use Rattle.bounded_words.specs.declared.Fixed.{Fixed}
use Rattle.bounded_words.specs.Limits.{slots_most, editions_most}
use Rattle.bounded_words.specs.Words.{mark_of, lap_of, marked_of}
use Rattle.bounded_places.specs.declared.Ends.{Ends}
use Rattle.bounded_places.specs.declared.Place.{Place}
use Rattle.bounded_places.specs.declared.Worker.{Worker}
use Rattle.bounded_places.specs.Places.{view_of, inside, fits_of}
use Rattle.bounded_machine.specs.declared.Machine.{Machine}
use Rattle.bounded_machine.specs.Machine.{record_of_worker, place_of, fixed_on, ends_on}

-- mark or lap not by rule
unfoldable pub by_rule : Fixed → Bool
by_rule f = cond (eqb f.mark (mark_of f.capacity)) (eqb f.lap (lap_of f.capacity)) false

-- head marked; index of head or tail not below capacity
unfoldable pub ends_fit : Fixed → Ends → Bool
ends_fit f e = cond (marked_of f e.head) false (cond (inside f e.head) (inside f e.tail) false)

-- a busy worker's words (`fits_of`), or a busy record past the worker count
unfoldable pub place_fits : Fixed → Place → Bool → Bool
place_fits f p counted = cond (view_of p).busy (cond counted (fits_of f (view_of p).held) false) true

-- a count of losses above the meter, in any record
unfoldable pub record_fits : Fixed → ℕ → Worker → Bool → Bool
record_fits f meter r counted =
    cond (ltb meter r.differed) false (cond (ltb meter r.failed) false (place_fits f r.place counted))

unfoldable pub records_fit : ℕ → Fixed → ℕ → ℕ → List Worker → Bool
records_fit records f count meter ws = all records 0 (λ (i : ℕ). record_fits f meter (record_of_worker ws i) (ltb i count))

-- a ring that is not broken, whatever its records: an edition that is 1 or 2, a capacity within its limits, and the above
unfoldable pub ring_fits : Fixed → Ends → Bool
ring_fits f e =
    cond (in_limits f.edition editions_most) (cond (in_limits f.capacity slots_most) (cond (by_rule f) (ends_fit f e) false) false) false

-- the ring and the rest, of a machine with so many records; there are no more workers than records
unfoldable pub broken_with : ℕ → Machine → Bool
broken_with records m =
    cond (ring_fits (fixed_on m.ring) (ends_on m.ring))
    (cond (in_limits m.count records)
    (not (records_fit records (fixed_on m.ring) m.count m.meter m.workers))
    true) true

-- document 01's machine has 16 of them
abbrev pub broken_of : Machine → Bool
broken_of = broken_with workers_most

-- no worker is busy
unfoldable pub all_idle : List Worker → Bool
all_idle ws = all (length ws) 0 (λ (i : ℕ). not (view_of (place_of ws i)).busy)
