-- "Walk them all", item 10 of document 02: when a walk is refused, what it answers and what it leaves in the buffer.
use Rattle.std.specs.Prelude.{ℕ, ◌-◌, Bool, cond, List, ◌++◌, map, ltb, eqb, length, drop, Result, Ok, Err}
use Rattle.queue_entries.specs.Limits.{meter_most, all}
use Rattle.queue_entries.specs.Told.{told}
use Rattle.queue_walks.specs.Walks.{walkers_most, depth_most}
use Rattle.queue_walks.specs.declared.Walked.{Walked}
use Rattle.queue_walks.specs.Listed.{bytes_of, walked}
use Rattle.bounded_places.specs.declared.Slot.{Slot}
use Rattle.bounded_places.specs.Places.{view_of}
use Rattle.bounded_machine.specs.declared.Machine.{Machine}
use Rattle.bounded_machine.specs.Machine.{place_of}
use Rattle.bounded_machine.specs.Broken.{broken_of}
use Rattle.bounded_sequences.specs.Sequences.{walk_of}

-- each with its call under way
unfoldable pub all_busy : Machine → Bool
all_busy m = all m.count 0 (λ (i : ℕ). (view_of (place_of m.workers i)).busy)

-- 6 comes first; 19 for workers or depth outside these limits, 20 for any idle worker, 21 for fewer acts left on the meter than the depth.
unfoldable pub size_refusal : Machine → ℕ → ℕ
size_refusal m depth =
    cond (broken_of m) 6
    (cond (ltb walkers_most m.count) 19
    (cond (ltb depth_most depth) 19
    (cond (all_busy m) (cond (ltb (meter_most - m.meter) depth) 21 0) 20)))

-- 22 for a buffer shorter than the list
unfoldable pub walk_refusal : Machine → ℕ → ℕ → ℕ
walk_refusal m depth room =
    cond (eqb (size_refusal m depth) 0) (cond (ltb room (length (bytes_of (walk_of depth m)))) 22 0) (size_refusal m depth)

-- The number of sequences is the answer; the rest of the buffer is untouched.
abbrev pub walk_told : Machine → ℕ → List ℕ → Result ℕ ℕ
walk_told m depth buffer = told (walk_refusal m depth (length buffer)) (length (walk_of depth m))

unfoldable pub listed : Machine → ℕ → List ℕ → List ℕ
listed m depth buffer =
    cond (eqb (walk_refusal m depth (length buffer)) 0) (bytes_of (walk_of depth m) ++ drop (length (bytes_of (walk_of depth m))) buffer) buffer

-- Beside it, without a buffer: how many sequences, and in how many bytes.
unfoldable pub size_of : Machine → ℕ → Result Walked ℕ
size_of m depth =
    cond (eqb (size_refusal m depth) 0) (Ok (walked (length (walk_of depth m)) (length (bytes_of (walk_of depth m))))) (Err (size_refusal m depth))

-- The slots as two rows of numbers: their values, and their stamps.
abbrev pub number_of : Bool → Slot → ℕ
number_of value s = cond value s.value s.stamp.0

abbrev pub row_of : Bool → List Slot → List ℕ
row_of value = map (number_of value)
