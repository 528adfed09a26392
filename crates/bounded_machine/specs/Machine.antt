-- The machine of document 01: fresh, blank, refused.
use Rattle.std.specs.Prelude.{ℕ, zero, suc, List, set, get_or, replicate}
use Rattle.queue_entries.specs.Limits.{workers_most}
use Rattle.bounded_words.specs.declared.Fixed.{Fixed}
use Rattle.bounded_words.specs.Limits.{slots_most}
use Rattle.bounded_words.specs.Words.{stamp, fixed_of}
use Rattle.bounded_places.specs.declared.Slot.{Slot}
use Rattle.bounded_places.specs.declared.Ends.{Ends}
use Rattle.bounded_places.specs.declared.Place.{Place}
use Rattle.bounded_places.specs.declared.Place.TheVariants.{Idle}
use Rattle.bounded_places.specs.declared.Answer.TheVariants.{Nothing}
use Rattle.bounded_places.specs.declared.Worker.{Worker}
use Rattle.bounded_machine.specs.declared.Ring.{Ring}
use Rattle.bounded_machine.specs.declared.Machine.{Machine}
use Rattle.bounded_machine.specs.declared.Did.{Did}

abbrev pub slot : ℕ → ℕ → Slot
slot s v = record { stamp = stamp s; value = v }

-- empty slots, stamp 0 and value 0: as many as the limit
unfoldable pub empty_slots : List Slot
empty_slots = replicate slots_most (slot 0 0)

-- then slot i below so many gets stamp i
unfoldable pub stamped : ℕ → List Slot → List Slot
stamped zero l = l
stamped (suc n) l = set (stamped n l) n (slot n 0)

unfoldable pub fresh_slots : ℕ → List Slot
fresh_slots capacity = stamped capacity empty_slots

-- idle with its last answer (none, at first)
abbrev pub idler : Worker
idler = record { place = Idle Nothing; differed = 0; failed = 0 }

unfoldable pub idlers : ℕ → List Worker
idlers records = replicate records idler

-- A ring's constants and its two ends, as an act is handed them; and the ring of these.
abbrev pub fixed_on : Ring → Fixed
fixed_on r = record { mark = r.mark; lap = r.lap; capacity = r.capacity; edition = r.edition }

abbrev pub ends_on : Ring → Ends
ends_on r = record { head = r.head; tail = r.tail }

abbrev pub ring_of_parts : Fixed → Ends → List Slot → Ring
ring_of_parts f e s = record { head = e.head; tail = e.tail; mark = f.mark; lap = f.lap; capacity = f.capacity; edition = f.edition; slots = s }

abbrev pub machine_of : Fixed → Ends → List Slot → List Worker → ℕ → ℕ → Machine
machine_of f e s w n k = record { ring = ring_of_parts f e s; workers = w; count = n; meter = k }

-- Head, tail and meter are 0, workers idle.
abbrev pub starts : Ends
starts = record { head = stamp 0; tail = stamp 0 }

-- With so many records; document 01's machine has 16 of them.
unfoldable pub fresh_with : ℕ → ℕ → ℕ → ℕ → Machine
fresh_with records capacity workers edition = machine_of (fixed_of capacity edition) starts (fresh_slots capacity) (idlers records) workers 0

abbrev pub fresh_of : ℕ → ℕ → ℕ → Machine
fresh_of = fresh_with workers_most

-- blank machine: all numbers 0, workers idle
unfoldable pub blank : Machine
blank = machine_of (record { mark = 0; lap = 0; capacity = 0; edition = 0 }) starts empty_slots (idlers workers_most) 0 0

-- The record of the worker numbered w, and where it stands.
abbrev pub record_of_worker : List Worker → ℕ → Worker
record_of_worker ws w = get_or ws w idler

abbrev pub place_of : List Worker → ℕ → Place
place_of ws w = (record_of_worker ws w).place

unfoldable pub refused : ℕ → Machine → Did
refused number m = record { refusal = number; machine = m }

unfoldable pub accepted : Machine → Did
accepted m = record { refusal = 0; machine = m }
