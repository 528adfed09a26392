-- The machine of the one-slot queue: fresh, blank, refused.
use Rattle.std.specs.Prelude.{ℕ, List, get_or, replicate}
use Rattle.queue_entries.specs.Limits.{workers_most}
use Rattle.single_words.specs.Words.{state}
use Rattle.single_places.specs.declared.Single.{Single}
use Rattle.single_places.specs.declared.Place.{Place}
use Rattle.single_places.specs.declared.Place.TheVariants.{Idle}
use Rattle.single_places.specs.declared.Answer.TheVariants.{Nothing}
use Rattle.single_places.specs.declared.Worker.{Worker}
use Rattle.single_machine.specs.declared.Machine.{Machine}
use Rattle.single_machine.specs.declared.Did.{Did}

-- idle with its last answer (none, at first)
abbrev pub idler : Worker
idler = record { place = Idle Nothing }

unfoldable pub idlers : List Worker
idlers = replicate workers_most idler

abbrev pub machine_of : Single → List Worker → ℕ → ℕ → Machine
machine_of s ws n k = record { single = s; workers = ws; count = n; meter = k }

-- Single { state: AtomicUsize::new(0), slot: uninit }
abbrev pub starts : Single
starts = record { state = state 0; value = 0 }

unfoldable pub fresh_of : ℕ → Machine
fresh_of workers = machine_of starts idlers workers 0

-- blank machine: all numbers 0, workers idle
abbrev pub blank : Machine
blank = fresh_of 0

-- Where the worker numbered w stands.
abbrev pub place_of : List Worker → ℕ → Place
place_of ws w = (get_or ws w idler).place

unfoldable pub refused : ℕ → Machine → Did
refused number m = record { refusal = number; machine = m }

unfoldable pub accepted : Machine → Did
accepted m = record { refusal = 0; machine = m }
