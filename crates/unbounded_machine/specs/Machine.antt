-- The machine: the ends, the pool, the workers' records. Fresh, blank, refused.
use Rattle.std.specs.Prelude.{ℕ, ◌+◌, ◌*◌, Bool, true, false, cond, not, List, ltb, get_or, replicate}
use Rattle.queue_entries.specs.Limits.{workers_most}
use Rattle.unbounded_words.specs.declared.Pointer.TheVariants.{None}
use Rattle.unbounded_words.specs.Words.{Sizes, index}
use Rattle.unbounded_places.specs.declared.Slot.{Slot}
use Rattle.unbounded_places.specs.declared.Block.{Block}
use Rattle.unbounded_places.specs.declared.Ends.{Ends}
use Rattle.unbounded_places.specs.declared.Place.{Place}
use Rattle.unbounded_places.specs.declared.Place.TheVariants.{Idle}
use Rattle.unbounded_places.specs.declared.Answer.TheVariants.{Nothing}
use Rattle.unbounded_places.specs.declared.Worker.{Worker}
use Rattle.unbounded_acts.specs.Acts.{new_block}
use Rattle.unbounded_machine.specs.declared.Machine.{Machine}
use Rattle.unbounded_machine.specs.declared.Did.{Did}

abbrev pub slot : ℕ → ℕ → Slot
slot s v = record { state = s; value = v }

-- All slots of the pool stand in one row, those of block 0 first: slot i of block k.
abbrev pub slot_number : Sizes → ℕ → ℕ → ℕ
slot_number z k i = k * z.slots + i

-- The header of block k, and its slot i.
abbrev pub block_at : List Block → ℕ → Block
block_at l k = get_or l k new_block

abbrev pub slot_at : Sizes → List Slot → ℕ → ℕ → Slot
slot_at z l k i = get_or l (slot_number z k i) (slot 0 0)

-- a block of the pool that is not free
unfoldable pub live : Sizes → List Block → ℕ → Bool
live z l k = cond (ltb k z.blocks) (not (block_at l k).free) false

-- nobody has taken a block
abbrev pub free_block : Block
free_block = record { next = None; free = true }

unfoldable pub free_blocks : Sizes → List Block
free_blocks z = replicate z.blocks free_block

unfoldable pub empty_slots : Sizes → List Slot
empty_slots z = replicate (z.blocks * z.slots) (slot 0 0)

-- idle with its last answer (none, at first)
abbrev pub idler : Worker
idler = record { place = Idle Nothing }

unfoldable pub idlers : List Worker
idlers = replicate workers_most idler

abbrev pub machine_of : Ends → List Block → List Slot → List Worker → ℕ → ℕ → Machine
machine_of e g s w n k = record { ends = e; blocks = g; slots = s; workers = w; count = n; meter = k }

-- `Unbounded::new`: indices 0, blocks none
abbrev pub starts : Ends
starts = record { head = index 0; front = None; tail = index 0; back = None }

unfoldable pub fresh_of : Sizes → ℕ → Machine
fresh_of z workers = machine_of starts (free_blocks z) (empty_slots z) idlers workers 0

-- blank machine: all numbers 0, workers idle (and all blocks free)
unfoldable pub blank : Sizes → Machine
blank z = fresh_of z 0

-- Where the worker numbered w stands.
abbrev pub place_of : List Worker → ℕ → Place
place_of ws w = (get_or ws w idler).place

unfoldable pub refused : ℕ → Machine → Did
refused number m = record { refusal = number; machine = m }

unfoldable pub accepted : Machine → Did
accepted m = record { refusal = 0; machine = m }
