-- One entry: begin or act, with the refusals in order (begin 6, 9, 3, 4; act 6, 9, 3, 5, 7, 8, 23). Broken is judged at every entry.
use Rattle.std.specs.Prelude.{ℕ, zero, suc, ◌+◌, Bool, cond, List, ltb, set}
use Rattle.queue_entries.specs.declared.Order.{Order}
use Rattle.queue_entries.specs.declared.Entry.{Entry}
use Rattle.queue_entries.specs.declared.Entry.TheVariants.{Unreadable, Asks}
use Rattle.queue_entries.specs.Entries.{verdict_for, entry_but}
use Rattle.queue_entries.specs.declared.Verdict.{Verdict}
use Rattle.queue_entries.specs.declared.Verdict.TheVariants.{Refuse, Start, Move}
use Rattle.unbounded_words.specs.Words.{Sizes}
use Rattle.unbounded_places.specs.declared.Slot.{Slot}
use Rattle.unbounded_places.specs.declared.Block.{Block}
use Rattle.unbounded_places.specs.declared.Ends.{Ends}
use Rattle.unbounded_places.specs.declared.Place.{Place}
use Rattle.unbounded_places.specs.declared.Uses.{Uses}
use Rattle.unbounded_places.specs.declared.Uses.TheVariants as uses
use Rattle.unbounded_places.specs.Places.{view_of, begin_of}
use Rattle.unbounded_acts.specs.declared.Acted.{Acted}
use Rattle.unbounded_acts.specs.Acts.{act_of}
use Rattle.unbounded_machine.specs.declared.Machine.{Machine}
use Rattle.unbounded_machine.specs.declared.Did.{Did}
use Rattle.unbounded_machine.specs.Machine.{slot, slot_number, block_at, slot_at, machine_of, place_of, refused, accepted}
use Rattle.unbounded_machine.specs.Broken.{broken_of}

-- Code 1 is refusal 9: there is no force_push here.
abbrev pub entry_here : ℕ → ℕ → Entry
entry_here = entry_but 1

-- What becomes of a worker at this place.
abbrev pub verdict_of : Sizes → ℕ → Place → Order → Verdict
verdict_of z meter p o = verdict_for meter (view_of z p).busy (view_of z p).weak o

-- The lowest free number, or the number of no block.
unfoldable pub lowest_from : ℕ → ℕ → List Block → ℕ
lowest_from zero k l = k
lowest_from (suc more) k l = cond (block_at l k).free k (lowest_from more (k + 1) l)

unfoldable pub lowest_free : Sizes → List Block → ℕ
lowest_free z l = lowest_from z.blocks 0 l

-- A taken block is as `Block::new` makes it: states 0, values 0. So many slots from this one on.
unfoldable pub cleared_from : ℕ → ℕ → List Slot → List Slot
cleared_from zero n l = l
cleared_from (suc more) n l = cleared_from more (n + 1) (set l n (slot 0 0))

unfoldable pub cleared : Sizes → List Slot → ℕ → List Slot
cleared z l k = cleared_from z.slots (slot_number z k 0) l

-- The block and the slot that an act goes to: those it uses (of nothing, block 0 and slot 0, which it leaves as they are).
abbrev pub block_used : Uses → ℕ
block_used uses.Nothing = 0
block_used (uses.Block k) = k
block_used (uses.Slot k i) = k

abbrev pub slot_used : Uses → ℕ
slot_used uses.Nothing = 0
slot_used (uses.Block k) = 0
slot_used (uses.Slot k i) = i

-- Worker w begins at the place q: no act.
unfoldable pub begun : Machine → ℕ → Place → Machine
begun m w q =
    machine_of m.ends m.blocks m.slots (set m.workers w (record { place = q })) m.count m.meter

-- What an act leaves of block k and of its slot i is stored back. The meter rises by one with each accepted act.
unfoldable pub stored : Sizes → Machine → ℕ → List Slot → ℕ → ℕ → Acted → Machine
stored z m w slots k i a =
    machine_of a.ends (set m.blocks k a.block) (set slots (slot_number z k i) a.slot)
    (set m.workers w (record { place = a.place })) m.count (m.meter + 1)

-- What an act does at each place. Request 12's is `act_of`; crate unbounded_slips has some with a slip.
abbrev pub Table : Type 0
Table = Sizes → Ends → ℕ → Block → Slot → Place → Bool → Acted

unfoldable pub acted_at : Sizes → Table → Machine → ℕ → Place → Bool → List Slot → ℕ → ℕ → Machine
acted_at z table m w p lose slots k i =
    stored z m w slots k i (table z m.ends k (block_at m.blocks k) (slot_at z slots k i) p lose)

-- An act on what it uses, and one that takes block k.
abbrev pub used_by : Sizes → Table → Machine → ℕ → Place → Bool → Machine
used_by z table m w p lose = acted_at z table m w p lose m.slots (block_used (view_of z p).uses) (slot_used (view_of z p).uses)

abbrev pub taken_by : Sizes → Table → Machine → ℕ → Place → Bool → ℕ → Machine
taken_by z table m w p lose k = acted_at z table m w p lose (cleared z m.slots k) k 0

-- 23: a call needs a block and none is free.
unfoldable pub moved_by : Sizes → Table → Machine → ℕ → Place → Bool → Did
moved_by z table m w p lose =
    cond (view_of z p).takes
    (cond (ltb (lowest_free z m.blocks) z.blocks) (accepted (taken_by z table m w p lose (lowest_free z m.blocks))) (refused 23 m))
    (accepted (used_by z table m w p lose))

abbrev pub carried_by : Sizes → Table → Machine → ℕ → Place → Verdict → Did
carried_by z table m w p (Refuse number) = refused number m
carried_by z table m w p (Start c) = accepted (begun m w (begin_of c))
carried_by z table m w p (Move lose) = moved_by z table m w p lose

-- 9: an entry that can't be read. 3: worker number not below the count.
abbrev pub turn_by : Sizes → Table → Machine → Entry → Did
turn_by z table m Unreadable = refused 9 m
turn_by z table m (Asks w o) =
    cond (ltb w m.count)
    (carried_by z table m w (place_of m.workers w) (verdict_of z m.meter (place_of m.workers w) o))
    (refused 3 m)

-- The entry of two words.
unfoldable pub turn_with : Sizes → Table → Machine → ℕ → ℕ → Did
turn_with z table m first second = cond (broken_of z m) (refused 6 m) (turn_by z table m (entry_here first second))

abbrev pub turn_of : Sizes → Machine → ℕ → ℕ → Did
turn_of z = turn_with z act_of
