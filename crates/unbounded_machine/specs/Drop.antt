-- `Drop`'s walk over the pool, position by position: which items it meets, and whether it uses only blocks that are not free. A block that the
-- walk has dropped is free to it.
use Rattle.std.specs.Prelude.{ℕ, zero, suc, ◌+◌, ◌*◌, Bool, true, false, cond, List, [], ◌∷◌, set}
use Rattle.unbounded_words.specs.declared.Index.{Index}
use Rattle.unbounded_words.specs.declared.Pointer.{Pointer}
use Rattle.unbounded_words.specs.Words.{Sizes, offset_of, past_slots, unmarked_of, later, same, none_of, number_of}
use Rattle.unbounded_places.specs.declared.Slot.{Slot}
use Rattle.unbounded_places.specs.declared.Block.{Block}
use Rattle.unbounded_places.specs.declared.Ends.{Ends}
use Rattle.unbounded_acts.specs.Acts.{freed}
use Rattle.unbounded_machine.specs.declared.Dropped.{Dropped}
use Rattle.unbounded_machine.specs.Machine.{block_at, slot_at, live}

abbrev pub walked : Bool → ℕ → Dropped
walked sound n = record { sound = sound; count = n }

-- "Deallocate the last remaining block." if it is not null
unfoldable pub last_fits : Sizes → List Block → Pointer → Bool
last_fits z l b = cond (none_of b) true (live z l (number_of z b))

-- "Deallocate the block and move to the next one."
unfoldable pub without : Sizes → List Block → Pointer → List Block
without z l b = set l (number_of z b) (freed (block_at l (number_of z b)))

-- while head != tail: at a slot drop its value, at a block's end drop the block. n items were met before; so many steps at most.
unfoldable pub walk_from : Sizes → ℕ → List Block → Pointer → Index → Index → ℕ → Dropped
walk_from z zero l b h t n = walked false n
walk_from z (suc left) l b h t n =
    cond (same h t) (walked (last_fits z l b) n)
    (cond (live z l (number_of z b))
    (cond (past_slots z h)
    (walk_from z left (without z l b) (block_at l (number_of z b)).next (later h) t n)
    (walk_from z left l b (later h) t (n + 1)))
    (walked false n))

-- The items that are met, in order.
unfoldable pub items_from : Sizes → List Slot → ℕ → List Block → Pointer → Index → Index → List ℕ
items_from z s zero l b h t = []
items_from z s (suc left) l b h t =
    cond (same h t) []
    (cond (past_slots z h)
    (items_from z s left (without z l b) (block_at l (number_of z b)).next (later h) t)
    ((slot_at z s (number_of z b) (offset_of z h)).value ∷ items_from z s left l b (later h) t))

-- With every block dropped once the next use is of a free one: so many steps are enough.
abbrev pub steps_most : Sizes → ℕ
steps_most z = (z.blocks + 1) * z.lap

-- "Erase the lower bits." of both words, and walk from head's block.
unfoldable pub walk_of : Sizes → Ends → List Block → Dropped
walk_of z e l = walk_from z (steps_most z) l e.front (unmarked_of e.head) (unmarked_of e.tail) 0

unfoldable pub items_of : Sizes → Ends → List Block → List Slot → List ℕ
items_of z e l s = items_from z s (steps_most z) l e.front (unmarked_of e.head) (unmarked_of e.tail)
