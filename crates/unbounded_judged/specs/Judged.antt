-- What a run of entries keeps, so that refusal 6 is judged by what an entry can have changed. That it is `broken_in`: proofs/Judged.antt.
use Rattle.std.specs.Prelude.{ℕ, zero, suc, ◌+◌, ◌-◌, ◌/◌, Bool, true, false, cond, not, List, ltb, eqb}
use Rattle.queue_entries.specs.Limits.{workers_most}
use Rattle.unbounded_words.specs.declared.Index.{Index}
use Rattle.unbounded_words.specs.Words.{Sizes, unmarked_of, number_of}
use Rattle.unbounded_places.specs.declared.Block.{Block}
use Rattle.unbounded_places.specs.declared.Ends.{Ends}
use Rattle.unbounded_places.specs.declared.Worker.{Worker}
use Rattle.unbounded_places.specs.Places.{view_of}
use Rattle.unbounded_machine.specs.Machine.{live, block_at, place_of}
use Rattle.unbounded_machine.specs.Drop.{walk_of}
use Rattle.unbounded_judged.specs.declared.Known.{Known}
use Rattle.unbounded_judged.specs.declared.Rest.{Rest}

-- a block that was not free is
unfoldable pub frees_it : Block → Block → Bool
frees_it before after = cond after.free (not before.free) false

-- how many records are busy, of so many from this one on
unfoldable pub busy_from : Sizes → ℕ → ℕ → List Worker → ℕ
busy_from z zero i ws = 0
busy_from z (suc more) i ws = cond (view_of z (place_of ws i)).busy (1 + busy_from z more (i + 1) ws) (busy_from z more (i + 1) ws)

unfoldable pub busy_in : Sizes → List Worker → ℕ
busy_in z ws = busy_from z workers_most 0 ws

-- ---- `Drop`'s walk: known to be sound where head's block and the laps of both ends are those noted, and no header has changed since
abbrev pub unknown : Known
unknown = record { sure = false; front = 0; head = 0; tail = 0 }

-- the lap of a word: a block covers one
abbrev pub lap_of : Index → ℕ
lap_of w = (unmarked_of w).0 / 64

-- head does not stand behind tail
unfoldable pub in_order : Ends → Bool
in_order e = not (ltb (unmarked_of e.tail).0 (unmarked_of e.head).0)

unfoldable pub same_laps : Known → Ends → Bool
same_laps k e = cond (eqb (lap_of e.head) k.head) (eqb (lap_of e.tail) k.tail) false

unfoldable pub same_front : Sizes → Known → Ends → Bool
same_front z k e = cond k.sure (eqb (number_of z e.front) k.front) false

unfoldable pub still_of : Sizes → Known → Ends → Bool
still_of z k e = cond (same_front z k e) (cond (same_laps k e) (in_order e) false) false

-- nobody is busy, and the walk is not known
unfoldable pub due_of : Sizes → ℕ → Known → Ends → Bool
due_of z busy k e = cond (eqb busy 0) (not (still_of z k e)) false

-- the block after block k: that of none, where there is none
abbrev pub next_of : Sizes → List Block → ℕ → ℕ
next_of z l k = number_of z (block_at l k).next

-- from block k so many blocks on, none of them free, to one that has no next
unfoldable pub linked_from : Sizes → ℕ → List Block → ℕ → Bool
linked_from z zero l k = cond (live z l k) (not (ltb (next_of z l k) z.blocks)) false
linked_from z (suc left) l k = cond (live z l k) (linked_from z left l (next_of z l k)) false

-- how many laps tail is ahead
abbrev pub ahead_of : Ends → ℕ
ahead_of e = lap_of e.tail - lap_of e.head

-- As many blocks as laps, from head's block on: fewer than there are, and no word wraps on the way.
unfoldable pub linked_of : Sizes → Ends → List Block → Bool
linked_of z e l =
    cond (ltb (unmarked_of e.tail).0 (unmarked_of e.head).0) false
    (cond (ltb (lap_of e.tail) 288230376151711744)
    (cond (ltb (ahead_of e) z.blocks) (linked_from z (ahead_of e) l (number_of z e.front)) false) false)

abbrev pub noted : Sizes → Ends → Known
noted z e = record { sure = true; front = number_of z e.front; head = lap_of e.head; tail = lap_of e.tail }

-- the walk judged, by blocks where they are linked, and what is known of it then
unfoldable pub rest_of : Sizes → Ends → List Block → Rest
rest_of z e l = cond (linked_of z e l) (record { sound = true; known = noted z e }) (record { sound = (walk_of z e l).sound; known = unknown })
