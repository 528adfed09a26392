-- "Broken there means: a worker count out of limits, a busy record past it, or a next act (but taking), or with all idle `Drop`'s walk, that uses
-- a free block, no block or a slot past 30."
use Rattle.std.specs.Prelude.{ℕ, Bool, true, false, cond, not, List, ltb}
use Rattle.queue_entries.specs.Limits.{workers_most, in_limits, all}
use Rattle.unbounded_words.specs.Words.{Sizes}
use Rattle.unbounded_places.specs.declared.Block.{Block}
use Rattle.unbounded_places.specs.declared.Ends.{Ends}
use Rattle.unbounded_places.specs.declared.Place.{Place}
use Rattle.unbounded_places.specs.declared.Uses.{Uses}
use Rattle.unbounded_places.specs.declared.Uses.TheVariants as uses
use Rattle.unbounded_places.specs.declared.Worker.{Worker}
use Rattle.unbounded_places.specs.Places.{view_of}
use Rattle.unbounded_machine.specs.declared.Machine.{Machine}
use Rattle.unbounded_machine.specs.Machine.{live, place_of}
use Rattle.unbounded_machine.specs.Drop.{walk_of}

-- neither a free block, nor no block, nor a slot past 30
abbrev pub uses_fit : Sizes → List Block → Uses → Bool
uses_fit z l uses.Nothing = true
uses_fit z l (uses.Block k) = live z l k
uses_fit z l (uses.Slot k i) = cond (ltb i z.slots) (live z l k) false

unfoldable pub record_fits : Sizes → List Block → Place → Bool → Bool
record_fits z l p counted = cond (view_of z p).busy (cond counted (uses_fit z l (view_of z p).uses) false) true

unfoldable pub records_fit : Sizes → List Block → ℕ → List Worker → Bool
records_fit z l count ws = all workers_most 0 (λ (i : ℕ). record_fits z l (place_of ws i) (ltb i count))

-- no worker is busy
unfoldable pub all_idle : Sizes → List Worker → Bool
all_idle z ws = all workers_most 0 (λ (i : ℕ). not (view_of z (place_of ws i)).busy)

unfoldable pub drop_fits : Sizes → Ends → List Block → List Worker → Bool
drop_fits z e l ws = cond (all_idle z ws) (walk_of z e l).sound true

unfoldable pub broken_in : Sizes → Ends → List Block → List Worker → ℕ → Bool
broken_in z e l ws count =
    cond (in_limits count workers_most) (cond (records_fit z l count ws) (not (drop_fits z e l ws)) true) true

abbrev pub broken_of : Sizes → Machine → Bool
broken_of z m = broken_in z m.ends m.blocks m.workers m.count
