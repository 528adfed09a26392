-- What `search` is given at the arms of the table: the row of a place that is known.
use Prim.Native.Nat.{ℕ}
use mathlib.Core.Path.{◌≡◌}
use mathlib.Core.Bool.{Bool}
use Rattle.queue_entries.proofs.Pick.{along}
use Rattle.unbounded_words.specs.Words.{sizes}
use Rattle.unbounded_places.specs.declared.Slot.{Slot}
use Rattle.unbounded_places.specs.declared.Block.{Block}
use Rattle.unbounded_places.specs.declared.Ends.{Ends}
use Rattle.unbounded_places.specs.declared.Place.{Place}
use Rattle.unbounded_acts.specs.declared.Acted.{Acted}
use Rattle.unbounded_acts.specs.Acts.{act_of}

pub along_act : (e : Ends) (k : ℕ) (g : Block) (s : Slot) (p q : Place) (lose : Bool) (r : Acted) → p ≡ q → r ≡ act_of sizes e k g s q lose → r ≡ act_of sizes e k g s p lose
along_act e k g s p q lose = along (λ (x : Place). act_of sizes e k g s x lose) p q
