-- Schedules whose entries can all be read, over any queue's reading of two words.
use Rattle.std.specs.Prelude.{ℕ, ◌≡◌, List, [], ◌∷◌}
use Rattle.queue_entries.specs.declared.Entry.{Entry}
use Rattle.queue_entries.specs.declared.Entry.TheVariants.{Unreadable}

abbrev pub Readable : (ℕ → ℕ → Entry) → List ℕ → Type 0
Readable reading [] = Unit {0}
Readable reading (first ∷ []) = Unit {0}
Readable reading (first ∷ second ∷ rest) = (reading first second ≡ Unreadable → ⊥) × Readable reading rest
