-- That only one answer meets the promise of each function, as its `ensures` says it in its code. (`OnlyOne` of
-- crates/tapes_demands/specs/Demands.antt writes these promises out anew; here they are read out of the functions' own contracts, so that one that says less is refused here.)
use Rattle.std.specs.Prelude.{ℕ, List, ◌≡◌}
use base.Fml.{Lft, GName}
use Rattle.std.specs.Borrow.{Bor, MutBor}
use Rattle.tapes_numbers.specs.declared.Variant.{Variant}
use Rattle.tapes.specs.declared.Writing.{Writing}
use Rattle.tapes.specs.declared.Reading.{Reading}
use Rattle.tapes.proofs.write.Reads as write
use Rattle.tapes.proofs.read.Reads as read

-- A slice that is lent for this long, lies here and has this name: no promise speaks of these three.
abbrev pub slice : ℕ × ℕ → GName → List ℕ → MutBor (List ℕ)
slice ptr name l = record { ref_ptr = ptr; ghost_name = name; now = l }

pub record OnlyOneOwn : Type 0 where
  pub of_write : (κ κ' : Lft) (ptr : ℕ × ℕ) (name : GName) (v : Variant) (capacity workers : ℕ) (words : Bor (List ℕ)) (before : List ℕ) (x y : Writing) (a b : List ℕ)
      → write.Post (κ, (κ', tt)) (v, (capacity, (workers, (words, (slice ptr name before, tt))))) x (v, (capacity, (workers, (words, (slice ptr name a, tt)))))
      → write.Post (κ, (κ', tt)) (v, (capacity, (workers, (words, (slice ptr name before, tt))))) y (v, (capacity, (workers, (words, (slice ptr name b, tt))))) → (x ≡ y) × (a ≡ b)
  pub of_read : (κ κ' : Lft) (ptr : ℕ × ℕ) (name : GName) (bytes : Bor (List ℕ)) (before : List ℕ) (x y : Reading) (a b : List ℕ)
      → read.Post (κ, (κ', tt)) (bytes, (slice ptr name before, tt)) x (bytes, (slice ptr name a, tt))
      → read.Post (κ, (κ', tt)) (bytes, (slice ptr name before, tt)) y (bytes, (slice ptr name b, tt)) → (x ≡ y) × (a ≡ b)
