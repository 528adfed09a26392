-- Words two by two.
use Prim.Native.Nat.{ℕ, ◌+◌, ◌*◌, ◌/◌, ◌<◌, ◌≤◌}
use mathlib.Core.Path.{◌≡◌}
use mathlib.Core.List.{List, ◌∷◌}
use native.Mathlib.Omega.{arith}
use lib.ListN.{get_or, length, drop, length-drop}
use Rattle.queue_entries.proofs.Searching.{two_words}

pub pair_at : (s : List ℕ) (i : ℕ) → i < length s / 2 → drop (2 * i) s ≡ get_or s (2 * i) 0 ∷ get_or s (2 * i + 1) 0 ∷ drop (2 * (i + 1)) s
pair_at s i h = two_words s i (omega arith)

pub pairs_over : (s : List ℕ) (i : ℕ) → length s / 2 ≤ i → length (drop (2 * i) s) < 2
pairs_over s i h = rw length-drop (omega arith)
