-- How a walk is told: its numbers, and its bytes in a buffer.
use Rattle.std.specs.Prelude.{ℕ, ◌+◌, ◌<◌, ◌^◌, List, [], ◌∷◌, ◌++◌, length}
use Rattle.queue_walks.specs.declared.Walked.{Walked}

-- A byte for its length, then a byte for each act.
unfoldable pub bytes_of : List (List ℕ) → List ℕ
bytes_of [] = []
bytes_of (s ∷ more) = length s ∷ (s ++ bytes_of more)

abbrev pub walked : ℕ → ℕ → Walked
walked sequences bytes = record { sequences = sequences; bytes = bytes }

-- So many sequences and bytes, and those of this list.
unfoldable pub counted : Walked → List (List ℕ) → Walked
counted r list = walked (r.sequences + length list) (r.bytes + length (bytes_of list))

-- They can be counted.
pub record Room (r : Walked) (list : List (List ℕ)) : Type 0 where
  pub sequences : r.sequences + length list < 2 ^ 64
  pub bytes : r.bytes + length (bytes_of list) < 2 ^ 64
