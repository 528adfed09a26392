-- The functions of a walk, of which `WalkTold` of Demands.antt is said. And the table of walks: calls just begun on one slot, and how many sequences of so many acts there are. What is said of it:
-- `WalksCounted` of Demands.antt, proved in proofs/Walkings.antt.
use Rattle.std.specs.Prelude.{ℕ, List, [], ◌∷◌, ◌++◌, length, Result}
use Rattle.bounded_machine.specs.declared.Machine.{Machine}
use Rattle.bounded_sequences.specs.Sequences.{walk_of}
use Rattle.queue_walks.specs.declared.Walked.{Walked}
use Rattle.bounded_walks.specs.Walks.{walk_refusal, walk_told, listed, size_of}
use Rattle.bounded_demands.specs.Notions.{document01, machine_after, acts}

-- Of a machine and so many acts: the refusal with room for so many bytes, the answer, the buffer after it, and the size.
pub record WalkFace : Type 0 where
  pub refusal : Machine → ℕ → ℕ → ℕ
  pub told : Machine → ℕ → List ℕ → Result ℕ ℕ
  pub listed : Machine → ℕ → List ℕ → List ℕ
  pub size : Machine → ℕ → Result Walked ℕ

-- Crate bounded_walks's.
abbrev pub item10 : WalkFace
item10 = record { refusal = walk_refusal; told = walk_told; listed = listed; size = size_of }

pub record Walking : Type 0 where
  pub schedule : List ℕ
  pub depth : ℕ
  pub sequences : ℕ

abbrev walking : List ℕ → ℕ → ℕ → Walking
walking s d n = record { schedule = s; depth = d; sequences = n }

-- Two pushes; a push and a pop; case F's force_push and close, on a ring that 7 has filled.
unfoldable pub walkings : List Walking
walkings =
    walking (0 ∷ 5 ∷ 16 ∷ 6 ∷ []) 8 1056
    ∷ walking (0 ∷ 5 ∷ 18 ∷ 0 ∷ []) 12 1857
    ∷ walking ((0 ∷ 7 ∷ acts 0 5) ++ (1 ∷ 8 ∷ 22 ∷ 0 ∷ [])) 12 32
    ∷ []

-- From a fresh ring of one slot with two workers.
unfoldable pub walked : Walking → ℕ
walked w = length (walk_of w.depth (machine_after document01 1 2 1 w.schedule))
