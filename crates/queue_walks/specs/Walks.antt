-- "Walk them all", item 10 of document 02, over any queue's machine: the list of every sequence of acts. An act is a byte, 16 × code + worker.
use Rattle.std.specs.Prelude.{ℕ, zero, suc, ◌+◌, ◌*◌, Bool, cond, List, [], ◌∷◌, ◌++◌, eqb}

-- at most so many workers, and a depth of at most so many acts
abbrev pub walkers_most : ℕ
walkers_most = 3

abbrev pub depth_most : ℕ
depth_most = 12

abbrev pub act_byte : ℕ → ℕ → ℕ
act_byte code worker = 16 * code + worker

-- These acts, and then each of the sequences.
unfoldable pub after : List ℕ → List (List ℕ) → List (List ℕ)
after acts [] = []
after acts (s ∷ more) = (acts ++ s) ∷ after acts more

-- Lowest worker first, code 8 before code 9: so many workers, from this one on.
unfoldable pub in_turn : (ℕ → ℕ → List (List ℕ)) → ℕ → ℕ → List (List ℕ)
in_turn choice zero worker = []
in_turn choice (suc more) worker = choice worker 8 ++ (choice worker 9 ++ in_turn choice more (worker + 1))

-- A machine M; what an entry gives, D, with its refusal (0 is none) and the machine after it; what an entry of two words makes of a machine;
-- how many workers a machine has, and whether all of them are idle.
module _ {M D : Type 0} (refusal : D → ℕ) (machine : D → M) (turn : M → ℕ → ℕ → D) (workers : M → ℕ) (idle : M → Bool) where
  -- From a worker's act back to a state, unless the act is refused there: by what is listed from that state.
  unfoldable pub choice_by : (M → List (List ℕ)) → M → ℕ → ℕ → List (List ℕ)
  choice_by walk m worker code =
      cond (eqb (refusal (turn m (16 * worker + code) 0)) 0)
      (after (act_byte code worker ∷ []) (walk (machine (turn m (16 * worker + code) 0))))
      []

  -- From a state to each busy worker in turn, with fewer acts left. It ends where none is left, or sooner because all workers are idle.
  unfoldable pub walk_by : ℕ → M → List (List ℕ)
  walk_by zero m = [] ∷ []
  walk_by (suc left) m = cond (idle m) ([] ∷ []) (in_turn (choice_by (walk_by left) m) (workers m) 0)
