-- The most stock: of each ring a schedule after which it is full and workers stand at F8, and a table of some. What is said of them: `StockAttained` and `MostStock`
-- of Demands.antt.
use Rattle.std.specs.Prelude.{ℕ, zero, suc, ◌+◌, ◌*◌, List, [], ◌∷◌, ◌++◌}
use Rattle.bounded_machine.specs.Machine.{fresh_of}
use Rattle.bounded_machine.specs.History.{history_of}
use Rattle.bounded_demands.specs.Notions.{acts, stock, lesser}

-- Worker 0 pushes so many items, one after another.
unfoldable pub pushes : ℕ → List ℕ
pushes zero = []
pushes (suc n) = 0 ∷ 7 ∷ acts 0 5 ++ pushes n

-- So many workers each begin a force_push and do P1, P2, F6 and F7 of it.
unfoldable pub forces : ℕ → List ℕ
forces zero = []
forces (suc w) = (16 * w + 1) ∷ 8 ∷ acts w 4 ++ forces w

-- A ring of this capacity is filled, and then as many workers as can claim in it each do all but read.
abbrev pub shelving : ℕ → ℕ → List ℕ
shelving capacity workers = pushes capacity ++ forces (lesser capacity workers)

pub record Shelf : Type 0 where
  pub capacity : ℕ
  pub workers : ℕ
  pub edition : ℕ

abbrev shelf : ℕ → ℕ → ℕ → Shelf
shelf c w e = record { capacity = c; workers = w; edition = e }

unfoldable pub stock_at_most : Shelf → ℕ
stock_at_most r =
    stock (history_of (fresh_of r.capacity r.workers r.edition) (shelving r.capacity r.workers))

unfoldable pub fullest : List Shelf
fullest =
    shelf 1 1 1 ∷ shelf 1 2 1 ∷ shelf 2 1 1 ∷ shelf 2 2 1 ∷ shelf 2 3 1 ∷ shelf 3 2 1 ∷ shelf 4 16 1
    ∷ shelf 1 1 2 ∷ shelf 1 2 2 ∷ shelf 2 1 2 ∷ shelf 2 2 2 ∷ shelf 2 3 2 ∷ shelf 3 2 2 ∷ shelf 4 16 2 ∷ []
