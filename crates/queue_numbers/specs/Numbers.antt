-- The numbers that a refusal can have, as a list of them; 0 is none. And the functions of a face, of which demand 1 is said.
use Rattle.std.specs.Prelude.{ℕ, Bool, true, false, cond, List, [], ◌∷◌, eqb}

-- A number of this list.
unfoldable pub has : List ℕ → ℕ → Bool
has [] n = false
has (x ∷ l) n = cond (eqb n x) true (has l n)

-- A ground of refusal: its number, and whether it holds. Of several in their order the first that holds is given; 0, none, where none does. So each number is given exactly when its ground holds
-- and no ground before it.
pub record Ground : Type 0 where
  pub number : ℕ
  pub holds : Bool

abbrev pub on : ℕ → Bool → Ground
on number holds = record { number = number; holds = holds }

abbrev pub first_of : List Ground → ℕ
first_of [] = 0
first_of (g ∷ rest) = cond g.holds g.number (first_of rest)

-- The numbers that the functions of a face give, on machines M.
pub record Numbers (M : Type 0) : Type 0 where
  pub make : ℕ → ℕ
  pub step : M → ℕ → ℕ → ℕ
  pub begin : M → ℕ → ℕ → ℕ
  pub act : M → ℕ → ℕ → ℕ
  pub run : M → List ℕ → ℕ
  -- with room for so many items
  pub contents : M → ℕ → ℕ

-- What the functions of a face answer, on machines M: D of a making and of an entry, R of a schedule; and what a lent buffer holds after contents were asked for.
pub record Functions (M D R : Type 0) : Type 0 where
  pub make : ℕ → D
  pub step : M → ℕ → ℕ → D
  pub begin : M → ℕ → ℕ → D
  pub act : M → ℕ → ℕ → D
  pub run : M → List ℕ → R
  pub written : M → List ℕ → List ℕ
