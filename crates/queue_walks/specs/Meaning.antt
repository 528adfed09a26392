-- What the list of a walk is to be: which sequences are in it, and in which order. The worker of an act's byte is its part below 16.
use Rattle.std.specs.Prelude.{ℕ, suc, ◌+◌, ◌*◌, ◌%◌, ◌<◌, ◌≡◌, Bool, true, false, ◌⊎◌}
use mathlib.Core.List.{List, [], ◌∷◌, Memᴰ}
use Rattle.queue_walks.specs.Walks.{act_byte}

-- A machine M; what an entry gives, D, with its refusal (0 is none) and the machine after it; what an entry of two words makes of a machine;
-- how many workers a machine has, and whether all of them are idle.
module _ {M D : Type 0} (refusal : D → ℕ) (machine : D → M) (turn : M → ℕ → ℕ → D) (workers : M → ℕ) (idle : M → Bool) where
  -- A sequence of exactly so many acts from this machine, or ending sooner because all workers are idle and not before: each act is an
  -- entry that is accepted there, of code 8 or 9.
  pub data Goes : ℕ → M → List ℕ → Type 0 where
    none_left : {m : M} → Goes 0 m []
    none_busy : {left : ℕ} {m : M} → idle m ≡ true → Goes (suc left) m []
    goes_on : {left : ℕ} {m : M} {act : ℕ} {s : List ℕ} (worker code : ℕ) → idle m ≡ false → worker < workers m → (code ≡ 8) ⊎ (code ≡ 9) → act ≡ act_byte code worker
        → refusal (turn m (16 * worker + code) 0) ≡ 0 → Goes left (machine (turn m (16 * worker + code) 0)) s → Goes (suc left) m (act ∷ s)

-- Lowest worker first, code 8 before code 9, at the first act in which they differ.
pub data Before : List ℕ → List ℕ → Type 0 where
  lower : {a b : ℕ} {s t : List ℕ} → a % 16 < b % 16 → Before (a ∷ s) (b ∷ t)
  sooner : {a b : ℕ} {s t : List ℕ} → a % 16 ≡ b % 16 → a < b → Before (a ∷ s) (b ∷ t)
  further : {a b : ℕ} {s t : List ℕ} → a ≡ b → Before s t → Before (a ∷ s) (b ∷ t)

-- Each is before all that follow it, so none is there twice.
abbrev pub InOrder : List (List ℕ) → Type 0
InOrder [] = Unit {0}
InOrder (s ∷ more) = ((t : List ℕ) → Memᴰ t more → Before s t) × InOrder more
