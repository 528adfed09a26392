-- One worker's acts among the entries of a schedule, over any queue's machine.
use Rattle.std.specs.Prelude.{ℕ, zero, suc, ◌+◌, ◌*◌, cond, List, [], ◌∷◌, eqb}
use Rattle.queue_entries.specs.declared.Order.TheVariants.{Begin, Act}
use Rattle.queue_entries.specs.declared.Entry.{Entry}
use Rattle.queue_entries.specs.declared.Entry.TheVariants.{Unreadable, Asks}
use Rattle.queue_entries.specs.Entries.{entry_of}

-- The entries of so many acts of one worker, code 8.
unfoldable pub acts : ℕ → ℕ → List ℕ
acts worker zero = []
acts worker (suc n) = (16 * worker + 8) ∷ 0 ∷ acts worker n

-- An entry is an act of w.
abbrev pub act_by : ℕ → Entry → ℕ
act_by w Unreadable = 0
act_by w (Asks v (Begin c)) = 0
act_by w (Asks v (Act lose)) = cond (eqb v w) 1 0

-- A machine M; what an entry gives, D, with its refusal (0 is none) and the machine after it; what an entry of two words makes of a machine.
module _ {M D : Type 0} (refusal : D → ℕ) (machine : D → M) (turn : M → ℕ → ℕ → D) where
  -- Entries one after another, refused ones passed over.
  unfoldable pub passed_by : M → List ℕ → M
  passed_by m [] = m
  passed_by m (first ∷ []) = m
  passed_by m (first ∷ second ∷ others) = passed_by (machine (turn m first second)) others

  -- How many of them are acts of w, and accepted.
  unfoldable pub own_acts_by : ℕ → M → List ℕ → ℕ
  own_acts_by w m [] = 0
  own_acts_by w m (first ∷ []) = 0
  own_acts_by w m (first ∷ second ∷ others) =
      cond (eqb (refusal (turn m first second)) 0) (act_by w (entry_of first second)) 0 + own_acts_by w (machine (turn m first second)) others
