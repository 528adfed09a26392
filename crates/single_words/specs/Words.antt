-- The state word of src/single.rs, bit by bit: LOCKED is 1, PUSHED 2, CLOSED 4. Bits are read and changed by arithmetic, for every
-- word: a held word is judged by no rule.
use Rattle.std.specs.Prelude.{ℕ, ◌+◌, ◌*◌, ◌/◌, ◌%◌, Bool, cond, eqb}
use Rattle.single_words.specs.declared.State.{State}

abbrev pub state : ℕ → State
state n = record { 0 = n }

-- An exchange finds the word that it expects.
unfoldable pub same : State → State → Bool
same a b = eqb a.0 b.0

-- const LOCKED: usize = 1 << 0; const PUSHED: usize = 1 << 1; const CLOSED: usize = 1 << 2
unfoldable pub locked_in : State → Bool
locked_in w = eqb (w.0 % 2) 1

unfoldable pub pushed_in : State → Bool
pushed_in w = eqb (w.0 / 2 % 2) 1

unfoldable pub closed_in : State → Bool
closed_in w = eqb (w.0 / 4 % 2) 1

-- a word of the three bits and no other
abbrev pub state_most : ℕ
state_most = 7

-- LOCKED | PUSHED: what push and force_push exchange the word for
abbrev pub filled : State
filled = state 3

-- state & !LOCKED
unfoldable pub unlocked : State → State
unlocked w = state (w.0 / 2 * 2)

-- (state | LOCKED) & !PUSHED
unfoldable pub taken_of : State → State
taken_of w = state (w.0 / 4 * 4 + 1)

-- state | CLOSED
unfoldable pub closed_of_word : State → State
closed_of_word w = cond (closed_in w) w (state (w.0 + 4))
