-- The limits of document 01 that hold for every queue, each once; and how a number or a row of records is held to one.
use Rattle.std.specs.Prelude.{ℕ, zero, suc, ◌+◌, Bool, true, false, cond, leb, eqb}

-- refusal 2: the most workers
abbrev pub workers_most : ℕ
workers_most = 16

-- refusal 7: the meter's last number
abbrev pub meter_most : ℕ
meter_most = 4294967295

-- not 0 and not above the most
unfoldable pub in_limits : ℕ → ℕ → Bool
in_limits n most = cond (eqb n 0) false (leb n most)

-- every test from the i-th on, so many of them
unfoldable pub all : ℕ → ℕ → (ℕ → Bool) → Bool
all zero i test = true
all (suc more) i test = cond (test i) (all more (i + 1) test) false
