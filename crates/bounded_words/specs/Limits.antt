-- The limits of document 01 that are the ring's own, each once (those of every queue: crates/queue_entries/specs/Limits.antt).
use Rattle.std.specs.Prelude.{ℕ, ◌^◌}

-- refusal 1: the most slots
abbrev pub slots_most : ℕ
slots_most = 1024

-- refusal 18: the last edition; the first is 1
abbrev pub editions_most : ℕ
editions_most = 2

-- how many words there are of 64 bits, and of sixteen
abbrev pub wide : ℕ
wide = 2 ^ 64

abbrev pub narrow : ℕ
narrow = 65536
