use Rattle.std.proofs.Common.{◌≡◌, ◌≤◌, length}
use Rattle.bounded_lent.proofs.Making.{idle_first}
use Rattle.bounded_lent.proofs.make.Given as goal

-- so many records are idle, the rest as they were
abbrev pub invariant-loop-i : goal.invariant-loop-i
invariant-loop-i l =
    (l.n ≤ length l.records) × (l.records ≡ idle_first l.i l.initial.records)
