use Rattle.std.proofs.Common.{◌≡◌, length}
use Rattle.bounded_lent.proofs.Running.{Going}
use Rattle.bounded_lent.proofs.run.Given as goal

-- i entries were run
abbrev pub invariant-loop-i : goal.invariant-loop-i
invariant-loop-i l =
    (length l.records ≡ length l.initial.records) × Going l.initial.ring l.initial.records l.schedule l.whole l.n l.i l.ring l.records
