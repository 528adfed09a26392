use Rattle.std.proofs.Common.{◌≡◌}
use Rattle.bounded_moments.proofs.Kept.{mapped_to, hears}
use Rattle.bounded_moments.proofs.heard_by_all.Given as goal

abbrev pub invariant-loop-i : goal.invariant-loop-i
invariant-loop-i l = l.now ≡ mapped_to l.i (hears l.moved l.place) l.fn.xs
