use mathlib.Core.Path.{◌≡◌}
use Rattle.bounded_causes.specs.Causes.{watched_to}
use Rattle.bounded_causes.proofs.watch_all.Given as goal

abbrev pub invariant-loop-i : goal.invariant-loop-i
invariant-loop-i l = l.now ≡ watched_to l.i l.w l.others l.d l.fn.xs
