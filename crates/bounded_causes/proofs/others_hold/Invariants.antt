use Prim.Native.Nat.{ℕ, ◌-◌}
use mathlib.Core.Path.{◌≡◌}
use mathlib.Core.Bool.{true, cond, not}
use lib.Dec.{eqb}
use Rattle.queue_entries.specs.Limits.{all}
use Rattle.bounded_causes.specs.Causes.{watched_most, watch_of}
use Rattle.bounded_causes.proofs.others_hold.Given as goal

abbrev pub invariant-loop-i : goal.invariant-loop-i
invariant-loop-i l =
    all (watched_most - l.i) l.i (λ (k : ℕ). cond (eqb k l.w) true (not (watch_of l.fn.xs k).hand)) ≡ all watched_most 0 (λ (k : ℕ). cond (eqb k l.w) true (not (watch_of l.fn.xs k).hand))
