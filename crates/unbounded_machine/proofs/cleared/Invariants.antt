use mathlib.Core.Path.{◌≡◌}
use Prim.Native.Nat.{◌+◌, ◌*◌, ◌-◌}
use Rattle.unbounded_machine.specs.Turn.{cleared_from}
use Rattle.unbounded_machine.proofs.cleared.Given as goal

abbrev pub invariant-loop-i : goal.invariant-loop-i
invariant-loop-i l = cleared_from (31 - l.i) (l.k * 31 + l.i) l.slots ≡ cleared_from 31 (l.k * 31 + 0) l.initial.slots
