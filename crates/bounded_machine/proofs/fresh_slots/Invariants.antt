use mathlib.Core.Path.{◌≡◌}
use Rattle.bounded_machine.specs.Machine.{stamped, empty_slots}
use Rattle.bounded_machine.proofs.fresh_slots.Given as goal

abbrev pub invariant-loop-i : goal.invariant-loop-i
invariant-loop-i l = l.slots ≡ stamped l.i empty_slots
