use mathlib.Core.Path.{refl}
use Rattle.bounded_machine.specs.Machine.{blank, empty_slots, idlers}
use Rattle.bounded_machine.proofs.blank.Goals as goal

pub returns : goal.returns
unfolding blank empty_slots idlers
returns c = refl
