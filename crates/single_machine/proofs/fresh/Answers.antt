use mathlib.Core.Path.{refl}
use Rattle.single_machine.specs.Machine.{fresh_of, idlers}
use Rattle.single_machine.proofs.fresh.Goals as goal

pub returns : goal.returns
unfolding fresh_of idlers
returns c = refl
