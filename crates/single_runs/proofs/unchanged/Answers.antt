use mathlib.Core.Path.{refl}
use Rattle.single_machine.specs.Run.{ran}
use Rattle.single_runs.proofs.unchanged.Goals as goal

pub returns : goal.returns
unfolding ran
returns c = refl
