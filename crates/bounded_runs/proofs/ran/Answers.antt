use mathlib.Core.Path.{refl}
use Rattle.bounded_machine.specs.Run.{ran}
use Rattle.bounded_runs.proofs.ran.Goals as goal

pub returns : goal.returns
unfolding ran
returns c = refl
