use mathlib.Core.Path.{refl}
use Rattle.bounded_slices.specs.Slices.{with_fixed}
use Rattle.bounded_slices.proofs.put_fixed.Goals as goal

pub returns : goal.returns
unfolding with_fixed
returns c = refl
