use mathlib.Core.Path.{refl}
use Rattle.unbounded_codes.specs.Codes.{five}
use Rattle.unbounded_codes.proofs.five.Goals as goal

pub returns : goal.returns
unfolding five
returns c = refl
