use mathlib.Core.Path.{refl}
use Rattle.single_codes.specs.Codes.{triple}
use Rattle.single_codes.proofs.triple.Goals as goal

pub returns : goal.returns
unfolding triple
returns c = refl
