use mathlib.Core.Path.{refl}
use Rattle.bounded_codes.specs.Codes.{triple}
use Rattle.bounded_codes.proofs.triple.Goals as goal

pub returns : goal.returns
unfolding triple
returns c = refl
