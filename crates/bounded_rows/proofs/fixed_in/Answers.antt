use mathlib.Core.Path.{refl}
use Rattle.bounded_rows.specs.Rows.{fixed_in}
use Rattle.bounded_rows.proofs.fixed_in.Goals as goal

pub returns : goal.returns
unfolding fixed_in
returns c = refl
