use mathlib.Core.Path.{refl}
use Rattle.bounded_rows.specs.Rows.{ends_in}
use Rattle.bounded_rows.proofs.ends_in.Goals as goal

pub returns : goal.returns
unfolding ends_in
returns c = refl
