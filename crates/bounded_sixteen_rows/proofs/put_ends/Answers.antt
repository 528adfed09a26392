use mathlib.Core.Path.{refl}
use Rattle.bounded_sixteen_rows.specs.SixteenRows.{with_ends}
use Rattle.bounded_sixteen_rows.proofs.put_ends.Goals as goal

pub returns : goal.returns
unfolding with_ends
returns c = refl
