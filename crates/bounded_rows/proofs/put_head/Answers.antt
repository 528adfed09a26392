use mathlib.Core.Path.{refl}
use Rattle.bounded_rows.specs.Rows.{with_head}
use Rattle.bounded_rows.proofs.put_head.Goals as goal

pub returns : goal.returns
unfolding with_head
returns c = refl
