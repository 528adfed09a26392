use mathlib.Core.Path.{refl}
use Rattle.bounded_rows.specs.Rows.{slot_at}
use Rattle.bounded_rows.proofs.slot_at.Goals as goal

pub returns : goal.returns
unfolding slot_at
returns c = refl
