use mathlib.Core.Path.{refl}
use Rattle.bounded_rows.specs.Rows.{with_slot}
use Rattle.bounded_rows.proofs.put_slot.Goals as goal

pub returns : goal.returns
unfolding with_slot
returns c = refl
