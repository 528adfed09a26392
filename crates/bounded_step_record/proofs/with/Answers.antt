use mathlib.Core.Path.{refl}
use Rattle.bounded_step_record.specs.Entries.{with}
use Rattle.bounded_step_record.proofs.with.Goals as goal

pub returns : goal.returns
unfolding with
returns c = refl
