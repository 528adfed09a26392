use mathlib.Core.Path.{refl}
use mathlib.Core.Bool.{true}
use Rattle.bounded_machine.proofs.Laws.{fair_by}
use Rattle.bounded_machine.proofs.broken.Goals as goal

pub records_fit-requires : goal.records_fit-requires
records_fit-requires c = fair_by _ _ true c.if-not-ring_fits.ensures refl
