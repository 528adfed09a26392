use mathlib.Core.Path.{ap, ◌∙◌}
use Rattle.bounded_places.specs.declared.View.{View}
use Rattle.bounded_machine.specs.Turn.{spot_of}
use Rattle.bounded_sequences.proofs.spot_of.Goals as goal

pub returns : goal.returns
returns c = c.spot.ensures ∙ ap (λ (v : View). spot_of c.args.f v.held) c.view_of.ensures
