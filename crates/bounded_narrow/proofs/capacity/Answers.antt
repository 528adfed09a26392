use mathlib.Core.Path.{ap, ◌∙◌}
use Rattle.bounded_machine.specs.Contents.{capacity_of}
use Rattle.bounded_narrow.proofs.capacity.Goals as goal

pub returns : goal.returns
returns c = c.capacity.ensures ∙ ap capacity_of c.widen.ensures.same
