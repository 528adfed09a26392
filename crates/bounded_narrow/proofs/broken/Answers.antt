use mathlib.Core.Path.{ap, ◌∙◌}
use Rattle.bounded_machine.specs.Broken.{broken_of}
use Rattle.bounded_narrow.proofs.broken.Goals as goal

pub returns : goal.returns
returns c = c.broken.ensures ∙ ap broken_of c.widen.ensures.same
