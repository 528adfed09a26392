use mathlib.Core.Path.{ap, ◌∙◌}
use Rattle.bounded_sixteen_bits.specs.SixteenBits.{narrowed_did}
use Rattle.bounded_narrow.proofs.Shorts.{make_short}
use Rattle.bounded_narrow.proofs.Faces.{did_fits}
use Rattle.bounded_narrow.proofs.make.Goals as goal

pub narrow_did-requires : goal.narrow_did-requires
narrow_did-requires c = did_fits _ _ c.make.ensures (make_short _ _ _)

pub returns : goal.returns
returns c = c.narrow_did.ensures ∙ ap narrowed_did c.make.ensures
