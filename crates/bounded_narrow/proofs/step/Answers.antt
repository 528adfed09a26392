use Rattle.bounded_words.specs.declared.Width.TheVariants.{Sixteen}
use Rattle.bounded_acts.specs.Acts.{act_of}
use Rattle.bounded_step_machine.specs.Steps.{step_of_by}
use Rattle.bounded_narrow.proofs.Shorts.{step_short}
use Rattle.bounded_narrow.proofs.Faces.{did_fits, did_is}
use Rattle.bounded_narrow.proofs.step.Goals as goal

pub narrow_did-requires : goal.narrow_did-requires
narrow_did-requires c = did_fits _ _ c.step.ensures (step_short _ c.widen.ensures.short _ _)

pub returns : goal.returns
returns c = did_is (λ w. step_of_by (act_of Sixteen) w c.args.first c.args.second) _ _
    c.widen.ensures.same _ c.step.ensures _ c.narrow_did.ensures
