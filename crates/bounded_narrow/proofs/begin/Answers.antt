use Rattle.bounded_words.specs.declared.Width.TheVariants.{Sixteen}
use Rattle.bounded_acts.specs.Acts.{act_of}
use Rattle.bounded_step_machine.specs.Steps.{begin_step_of_by}
use Rattle.bounded_narrow.proofs.Shorts.{begin_short}
use Rattle.bounded_narrow.proofs.Faces.{did_fits, did_is}
use Rattle.bounded_narrow.proofs.begin.Goals as goal

pub narrow_did-requires : goal.narrow_did-requires
narrow_did-requires c = did_fits _ _ c.begin.ensures (begin_short _ c.widen.ensures.short _ _)

pub returns : goal.returns
returns c = did_is (λ w. begin_step_of_by (act_of Sixteen) w c.args.first c.args.second) _ _
    c.widen.ensures.same _ c.begin.ensures _ c.narrow_did.ensures
