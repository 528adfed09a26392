use Rattle.bounded_words.specs.declared.Width.TheVariants.{Sixteen}
use Rattle.bounded_acts.specs.Acts.{act_of}
use Rattle.bounded_machine.specs.Run.{run_of_by}
use Rattle.bounded_narrow.proofs.Shorts.{run_short}
use Rattle.bounded_narrow.proofs.Faces.{ran_fits, ran_is}
use Rattle.bounded_narrow.proofs.run.Goals as goal

pub narrow_ran-requires : goal.narrow_ran-requires
narrow_ran-requires c = ran_fits _ _ c.run.ensures (run_short _ c.widen.ensures.short _)

pub returns : goal.returns
returns c = ran_is (λ w. run_of_by (act_of Sixteen) w c.args.schedule.now) _ _ c.widen.ensures.same _
    c.run.ensures _ c.narrow_ran.ensures
