use Rattle.bounded_step_record.proofs.Turns.{slot_at}
use Rattle.bounded_step_record.proofs.slot_of.Goals as goal

pub returns-then-v : goal.returns-then-v
returns-then-v c = slot_at c.args.f c.args.r c.view_of-v.result _
    c.view_of-v.ensures c.if-v.true c.spot.ensures
