use Rattle.tapes_host.proofs.Answering.{wrote, no_variant}
use Rattle.tapes_host.proofs.fern_tape_write.Goals as goal

pub returns-in_default : goal.returns-in_default
returns-in_default c = no_variant _ _ _ _ _ c.in_default.ensures.0 c.in_default.ensures.1

pub returns : goal.returns
returns c = wrote _ _ _ _ _ _ _ _ c.write.ensures.answer c.from.ensures _ c.in-Some.ensures c.write.ensures.lent
