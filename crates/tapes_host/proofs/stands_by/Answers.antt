use Rattle.tapes_host.proofs.Recording.{one_stands, none_stands}
use Rattle.tapes_host.proofs.stands_by.Goals as goal

pub returns-in-Some : goal.returns-in-Some
returns-in-Some c = one_stands _ _ _ _ c.in-Some.ensures

pub returns-in-None : goal.returns-in-None
returns-in-None c = none_stands _ _ _ c.in-None.ensures.0 c.in-None.ensures.1
