use native.Mathlib.Omega.{arith}
use Rattle.tapes_fields.proofs.Writing.{opened}
use Rattle.tapes_fields.proofs.put_opening.Goals as goal

pub returns : goal.returns
returns c = opened _ _ _ _ _ _ (omega arith) c.tag.ensures c.put_number.ensures
