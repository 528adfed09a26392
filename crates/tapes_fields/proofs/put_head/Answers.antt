use native.Mathlib.Omega.{arith}
use Rattle.tapes_fields.proofs.Writing.{headed}
use Rattle.tapes_fields.proofs.put_head.Goals as goal

pub returns : goal.returns
returns c = headed _ _ _ _ _ (omega arith) c.put_opening.ensures _ _
    c.put_number.ensures c.put_number-2.ensures
