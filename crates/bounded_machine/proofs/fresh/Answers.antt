use Rattle.bounded_machine.proofs.Laws.{fresh_is}
use native.Mathlib.Omega.{arith}
use Rattle.bounded_words.proofs.Marks.{mark_is}
use Rattle.bounded_machine.proofs.fresh.Goals as goal

pub overflow_mul-result : goal.overflow_mul-result
overflow_mul-result c = let s = mark_is c.args.capacity in omega (arith, s.least, c.mark_of-mark.ensures)

pub returns : goal.returns
returns c = fresh_is _ _ _ _ _ c.mark_of-mark.ensures c.fresh_slots.ensures
