use native.Mathlib.Omega.{arith}
use Rattle.bounded_words.proofs.Marks.{mark_is}
use Rattle.bounded_machine.proofs.by_rule.Goals as goal

pub overflow_mul-result : goal.overflow_mul-result
overflow_mul-result c = let s = mark_is c.args.f.capacity in omega (arith, s.least, c.mark_of-mark.ensures)
