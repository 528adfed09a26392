use native.Mathlib.Omega.{arith}
use Rattle.single_words.proofs.Masks.{taken_word}
use Rattle.single_words.proofs.taken.Goals as goal

pub returns : goal.returns
returns c = taken_word c.args.w (omega arith)
