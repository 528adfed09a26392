use native.Mathlib.Omega.{arith}
use Rattle.unbounded_words.specs.Words.{minus}
use Rattle.unbounded_words.proofs.less.Goals as goal

pub returns : goal.returns
unfolding minus
returns c = omega arith
