use native.Mathlib.Omega.{arith}
use Rattle.single_words.proofs.Masks.{unlocked_word}
use Rattle.single_words.proofs.unlocked.Goals as goal

pub returns : goal.returns
returns c = unlocked_word c.args.w (omega arith)
