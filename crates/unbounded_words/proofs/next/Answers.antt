use mathlib.Core.Path.{refl}
use Rattle.unbounded_words.specs.Words.{later}
use Rattle.unbounded_words.proofs.next.Goals as goal

pub returns : goal.returns
unfolding later
returns c = refl
