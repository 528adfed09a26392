use Rattle.std.proofs.Common.{rules}
use Rattle.unbounded_words.specs.Words.{same_position}
use Rattle.unbounded_words.proofs.same_position.Goals as goal

pub returns : goal.returns
unfolding same_position
returns c = search rules
