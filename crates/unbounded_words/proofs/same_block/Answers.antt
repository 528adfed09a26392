use Rattle.std.proofs.Common.{rules}
use Rattle.unbounded_words.specs.Words.{same_block}
use Rattle.unbounded_words.proofs.same_block.Goals as goal

pub returns : goal.returns
unfolding same_block
returns c = search rules
