use Rattle.unbounded_words.specs.Words.{with_mark}
use Rattle.std.proofs.Common.{rules}
use Rattle.unbounded_words.proofs.with_mark.Goals as goal

pub returns : goal.returns
unfolding with_mark
returns c = search rules
