use Rattle.unbounded_words.specs.Words.{unmarked_of}
use Rattle.std.proofs.Common.{rules}
use Rattle.unbounded_words.proofs.unmarked.Goals as goal

pub returns : goal.returns
unfolding unmarked_of
returns c = search rules
