use Rattle.std.proofs.Common.{rules}
use Rattle.unbounded_words.specs.Words.{marked_of}
use Rattle.unbounded_words.proofs.marked.Goals as goal

pub returns : goal.returns
unfolding marked_of
returns c = search rules
