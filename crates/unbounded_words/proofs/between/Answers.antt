use Rattle.unbounded_words.proofs.Laws.{behind_is}
use Rattle.std.proofs.Common.{rules}
use Rattle.unbounded_words.proofs.between.Goals as goal

pub returns : goal.returns
returns c = search (rules, behind_is)
