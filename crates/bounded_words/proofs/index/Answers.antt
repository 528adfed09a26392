use Rattle.bounded_words.proofs.Laws.{indexed}
use Rattle.std.proofs.Common.{rules}
use Rattle.bounded_words.proofs.index.Goals as goal

pub returns : goal.returns
returns c = search (rules, indexed)
