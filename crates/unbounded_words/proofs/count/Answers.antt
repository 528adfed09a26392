use Rattle.unbounded_words.proofs.Laws.{count_is}
use Rattle.std.proofs.Common.{rules}
use Rattle.unbounded_words.proofs.count.Goals as goal

pub returns : goal.returns
returns c = search (rules, count_is)
