use Rattle.bounded_words.proofs.Laws.{later_is}
use Rattle.std.proofs.Common.{rules}
use Rattle.bounded_words.proofs.later.Goals as goal

pub returns : goal.returns
returns c = search (rules, later_is)
