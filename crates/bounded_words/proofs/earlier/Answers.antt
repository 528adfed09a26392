use Rattle.bounded_words.proofs.Laws.{earlier_is}
use Rattle.std.proofs.Common.{rules}
use Rattle.bounded_words.proofs.earlier.Goals as goal

pub returns : goal.returns
returns c = search (rules, earlier_is)
