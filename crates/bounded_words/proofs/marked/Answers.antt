use Rattle.bounded_words.proofs.Laws.{mark_test}
use Rattle.std.proofs.Common.{rules}
use Rattle.bounded_words.proofs.marked.Goals as goal

pub returns : goal.returns
returns c = search (rules, mark_test)
