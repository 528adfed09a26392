use Rattle.bounded_words.proofs.Laws.{mark_kept, mark_set}
use Rattle.std.proofs.Common.{rules}
use Rattle.bounded_words.proofs.with_mark.Goals as goal

pub returns-then-marked : goal.returns-then-marked
returns-then-marked c = search (rules, mark_kept)

pub returns-else-marked : goal.returns-else-marked
returns-else-marked c = search (rules, mark_set)
