use Rattle.bounded_words.proofs.Laws.{marked_above, unmarked_set, unmarked_clear}
use Rattle.std.proofs.Common.{rules}
use Rattle.bounded_words.proofs.unmarked.Goals as goal

pub overflow_sub-result : goal.overflow_sub-result
overflow_sub-result c = search (rules, marked_above)

pub returns-then-marked : goal.returns-then-marked
returns-then-marked c = search (rules, unmarked_set)

pub returns-else-marked : goal.returns-else-marked
returns-else-marked c = search (rules, unmarked_clear)
