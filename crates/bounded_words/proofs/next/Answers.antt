use Rattle.bounded_words.proofs.Laws.{next_low, next_high}
use Rattle.std.proofs.Common.{rules}
use Rattle.bounded_words.proofs.next.Goals as goal

pub returns-then-i-f : goal.returns-then-i-f
returns-then-i-f c = search (rules, next_low)

pub returns-else-i-f : goal.returns-else-i-f
returns-else-i-f c = search (rules, next_high)
