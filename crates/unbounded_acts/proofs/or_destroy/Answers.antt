use Rattle.unbounded_acts.proofs.Arms.{bit_kept, bit_set}
use borrow.Author.Rules.{rules}
use Rattle.unbounded_acts.proofs.or_destroy.Goals as goal

pub returns-then-n-eq1 : goal.returns-then-n-eq1
returns-then-n-eq1 c = search (rules, bit_kept)

pub returns-else-n-eq1 : goal.returns-else-n-eq1
returns-else-n-eq1 c = search (rules, bit_set)
