use Rattle.bounded_orders.proofs.Making.{not_refused, is_refused}
use borrow.Author.Rules.{rules}
use Rattle.bounded_orders.proofs.unless_refused.Goals as goal

pub returns-then-number-eq0 : goal.returns-then-number-eq0
returns-then-number-eq0 c = search (rules, not_refused)

pub returns-else-number-eq0 : goal.returns-else-number-eq0
returns-else-number-eq0 c = search (rules, is_refused)
