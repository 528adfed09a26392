use Rattle.bounded_orders.proofs.Making.{told_6, told_capacity}
use borrow.Author.Rules.{rules}
use Rattle.bounded_orders.proofs.capacity_told.Goals as goal

pub returns-then-broken : goal.returns-then-broken
returns-then-broken c = search (rules, told_6)

pub returns : goal.returns
returns c = search (rules, told_capacity)
