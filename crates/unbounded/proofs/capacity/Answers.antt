use Rattle.unbounded.proofs.Steps.{capacity_6, capacity_none}
use borrow.Author.Rules.{rules}
use Rattle.unbounded.proofs.capacity.Goals as goal

pub returns-then-broken : goal.returns-then-broken
returns-then-broken c = search (rules, capacity_6)

pub returns-else-broken : goal.returns-else-broken
returns-else-broken c = search (rules, capacity_none)
