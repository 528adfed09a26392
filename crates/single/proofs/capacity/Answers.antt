use Rattle.single.proofs.Parts.{capacity_6, capacity_1}
use borrow.Author.Rules.{rules}
use Rattle.single.proofs.capacity.Goals as goal

pub returns-then-broken : goal.returns-then-broken
returns-then-broken c = search (rules, capacity_6)

pub returns-else-broken : goal.returns-else-broken
returns-else-broken c = search (rules, capacity_1)
