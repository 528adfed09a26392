use Rattle.unbounded.proofs.Steps.{make_2, make_0}
use borrow.Author.Rules.{rules}
use Rattle.unbounded.proofs.make.Goals as goal

pub returns-then-in_limits : goal.returns-then-in_limits
returns-then-in_limits c = search (rules, make_2, make_0)

pub returns-else-in_limits : goal.returns-else-in_limits
returns-else-in_limits c = search (rules, make_2, make_0)
