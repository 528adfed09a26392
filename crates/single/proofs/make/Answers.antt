use Rattle.single.proofs.Parts.{make_0, make_2}
use borrow.Author.Rules.{rules}
use Rattle.single.proofs.make.Goals as goal

pub returns-then-in_limits : goal.returns-then-in_limits
returns-then-in_limits c = search (rules, make_0, make_2)

pub returns-else-in_limits : goal.returns-else-in_limits
returns-else-in_limits c = search (rules, make_0, make_2)
