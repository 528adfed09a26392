use borrow.Author.Rules.{rules}
use Rattle.bounded_orders.proofs.Making.{slots_few}
use Rattle.bounded.proofs.Answers.{made, turned}
use Rattle.bounded.proofs.make.Goals as goal

pub fresh-requires : goal.fresh-requires
fresh-requires c = search (rules, slots_few)

pub returns-then-number-eq0 : goal.returns-then-number-eq0
returns-then-number-eq0 c = search (rules, made)

pub returns-else-number-eq0 : goal.returns-else-number-eq0
returns-else-number-eq0 c = search (rules, turned)
