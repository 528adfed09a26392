use Rattle.unbounded_judged.proofs.Kept.{ordered}
use borrow.Author.Rules.{rules}
use Rattle.unbounded_judged.proofs.in_order.Goals as goal

pub returns : goal.returns
returns c = search (rules, ordered)
