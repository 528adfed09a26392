use Rattle.bounded.proofs.Answers.{capacity_is}
use borrow.Author.Rules.{rules}
use Rattle.bounded.proofs.capacity.Goals as goal

pub returns : goal.returns
returns c = search (rules, capacity_is)
