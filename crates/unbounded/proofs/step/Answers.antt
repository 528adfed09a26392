use Rattle.unbounded.proofs.Steps.{one_entry}
use borrow.Author.Rules.{rules}
use Rattle.unbounded.proofs.step.Goals as goal

pub returns : goal.returns
returns c = search (rules, one_entry)
