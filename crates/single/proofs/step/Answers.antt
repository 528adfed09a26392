use Rattle.single.proofs.Parts.{one_entry}
use borrow.Author.Rules.{rules}
use Rattle.single.proofs.step.Goals as goal

pub returns : goal.returns
returns c = search (rules, one_entry)
