use Rattle.unbounded_host.proofs.Answering.{stepped_on}
use borrow.Author.Rules.{rules}
use Rattle.unbounded_host.proofs.step_on.Goals as goal

pub returns : goal.returns
returns c = search (rules, stepped_on)
