use Rattle.unbounded_acts.proofs.Arms.{state_is}
use borrow.Author.Rules.{rules}
use Rattle.unbounded_acts.proofs.set_read.Goals as goal

pub returns : goal.returns
returns c = search (rules, state_is)
