use Rattle.unbounded_acts.proofs.Arms.{parts, destroy_is}
use borrow.Author.Rules.{rules}
use Rattle.unbounded_pops.proofs.v14.Goals as goal

pub returns : goal.returns
returns c = search (rules, parts, destroy_is)
