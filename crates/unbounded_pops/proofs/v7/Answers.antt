use Rattle.unbounded_acts.proofs.Arms.{parts, eighth_is}
use borrow.Author.Rules.{rules}
use Rattle.unbounded_pops.proofs.v7.Goals as goal

pub returns : goal.returns
returns c = search (rules, parts, eighth_is)
