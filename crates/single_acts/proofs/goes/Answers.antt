use borrow.Author.Rules.{rules}
use Rattle.single_acts.specs.Acts.{goes}
use Rattle.single_acts.proofs.goes.Goals as goal

pub returns : goal.returns
unfolding goes
returns c = search (rules)
