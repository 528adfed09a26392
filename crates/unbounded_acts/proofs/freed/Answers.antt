use Rattle.unbounded_acts.specs.Acts.{freed}
use borrow.Author.Rules.{rules}
use Rattle.unbounded_acts.proofs.freed.Goals as goal

pub returns : goal.returns
unfolding freed
returns c = search rules
