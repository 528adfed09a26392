use Rattle.unbounded_acts.specs.Acts.{front_to}
use borrow.Author.Rules.{rules}
use Rattle.unbounded_acts.proofs.front_to.Goals as goal

pub returns : goal.returns
unfolding front_to
returns c = search rules
