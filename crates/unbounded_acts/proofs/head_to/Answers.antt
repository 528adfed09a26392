use Rattle.unbounded_acts.specs.Acts.{head_to}
use borrow.Author.Rules.{rules}
use Rattle.unbounded_acts.proofs.head_to.Goals as goal

pub returns : goal.returns
unfolding head_to
returns c = search rules
