use Rattle.unbounded_acts.specs.Acts.{tail_to}
use borrow.Author.Rules.{rules}
use Rattle.unbounded_acts.proofs.tail_to.Goals as goal

pub returns : goal.returns
unfolding tail_to
returns c = search rules
