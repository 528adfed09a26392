use Rattle.unbounded_acts.specs.Acts.{next_to}
use borrow.Author.Rules.{rules}
use Rattle.unbounded_acts.proofs.next_to.Goals as goal

pub returns : goal.returns
unfolding next_to
returns c = search rules
