use Rattle.unbounded_acts.specs.Acts.{has}
use borrow.Author.Rules.{rules}
use Rattle.unbounded_acts.proofs.has_destroy.Goals as goal

pub returns : goal.returns
unfolding has
returns c = search rules
