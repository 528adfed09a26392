use borrow.Author.Rules.{rules}
use Rattle.single_acts.specs.Acts.{value_to}
use Rattle.single_acts.proofs.value_to.Goals as goal

pub returns : goal.returns
unfolding value_to
returns c = search (rules)
