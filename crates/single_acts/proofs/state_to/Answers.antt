use borrow.Author.Rules.{rules}
use Rattle.single_acts.specs.Acts.{state_to}
use Rattle.single_acts.proofs.state_to.Goals as goal

pub returns : goal.returns
unfolding state_to
returns c = search (rules)
