use Rattle.single_acts.proofs.Arms.{parts}
use Rattle.single_acts.specs.Acts.{unlocked_in}
use borrow.Author.Rules.{rules}
use Rattle.single_acts.proofs.unlock.Goals as goal

pub returns : goal.returns
unfolding unlocked_in
returns c = search (rules, parts)
