use Rattle.unbounded_acts.specs.Acts.{leave}
use borrow.Author.Rules.{rules}
use Rattle.unbounded_acts.proofs.leave.Goals as goal

pub returns : goal.returns
unfolding leave
returns c = search rules
