use borrow.Author.Rules.{rules}
use Rattle.unbounded_machine.specs.Run.{ran}
use Rattle.unbounded_runs.proofs.ran.Goals as goal

pub returns : goal.returns
unfolding ran
returns c = search rules
