use borrow.Author.Rules.{rules}
use Rattle.single_machine.specs.Run.{ran}
use Rattle.single_runs.proofs.ran.Goals as goal

pub returns : goal.returns
unfolding ran
returns c = search rules
