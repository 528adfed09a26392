use Rattle.unbounded_machine.specs.Machine.{refused}
use borrow.Author.Rules.{rules}
use Rattle.unbounded_machine.proofs.refuse.Goals as goal

pub returns : goal.returns
unfolding refused
returns c = search rules
