use borrow.Author.Rules.{rules}
use Rattle.single_machine.specs.Machine.{refused}
use Rattle.single_machine.proofs.refuse.Goals as goal

pub returns : goal.returns
unfolding refused
returns c = search rules
