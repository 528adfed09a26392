use borrow.Author.Rules.{rules}
use Rattle.single_machine.specs.Machine.{accepted}
use Rattle.single_machine.proofs.accept.Goals as goal

pub returns : goal.returns
unfolding accepted
returns c = search rules
