use Rattle.unbounded_machine.specs.Machine.{accepted}
use borrow.Author.Rules.{rules}
use Rattle.unbounded_machine.proofs.accept.Goals as goal

pub returns : goal.returns
unfolding accepted
returns c = search rules
