use Rattle.bounded_step_machine.proofs.Steps.{one_entry}
use borrow.Author.Rules.{rules}
use Rattle.bounded_step_machine.proofs.step.Goals as goal

pub returns : goal.returns
returns c = search (rules, one_entry)
