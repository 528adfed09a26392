use Rattle.unbounded_rows.proofs.Standing.{machine_read}
use borrow.Author.Rules.{rules}
use Rattle.unbounded_rows.proofs.machine_in.Goals as goal

pub returns : goal.returns
returns c = search (rules, machine_read)
