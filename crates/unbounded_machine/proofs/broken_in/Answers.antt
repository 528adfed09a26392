use Rattle.unbounded_machine.proofs.Laws.{broken_count, broken_record, broken_drops}
use borrow.Author.Rules.{rules}
use Rattle.unbounded_machine.proofs.broken_in.Goals as goal

pub returns-then-not-in_limits : goal.returns-then-not-in_limits
returns-then-not-in_limits c = search (rules, broken_count)

pub returns-then-not-records_fit : goal.returns-then-not-records_fit
returns-then-not-records_fit c = search (rules, broken_record)

pub returns : goal.returns
returns c = search (rules, broken_drops)
