use Rattle.single_machine.proofs.Laws.{broken_state, broken_count, broken_records}
use borrow.Author.Rules.{rules}
use Rattle.single_machine.proofs.broken.Goals as goal

pub returns-then-m-gt-STATES : goal.returns-then-m-gt-STATES
returns-then-m-gt-STATES c = search (rules, broken_state)

pub returns-then-not-in_limits : goal.returns-then-not-in_limits
returns-then-not-in_limits c = search (rules, broken_count)

pub returns : goal.returns
returns c = search (rules, broken_records)
