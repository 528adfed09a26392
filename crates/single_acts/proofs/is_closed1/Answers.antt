use Rattle.queue_entries.proofs.Pick.{picks}
use Rattle.single_acts.proofs.Arms.{parts}
use borrow.Author.Rules.{rules}
use Rattle.single_acts.proofs.is_closed1.Goals as goal

pub returns-then-closed : goal.returns-then-closed
returns-then-closed c = search (rules, picks, parts)

pub returns-else-closed : goal.returns-else-closed
returns-else-closed c = search (rules, picks, parts)
