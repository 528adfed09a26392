use Rattle.queue_entries.proofs.Pick.{picks}
use Rattle.single_acts.proofs.Arms.{parts}
use borrow.Author.Rules.{rules}
use Rattle.single_acts.proofs.empty1.Goals as goal

pub returns-then-pushed : goal.returns-then-pushed
returns-then-pushed c = search (rules, picks, parts)

pub returns-else-pushed : goal.returns-else-pushed
returns-else-pushed c = search (rules, picks, parts)
