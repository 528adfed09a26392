use Rattle.queue_entries.proofs.Pick.{picks}
use Rattle.unbounded_acts.proofs.Arms.{parts}
use borrow.Author.Rules.{rules}
use Rattle.unbounded_acts.proofs.close1.Goals as goal

pub returns-then-marked : goal.returns-then-marked
returns-then-marked c = search (rules, picks, parts)

pub returns-else-marked : goal.returns-else-marked
returns-else-marked c = search (rules, picks, parts)
