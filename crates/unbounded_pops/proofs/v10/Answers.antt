use Rattle.queue_entries.proofs.Pick.{picks}
use Rattle.unbounded_acts.proofs.Arms.{parts}
use borrow.Author.Rules.{rules}
use Rattle.unbounded_pops.proofs.v10.Goals as goal

pub returns-then-has_write : goal.returns-then-has_write
returns-then-has_write c = search (rules, picks, parts)

pub returns-else-has_write : goal.returns-else-has_write
returns-else-has_write c = search (rules, picks, parts)
