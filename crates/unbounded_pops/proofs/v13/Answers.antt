use Rattle.queue_entries.proofs.Pick.{picks}
use Rattle.unbounded_acts.proofs.Arms.{parts}
use borrow.Author.Rules.{rules}
use Rattle.unbounded_pops.proofs.v13.Goals as goal

pub returns-then-has_read : goal.returns-then-has_read
returns-then-has_read c = search (rules, picks, parts)

pub returns-else-has_read : goal.returns-else-has_read
returns-else-has_read c = search (rules, picks, parts)
