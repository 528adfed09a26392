use Rattle.queue_entries.proofs.Pick.{picks}
use Rattle.unbounded_acts.proofs.Arms.{parts}
use borrow.Author.Rules.{rules}
use Rattle.unbounded_pops.proofs.v6.Goals as goal

pub returns-then-is_none : goal.returns-then-is_none
returns-then-is_none c = search (rules, picks, parts)

pub returns-else-is_none : goal.returns-else-is_none
returns-else-is_none c = search (rules, picks, parts)
