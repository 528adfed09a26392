use Rattle.queue_entries.proofs.Pick.{picks}
use Rattle.unbounded_acts.proofs.Arms.{parts, take_is}
use borrow.Author.Rules.{rules}
use Rattle.unbounded_pops.proofs.v3.Goals as goal

pub returns-then-marked : goal.returns-then-marked
returns-then-marked c = search (rules, picks, parts)

pub returns-else-marked : goal.returns-else-marked
returns-else-marked c = search (rules, picks, parts)

pub returns-else-same_position : goal.returns-else-same_position
returns-else-same_position c = search (rules, picks, parts, take_is)
