use Rattle.queue_entries.proofs.Pick.{picks}
use Rattle.unbounded_acts.proofs.Arms.{parts}
use borrow.Author.Rules.{rules}
use Rattle.unbounded_pops.proofs.v2.Goals as goal

pub returns : goal.returns
returns c = search (rules, picks, parts)
