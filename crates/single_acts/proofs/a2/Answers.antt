use Rattle.queue_entries.proofs.Pick.{picks}
use Rattle.single_acts.proofs.Arms.{parts}
use borrow.Author.Rules.{rules}
use Rattle.single_acts.proofs.a2.Goals as goal

pub returns : goal.returns
returns c = search (rules, picks, parts)
