use Rattle.unbounded_words.specs.Words.{same}
use Rattle.queue_entries.proofs.Pick.{picks}
use Rattle.unbounded_acts.proofs.Arms.{parts}
use borrow.Author.Rules.{rules}
use Rattle.unbounded_pops.proofs.v4.Goals as goal

pub returns-then-lose : goal.returns-then-lose
unfolding same
returns-then-lose c = search (rules, picks, parts)

pub returns-else-lose : goal.returns-else-lose
unfolding same
returns-else-lose c = search (rules, picks, parts)

pub returns-else-eq : goal.returns-else-eq
unfolding same
returns-else-eq c = search (rules, picks, parts)
