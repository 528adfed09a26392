use Rattle.single_words.specs.Words.{same}
use Rattle.queue_entries.proofs.Pick.{picks}
use Rattle.single_acts.proofs.Arms.{parts}
use borrow.Author.Rules.{rules}
use Rattle.single_acts.proofs.a1.Goals as goal

pub returns-then-eq : goal.returns-then-eq
unfolding same
returns-then-eq c = search (rules, picks, parts)

pub returns-then-closed : goal.returns-then-closed
unfolding same
returns-then-closed c = search (rules, picks, parts)

pub returns-else-closed : goal.returns-else-closed
unfolding same
returns-else-closed c = search (rules, picks, parts)
