use Rattle.single_words.specs.Words.{same}
use Rattle.queue_entries.proofs.Pick.{picks}
use Rattle.single_acts.proofs.Arms.{parts}
use borrow.Author.Rules.{rules}
use Rattle.single_acts.proofs.b1.Goals as goal

pub returns-then-closed : goal.returns-then-closed
unfolding same
returns-then-closed c = search (rules, picks, parts)

pub returns-then-pushed : goal.returns-then-pushed
unfolding same
returns-then-pushed c = search (rules, picks, parts)

pub returns-else-pushed : goal.returns-else-pushed
unfolding same
returns-else-pushed c = search (rules, picks, parts)

pub returns-else-eq : goal.returns-else-eq
unfolding same
returns-else-eq c = search (rules, picks, parts)
