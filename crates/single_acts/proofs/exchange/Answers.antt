use Rattle.single_words.specs.Words.{same}
use Rattle.queue_entries.proofs.Pick.{picks}
use Rattle.single_acts.specs.Acts.{exchanged}
use borrow.Author.Rules.{rules}
use Rattle.single_acts.proofs.exchange.Goals as goal

pub returns-then-eq : goal.returns-then-eq
unfolding same exchanged
returns-then-eq c = search (rules, picks)

pub returns-else-eq : goal.returns-else-eq
unfolding same exchanged
returns-else-eq c = search (rules, picks)
