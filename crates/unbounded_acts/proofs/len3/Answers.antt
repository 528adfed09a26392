use Rattle.unbounded_words.specs.Words.{same}
use Rattle.queue_entries.proofs.Pick.{picks}
use Rattle.unbounded_acts.proofs.Arms.{len_is}
use borrow.Author.Rules.{rules}
use Rattle.unbounded_acts.proofs.len3.Goals as goal

pub returns-then-eq : goal.returns-then-eq
unfolding same
returns-then-eq c = search (rules, picks, len_is)

pub returns-else-eq : goal.returns-else-eq
unfolding same
returns-else-eq c = search (rules, picks)
