use Rattle.unbounded_acts.specs.Acts.{set_aside}
use Rattle.queue_entries.proofs.Pick.{picks}
use borrow.Author.Rules.{rules}
use Rattle.unbounded_acts.proofs.set_aside.Goals as goal

pub returns-then-is_none : goal.returns-then-is_none
unfolding set_aside
returns-then-is_none c = search (rules, picks)

pub returns-else-is_none : goal.returns-else-is_none
unfolding set_aside
returns-else-is_none c = search (rules, picks)
