use Rattle.unbounded_acts.proofs.Arms.{destroy_on, destroy_done}
use borrow.Author.Rules.{rules}
use Rattle.unbounded_pops.proofs.destroy_after.Goals as goal

pub returns-then-i : goal.returns-then-i
returns-then-i c = search (rules, destroy_on)

pub returns-else-i : goal.returns-else-i
returns-else-i c = search (rules, destroy_done)
