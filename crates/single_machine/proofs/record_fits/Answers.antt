use Rattle.single_machine.proofs.Laws.{idle_fits, busy_fits}
use borrow.Author.Rules.{rules}
use Rattle.single_machine.proofs.record_fits.Goals as goal

pub returns-then-not-view_of : goal.returns-then-not-view_of
returns-then-not-view_of c = search (rules, idle_fits)

pub returns-else-not-view_of : goal.returns-else-not-view_of
returns-else-not-view_of c = search (rules, busy_fits)
