use Rattle.unbounded_machine.specs.Drop.{last_fits}
use Rattle.queue_entries.proofs.Pick.{picks}
use Rattle.unbounded_machine.proofs.Laws.{last_is}
use borrow.Author.Rules.{rules}
use Rattle.unbounded_machine.proofs.last_fits.Goals as goal

pub returns-then-is_none : goal.returns-then-is_none
unfolding last_fits
returns-then-is_none c = search (rules, picks)

pub returns-else-is_none : goal.returns-else-is_none
unfolding last_fits
returns-else-is_none c = search (rules, picks, last_is)
