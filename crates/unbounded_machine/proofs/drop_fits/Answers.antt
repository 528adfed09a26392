use Rattle.unbounded_machine.proofs.Laws.{drop_walks, drop_later}
use borrow.Author.Rules.{rules}
use Rattle.unbounded_machine.proofs.drop_fits.Goals as goal

pub returns-then-not-all_idle : goal.returns-then-not-all_idle
returns-then-not-all_idle c = search (rules, drop_later)

pub returns-else-not-all_idle : goal.returns-else-not-all_idle
returns-else-not-all_idle c = search (rules, drop_walks)
