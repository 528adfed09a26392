use Rattle.unbounded_machine.proofs.Laws.{along_fits}
use Rattle.queue_entries.proofs.Pick.{picks}
use borrow.Author.Rules.{rules}
use Rattle.unbounded_machine.proofs.uses_fit.Goals as goal

pub returns-in-Block : goal.returns-in-Block
returns-in-Block c = search (rules, along_fits, picks)

pub returns-then-i-lt-SLOTS : goal.returns-then-i-lt-SLOTS
returns-then-i-lt-SLOTS c = search (rules, along_fits, picks)

pub returns-else-i-lt-SLOTS : goal.returns-else-i-lt-SLOTS
returns-else-i-lt-SLOTS c = search (rules, along_fits, picks)
