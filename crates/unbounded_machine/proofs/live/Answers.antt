use Rattle.unbounded_machine.proofs.Laws.{live_by, live_past}
use borrow.Author.Rules.{rules}
use Rattle.unbounded_machine.proofs.live.Goals as goal

pub returns-then-k : goal.returns-then-k
returns-then-k c = search (rules, live_by)

pub returns-else-k : goal.returns-else-k
returns-else-k c = search (rules, live_past)
