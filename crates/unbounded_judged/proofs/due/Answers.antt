use Rattle.unbounded_judged.proofs.Kept.{some_busy, due_by}
use borrow.Author.Rules.{rules}
use Rattle.unbounded_judged.proofs.due.Goals as goal

pub returns-then-busy-eq0 : goal.returns-then-busy-eq0
returns-then-busy-eq0 c = search (rules, due_by)

pub returns-else-busy-eq0 : goal.returns-else-busy-eq0
returns-else-busy-eq0 c = search (rules, some_busy)
