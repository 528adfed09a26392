use Rattle.bounded_rows.proofs.Asking.{refuses, starts, goes, loses, cannot_lose}
use borrow.Author.Rules.{rules}
use Rattle.bounded_rows.proofs.verdict_in.Goals as goal

pub returns-then-not-lose : goal.returns-then-not-lose
returns-then-not-lose c = search (rules, goes)

pub returns-in-Refuse : goal.returns-in-Refuse
returns-in-Refuse c = search (rules, refuses)

pub returns-in-Start : goal.returns-in-Start
returns-in-Start c = search (rules, starts)

pub returns-then-weak_in : goal.returns-then-weak_in
returns-then-weak_in c = search (rules, loses)

pub returns-else-weak_in : goal.returns-else-weak_in
returns-else-weak_in c = search (rules, cannot_lose)
