use Rattle.bounded_walks.proofs.Facts.{size_told, size_refused}
use borrow.Author.Rules.{rules}
use Rattle.bounded_walks.proofs.size.Goals as goal

pub returns-then-refusal-eq0 : goal.returns-then-refusal-eq0
returns-then-refusal-eq0 c = search (rules, size_told)

pub returns-else-refusal-eq0 : goal.returns-else-refusal-eq0
returns-else-refusal-eq0 c = search (rules, size_refused)
