use Rattle.unbounded_rows.proofs.Standing.{not_nought, by_layout}
use borrow.Author.Rules.{rules}
use Rattle.unbounded_rows.proofs.laid_out.Goals as goal

pub returns-else-head-eq0 : goal.returns-else-head-eq0
returns-else-head-eq0 c = search (rules, not_nought)

pub returns-then-head-eq0 : goal.returns-then-head-eq0
returns-then-head-eq0 c = search (rules, by_layout)
