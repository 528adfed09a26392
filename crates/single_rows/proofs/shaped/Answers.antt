use borrow.Author.Rules.{rules}
use Rattle.single_rows.proofs.Standing.{shape_1, shape_2}
use Rattle.single_rows.proofs.shaped.Goals as goal

pub returns-else-head-eq-HEAD : goal.returns-else-head-eq-HEAD
returns-else-head-eq-HEAD c = search (rules, shape_1)

pub returns-then-head-eq-HEAD : goal.returns-then-head-eq-HEAD
returns-then-head-eq-HEAD c = search (rules, shape_2)
