use borrow.Author.Rules.{rules}
use Rattle.unbounded_rows.proofs.Standing.{shape_1, shape_2, shape_3}
use Rattle.unbounded_rows.proofs.shaped.Goals as goal

pub returns-then-head-ne-HEAD : goal.returns-then-head-ne-HEAD
returns-then-head-ne-HEAD c = search (rules, shape_1)

pub returns-else-pool-eq-POOL : goal.returns-else-pool-eq-POOL
returns-else-pool-eq-POOL c = search (rules, shape_2)

pub returns-then-pool-eq-POOL : goal.returns-then-pool-eq-POOL
returns-then-pool-eq-POOL c = search (rules, shape_3)
