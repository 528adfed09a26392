use borrow.Author.Rules.{rules}
use Rattle.bounded_sixteen_rows.proofs.Fitting.{shape_1, shape_2, shape_3, shape_4}
use Rattle.bounded_sixteen_rows.proofs.shaped_for.Goals as goal

pub returns-then-head-ne-HEAD : goal.returns-then-head-ne-HEAD
returns-then-head-ne-HEAD c = search (rules, shape_1)

pub returns-then-stamps-capacity : goal.returns-then-stamps-capacity
returns-then-stamps-capacity c = search (rules, shape_2)

pub returns-then-values-capacity : goal.returns-then-values-capacity
returns-then-values-capacity c = search (rules, shape_3)

pub returns : goal.returns
returns c = search (rules, shape_4)
