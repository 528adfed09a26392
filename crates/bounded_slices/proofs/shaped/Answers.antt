use borrow.Author.Rules.{rules}
use Rattle.bounded_slices.proofs.Fitting.{shape_1, shape_2, shape_3}
use Rattle.bounded_slices.proofs.shaped.Goals as goal

pub returns-then-head-ne-HEAD : goal.returns-then-head-ne-HEAD
returns-then-head-ne-HEAD c = search (rules, shape_1)

pub returns-then-slots-ne-SLOTS : goal.returns-then-slots-ne-SLOTS
returns-then-slots-ne-SLOTS c = search (rules, shape_2)

pub returns : goal.returns
returns c = search (rules, shape_3)
