use borrow.Author.Rules.{rules}
use Rattle.single_rows.proofs.Going.{begins, none_left, no_place, goes_on}
use Rattle.single_rows.proofs.all_placed.Goals as goal

pub loop-i-init : goal.loop-i-init
loop-i-init c = search (rules, begins)

pub loop-i-preserved : goal.loop-i-preserved
loop-i-preserved c = search (rules, goes_on)

pub returns-then-not-placed_at : goal.returns-then-not-placed_at
returns-then-not-placed_at c = search (rules, no_place)

pub returns : goal.returns
returns c = search (rules, none_left)
