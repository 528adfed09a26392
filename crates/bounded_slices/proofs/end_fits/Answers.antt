use mathlib.Core.Path.{ap, ◌∙◌}
use mathlib.Core.Bool.{not}
use Rattle.bounded_slices.proofs.Judging.{outside_ring, other_second, both_inside, unmarked_inside, marked_inside}
use borrow.Author.Rules.{rules}
use Rattle.bounded_slices.proofs.end_fits.Goals as goal

pub returns-then-not-inside_of : goal.returns-then-not-inside_of
returns-then-not-inside_of c = search (rules, outside_ring)

pub returns-else-code-eq21 : goal.returns-else-code-eq21
returns-else-code-eq21 c = search (rules, other_second)

pub returns-then-code-eq21 : goal.returns-then-code-eq21
returns-then-code-eq21 c = search (rules, both_inside)

pub returns-then-not-marked : goal.returns-then-not-marked
returns-then-not-marked c = ap not c.if-not-marked.true ∙ (search (rules, unmarked_inside))

pub returns-else-not-marked : goal.returns-else-not-marked
returns-else-not-marked c = search (rules, marked_inside)
