use Rattle.bounded_slices.proofs.Filling.{still_eight, eight_put}
use borrow.Author.Rules.{rules}
use Rattle.bounded_slices.proofs.put_ring.Goals as goal

pub shape_of-head : goal.shape_of-head
shape_of-head c = search (rules, still_eight)

pub returns : goal.returns
returns c = search (rules, eight_put)
