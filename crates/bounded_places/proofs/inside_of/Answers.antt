use Rattle.bounded_places.proofs.Along.{inside_is}
use borrow.Author.Rules.{rules}
use Rattle.bounded_places.proofs.inside_of.Goals as goal

pub returns : goal.returns
returns c = search (rules, inside_is)
