use Rattle.unbounded_places.proofs.Along.{indexed_is}
use borrow.Author.Rules.{rules}
use Rattle.unbounded_views.proofs.on_indexed.Goals as goal

pub returns : goal.returns
returns c = search (rules, indexed_is)
