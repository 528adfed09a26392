use Rattle.unbounded_places.proofs.Along.{along_begin}
use borrow.Author.Rules.{rules}
use Rattle.unbounded_places.proofs.first_place.Goals as goal

pub returns-in-Push : goal.returns-in-Push
returns-in-Push c = search (rules, along_begin)

pub returns-in-ForcePush : goal.returns-in-ForcePush
returns-in-ForcePush c = search (rules, along_begin)
