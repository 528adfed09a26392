use Rattle.single_places.proofs.Along.{along_begin}
use borrow.Author.Rules.{rules}
use Rattle.single_places.proofs.first_place.Goals as goal

pub returns-in-Push : goal.returns-in-Push
returns-in-Push c = search (rules, along_begin)

pub returns-in-ForcePush : goal.returns-in-ForcePush
returns-in-ForcePush c = search (rules, along_begin)

pub returns-in-Pop : goal.returns-in-Pop
returns-in-Pop c = search (rules, along_begin)

pub returns-in-Len : goal.returns-in-Len
returns-in-Len c = search (rules, along_begin)

pub returns-in-IsEmpty : goal.returns-in-IsEmpty
returns-in-IsEmpty c = search (rules, along_begin)

pub returns-in-IsFull : goal.returns-in-IsFull
returns-in-IsFull c = search (rules, along_begin)

pub returns-in-Close : goal.returns-in-Close
returns-in-Close c = search (rules, along_begin)

pub returns-in-IsClosed : goal.returns-in-IsClosed
returns-in-IsClosed c = search (rules, along_begin)
