use borrow.Author.Rules.{rules}
use Rattle.tapes_numbers.proofs.Orders.{spot_big, spot_little}
use Rattle.tapes_numbers.proofs.spot.Goals as goal

pub returns-in-BigEndian : goal.returns-in-BigEndian
returns-in-BigEndian c = search (rules, spot_big, spot_little)

pub returns-in-LittleEndian : goal.returns-in-LittleEndian
returns-in-LittleEndian c = search (rules, spot_big, spot_little)
