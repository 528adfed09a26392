use borrow.Author.Rules.{rules}
use Rattle.tapes_numbers.proofs.Orders.{tag_big, tag_little}
use Rattle.tapes_numbers.proofs.tag.Goals as goal

pub returns-in-LittleEndian : goal.returns-in-LittleEndian
returns-in-LittleEndian c = search (rules, tag_big, tag_little)
