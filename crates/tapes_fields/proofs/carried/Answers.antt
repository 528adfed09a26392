use borrow.Author.Rules.{rules}
use Rattle.tapes_fields.proofs.Reading.{unread, asks}
use Rattle.tapes_fields.proofs.carried.Goals as goal

pub returns-in_default : goal.returns-in_default
returns-in_default c = search (rules, unread)

pub returns : goal.returns
returns c = search (rules, asks)
