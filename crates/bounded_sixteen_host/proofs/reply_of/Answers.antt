use Rattle.bounded_sixteen_host.proofs.Listing.{along_told}
use borrow.Author.Rules.{rules}
use Rattle.bounded_sixteen_host.proofs.reply_of.Goals as goal

pub returns-in-Ok : goal.returns-in-Ok
returns-in-Ok c = search (rules, along_told)

pub returns-in-Err : goal.returns-in-Err
returns-in-Err c = search (rules, along_told)
