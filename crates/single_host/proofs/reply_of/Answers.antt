use Rattle.single_host.proofs.Answering.{along_reply}
use borrow.Author.Rules.{rules}
use Rattle.single_host.proofs.reply_of.Goals as goal

pub returns-in-Ok : goal.returns-in-Ok
returns-in-Ok c = search (rules, along_reply)

pub returns-in-Err : goal.returns-in-Err
returns-in-Err c = search (rules, along_reply)
