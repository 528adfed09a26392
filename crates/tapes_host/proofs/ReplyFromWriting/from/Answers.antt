use Rattle.tapes_host.proofs.Answering.{reply_refused, reply_tape}
use borrow.Author.Rules.{rules}
use Rattle.tapes_host.proofs.ReplyFromWriting.from.Goals as goal

pub returns-in-Refused : goal.returns-in-Refused
returns-in-Refused c = search (rules, reply_refused)

pub returns-in-Tape : goal.returns-in-Tape
returns-in-Tape c = search (rules, reply_tape)
