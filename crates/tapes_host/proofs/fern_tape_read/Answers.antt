use Rattle.tapes_host.proofs.Answering.{not_three, refused_read, all_read}
use borrow.Author.Rules.{rules}
use Rattle.tapes_host.proofs.fern_tape_read.Goals as goal

pub returns-then-about-ne-ABOUT : goal.returns-then-about-ne-ABOUT
returns-then-about-ne-ABOUT c = search (rules, not_three)

pub returns-in-Refused : goal.returns-in-Refused
returns-in-Refused c = search (rules, refused_read)

pub returns-in-Schedule : goal.returns-in-Schedule
returns-in-Schedule c = search (rules, all_read)
