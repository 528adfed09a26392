use borrow.Author.Rules.{rules}
use Rattle.queue_entries.proofs.Reading.{astray, read, begins, acts, neither}
use Rattle.queue_entries.proofs.entry_of.Goals as goal

pub returns-then-stray : goal.returns-then-stray
returns-then-stray c = search (rules, astray)

pub returns-in-0-to-7 : goal.returns-in-0-to-7
returns-in-0-to-7 c = search (rules, read, begins)

pub returns-in-8-to-9 : goal.returns-in-8-to-9
returns-in-8-to-9 c = search (rules, read, acts)

pub returns-in_default : goal.returns-in_default
returns-in_default c = search (rules, read, neither)
