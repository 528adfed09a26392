use Rattle.queue_entries.proofs.Searching.{is_barred, not_barred}
use borrow.Author.Rules.{rules}
use Rattle.queue_entries.proofs.entry_but.Goals as goal

pub returns-then-first-barred : goal.returns-then-first-barred
returns-then-first-barred c = search (rules, is_barred, not_barred)

pub returns : goal.returns
returns c = search (rules, not_barred)
