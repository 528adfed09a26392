use borrow.Author.Rules.{rules}
use Rattle.tapes_fields.proofs.Reading.{cut_entry, an_entry, barred}
use Rattle.tapes_fields.proofs.entry_by.Goals as goal

pub returns-then-bytes-end : goal.returns-then-bytes-end
returns-then-bytes-end c = search (rules, cut_entry)

pub returns-then-allowed : goal.returns-then-allowed
returns-then-allowed c = search (rules, an_entry)

pub returns-else-allowed : goal.returns-else-allowed
returns-else-allowed c = search (rules, barred)
