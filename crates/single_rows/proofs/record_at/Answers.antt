use Rattle.single_rows.proofs.Lists.{record_read}
use borrow.Author.Rules.{rules}
use Rattle.single_rows.proofs.record_at.Goals as goal

pub returns : goal.returns
returns c = search (rules, record_read)
