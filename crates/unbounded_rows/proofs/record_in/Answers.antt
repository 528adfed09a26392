use Rattle.unbounded_rows.proofs.Standing.{record_read}
use borrow.Author.Rules.{rules}
use Rattle.unbounded_rows.proofs.record_in.Goals as goal

pub returns : goal.returns
returns c = search (rules, record_read)
