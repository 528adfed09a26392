use Rattle.unbounded_rows.proofs.Standing.{ends_read}
use borrow.Author.Rules.{rules}
use Rattle.unbounded_rows.proofs.ends_in.Goals as goal

pub returns : goal.returns
returns c = search (rules, ends_read)
