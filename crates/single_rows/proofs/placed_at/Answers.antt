use Rattle.single_rows.proofs.Lists.{placed_read}
use borrow.Author.Rules.{rules}
use Rattle.single_rows.proofs.placed_at.Goals as goal

pub returns : goal.returns
returns c = search (rules, placed_read)
