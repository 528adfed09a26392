use Rattle.unbounded_rows.proofs.Standing.{placed_read}
use borrow.Author.Rules.{rules}
use Rattle.unbounded_rows.proofs.placed_at.Goals as goal

pub returns : goal.returns
returns c = search (rules, placed_read)
