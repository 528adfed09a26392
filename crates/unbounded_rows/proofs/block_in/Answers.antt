use Rattle.unbounded_rows.proofs.Standing.{block_read}
use borrow.Author.Rules.{rules}
use Rattle.unbounded_rows.proofs.block_in.Goals as goal

pub returns : goal.returns
returns c = search (rules, block_read)
