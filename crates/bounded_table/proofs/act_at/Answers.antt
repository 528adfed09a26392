use borrow.Author.Rules.{rules}
use Rattle.bounded_table.proofs.Rows.{within}
use Rattle.bounded_table.proofs.act_at.Goals as goal

pub len3-requires : goal.len3-requires
len3-requires c = search (rules, within)
