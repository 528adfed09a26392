use Rattle.single_rows.proofs.Standing.{after_four, head_put}
use borrow.Author.Rules.{rules}
use Rattle.single_rows.proofs.put_head.Goals as goal

pub bounds-head-4 : goal.bounds-head-4
bounds-head-4 c = search (rules, after_four)

pub returns : goal.returns
returns c = search (rules, head_put)
