use Rattle.unbounded_rows.proofs.Standing.{after_four, after_five, after_six, after_seven, head_put}
use borrow.Author.Rules.{rules}
use Rattle.unbounded_rows.proofs.put_head.Goals as goal

pub bounds-head-4 : goal.bounds-head-4
bounds-head-4 c = search (rules, after_four)

pub bounds-head-5 : goal.bounds-head-5
bounds-head-5 c = search (rules, after_five)

pub bounds-head-6 : goal.bounds-head-6
bounds-head-6 c = search (rules, after_six)

pub bounds-head-7 : goal.bounds-head-7
bounds-head-7 c = search (rules, after_seven)

pub returns : goal.returns
returns c = search (rules, head_put)
