use Rattle.bounded_walks.proofs.Facts.{refused_6, refused_19, refused_deep, refused_20, refused_21, refused_0}
use borrow.Author.Rules.{rules}
use Rattle.bounded_walks.proofs.refusal_of.Goals as goal

pub returns-then-broken : goal.returns-then-broken
returns-then-broken c = search (rules, refused_6)

pub returns-then-m-gt-WALKERS : goal.returns-then-m-gt-WALKERS
returns-then-m-gt-WALKERS c = search (rules, refused_19, refused_deep)

pub returns-then-depth : goal.returns-then-depth
returns-then-depth c = search (rules, refused_19, refused_deep)

pub returns-then-not-all_busy : goal.returns-then-not-all_busy
returns-then-not-all_busy c = search (rules, refused_20)

pub returns-then-acts_left-depth : goal.returns-then-acts_left-depth
returns-then-acts_left-depth c = search (rules, refused_21)

pub returns : goal.returns
returns c = search (rules, refused_0)
