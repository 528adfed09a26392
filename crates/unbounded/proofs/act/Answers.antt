use Rattle.unbounded.proofs.Steps.{act_6, act_9, act_step}
use borrow.Author.Rules.{rules}
use Rattle.unbounded.proofs.act.Goals as goal

pub returns-then-broken : goal.returns-then-broken
returns-then-broken c = search (rules, act_6, act_9, act_step)

pub returns-then-first-lt8 : goal.returns-then-first-lt8
returns-then-first-lt8 c = search (rules, act_6, act_9, act_step)

pub returns-else-first-lt8 : goal.returns-else-first-lt8
returns-else-first-lt8 c = search (rules, act_6, act_9, act_step)
