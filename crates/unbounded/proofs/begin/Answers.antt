use Rattle.unbounded.proofs.Steps.{begin_6, begin_9, begin_step}
use borrow.Author.Rules.{rules}
use Rattle.unbounded.proofs.begin.Goals as goal

pub returns-then-broken : goal.returns-then-broken
returns-then-broken c = search (rules, begin_6, begin_9, begin_step)

pub returns-then-first-lt8 : goal.returns-then-first-lt8
returns-then-first-lt8 c = search (rules, begin_6, begin_9, begin_step)

pub returns-else-first-lt8 : goal.returns-else-first-lt8
returns-else-first-lt8 c = search (rules, begin_6, begin_9, begin_step)
