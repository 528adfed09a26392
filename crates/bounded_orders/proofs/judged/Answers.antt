use Rattle.bounded_orders.proofs.Making.{judged_6, judged_11, judged_9, judged_read}
use borrow.Author.Rules.{rules}
use Rattle.bounded_orders.proofs.judged.Goals as goal

pub returns-then-broken : goal.returns-then-broken
returns-then-broken c = search (rules, judged_6)

pub returns-then-schedule-eq1 : goal.returns-then-schedule-eq1
returns-then-schedule-eq1 c = search (rules, judged_11)

pub returns-in-Some : goal.returns-in-Some
returns-in-Some c = search (rules, judged_9)

pub returns-in-None : goal.returns-in-None
returns-in-None c = search (rules, judged_read)
