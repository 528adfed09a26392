use Rattle.unbounded_judged.proofs.Kept.{front_by, front_unsure}
use borrow.Author.Rules.{rules}
use Rattle.unbounded_judged.proofs.same_front.Goals as goal

pub returns-then-known : goal.returns-then-known
returns-then-known c = search (rules, front_by)

pub returns-else-known : goal.returns-else-known
returns-else-known c = search (rules, front_unsure)
