use borrow.Author.Rules.{rules}
use Rattle.bounded_codes.proofs.Ranges.{weak_o3, weak_push, weak_force, weak_f6}
use Rattle.bounded_codes.proofs.weak_in.Goals as goal

pub returns-then-code-eq17 : goal.returns-then-code-eq17
returns-then-code-eq17 c = search (rules, weak_o3)

pub returns-then-code-eq24 : goal.returns-then-code-eq24
returns-then-code-eq24 c = search (rules, weak_push)

pub returns-then-code-eq25 : goal.returns-then-code-eq25
returns-then-code-eq25 c = search (rules, weak_force)

pub returns : goal.returns
returns c = search (rules, weak_f6)
