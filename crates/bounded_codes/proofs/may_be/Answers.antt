use borrow.Author.Rules.{rules}
use Rattle.bounded_codes.proofs.Ranges.{held_may, unheld_may}
use Rattle.bounded_codes.proofs.may_be.Goals as goal

pub returns-then-held : goal.returns-then-held
returns-then-held c = search (rules, held_may)

pub returns-else-held : goal.returns-else-held
returns-else-held c = search (rules, unheld_may)
