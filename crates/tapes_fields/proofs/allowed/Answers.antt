use borrow.Author.Rules.{rules}
use Rattle.tapes_fields.proofs.Reading.{allowed_by, too_high}
use Rattle.tapes_fields.proofs.allowed.Goals as goal

pub returns-then-code-lt10 : goal.returns-then-code-lt10
returns-then-code-lt10 c = search (rules, allowed_by)

pub returns-else-code-lt10 : goal.returns-else-code-lt10
returns-else-code-lt10 c = search (rules, too_high)
