use borrow.Author.Rules.{rules}
use Rattle.bounded_codes.proofs.Ranges.{in_range, below_range}
use Rattle.bounded_codes.proofs.within.Goals as goal

pub returns-then-from-code : goal.returns-then-from-code
returns-then-from-code c = search (rules, in_range)

pub returns-else-from-code : goal.returns-else-from-code
returns-else-from-code c = search (rules, below_range)
