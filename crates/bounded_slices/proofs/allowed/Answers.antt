use borrow.Author.Rules.{rules}
use Rattle.queue_entries.proofs.Pick.{below, above}
use Rattle.bounded_slices.proofs.allowed.Goals as goal

pub returns-then-code-lt11 : goal.returns-then-code-lt11
returns-then-code-lt11 c = search (rules, below)

pub returns-else-code-lt11 : goal.returns-else-code-lt11
returns-else-code-lt11 c = search (rules, above)
