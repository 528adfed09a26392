use Rattle.bounded_sequences.proofs.Acting.{ends_at_0, ends_idle}
use borrow.Author.Rules.{rules}
use Rattle.bounded_sequences.proofs.ends_here.Goals as goal

pub returns-then-left-eq0 : goal.returns-then-left-eq0
returns-then-left-eq0 c = search (rules, ends_at_0, ends_idle)

pub returns-else-left-eq0 : goal.returns-else-left-eq0
returns-else-left-eq0 c = search (rules, ends_idle)
