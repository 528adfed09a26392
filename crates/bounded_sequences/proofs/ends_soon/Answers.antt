use Rattle.bounded_sequences.proofs.Acting.{soon_at_1, soon_idle}
use borrow.Author.Rules.{rules}
use Rattle.bounded_sequences.proofs.ends_soon.Goals as goal

pub returns-then-left-lt2 : goal.returns-then-left-lt2
returns-then-left-lt2 c = search (rules, soon_at_1, soon_idle)

pub returns-else-left-lt2 : goal.returns-else-left-lt2
returns-else-left-lt2 c = search (rules, soon_idle)
