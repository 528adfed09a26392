use Rattle.unbounded_judged.proofs.Kept.{laps_by, laps_other}
use borrow.Author.Rules.{rules}
use Rattle.unbounded_judged.proofs.same_laps.Goals as goal

pub returns-then-h-known : goal.returns-then-h-known
returns-then-h-known c = search (rules, laps_by)

pub returns-else-h-known : goal.returns-else-h-known
returns-else-h-known c = search (rules, laps_other)
