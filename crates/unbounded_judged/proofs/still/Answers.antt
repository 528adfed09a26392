use Rattle.unbounded_judged.proofs.Kept.{still_front, still_laps, still_by}
use borrow.Author.Rules.{rules}
use Rattle.unbounded_judged.proofs.still.Goals as goal

pub returns-then-not-same_front : goal.returns-then-not-same_front
returns-then-not-same_front c = search (rules, still_front)

pub returns-then-same_laps : goal.returns-then-same_laps
returns-then-same_laps c = search (rules, still_by)

pub returns-else-same_laps : goal.returns-else-same_laps
returns-else-same_laps c = search (rules, still_laps)
