use Rattle.unbounded_entries.proofs.Laws.{look_busy, look_idle}
use Rattle.std.proofs.Common.{rules}
use Rattle.unbounded_entries.proofs.look_at.Goals as goal

pub returns-then-v : goal.returns-then-v
returns-then-v c = search (rules, look_busy, look_idle)

pub returns-else-v : goal.returns-else-v
returns-else-v c = search (rules, look_busy, look_idle)
