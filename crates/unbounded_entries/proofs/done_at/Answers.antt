use Rattle.std.proofs.Common.{rules}
use Rattle.unbounded_entries.proofs.Laws.{begun_at, acted_at}
use Rattle.unbounded_entries.proofs.done_at.Goals as goal

pub returns-in-Begin : goal.returns-in-Begin
returns-in-Begin c = search (rules, begun_at)

pub returns-in-Act : goal.returns-in-Act
returns-in-Act c = search (rules, acted_at)
