use Rattle.unbounded_entries.proofs.Laws.{tally_begin, tally_end}
use Rattle.std.proofs.Common.{rules}
use Rattle.unbounded_entries.proofs.tally.Goals as goal

pub returns-in-Begin : goal.returns-in-Begin
returns-in-Begin c = search (rules, tally_begin, tally_end)

pub returns-else-after : goal.returns-else-after
returns-else-after c = search (rules, tally_begin, tally_end)
