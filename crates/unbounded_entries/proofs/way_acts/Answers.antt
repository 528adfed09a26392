use Rattle.unbounded_entries.proofs.Laws.{way_acts_lem}
use Rattle.std.proofs.Common.{rules}
use Rattle.unbounded_entries.proofs.way_acts.Goals as goal

pub returns : goal.returns
returns c = search (rules, way_acts_lem)
