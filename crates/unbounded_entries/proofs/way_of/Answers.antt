use Rattle.unbounded_entries.proofs.Laws.{way_away, way_by, way_moves, way_in_time}
use Rattle.std.proofs.Common.{rules}
use Rattle.unbounded_entries.proofs.way_of.Goals as goal

pub returns-then-ask-gt0 : goal.returns-then-ask-gt0
returns-then-ask-gt0 c = search (rules, way_away)

pub way_acts-requires : goal.way_acts-requires
way_acts-requires c = search (rules, way_in_time)

pub returns-in-Refuse : goal.returns-in-Refuse
returns-in-Refuse c = search (rules, way_by, way_moves)

pub returns-in-Start : goal.returns-in-Start
returns-in-Start c = search (rules, way_by, way_moves)

pub returns-in-Move : goal.returns-in-Move
returns-in-Move c = search (rules, way_by, way_moves)
