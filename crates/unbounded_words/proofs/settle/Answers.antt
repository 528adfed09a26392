use Rattle.unbounded_words.proofs.Laws.{settled_next, settled_here}
use Rattle.std.proofs.Common.{rules}
use Rattle.unbounded_words.proofs.settle.Goals as goal

pub returns-then-past_slots : goal.returns-then-past_slots
returns-then-past_slots c = search (rules, settled_next, settled_here)

pub returns-else-past_slots : goal.returns-else-past_slots
returns-else-past_slots c = search (rules, settled_next, settled_here)
