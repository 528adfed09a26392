use Rattle.unbounded_entries.proofs.Laws.{other_next, still_free, was_taken}
use Rattle.std.proofs.Common.{rules}
use Rattle.unbounded_entries.proofs.same_header.Goals as goal

pub returns-then-not-same_pointer : goal.returns-then-not-same_pointer
returns-then-not-same_pointer c = search (rules, other_next)

pub returns-then-a : goal.returns-then-a
returns-then-a c = search (rules, still_free)

pub returns-else-a : goal.returns-else-a
returns-else-a c = search (rules, was_taken)
