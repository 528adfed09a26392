use Rattle.unbounded_acts.specs.Acts.{pop_from}
use Rattle.queue_entries.proofs.Pick.{picks}
use Rattle.unbounded_acts.proofs.Arms.{take_is}
use borrow.Author.Rules.{rules}
use Rattle.unbounded_pops.proofs.pop_from.Goals as goal

pub returns-then-past_slots : goal.returns-then-past_slots
unfolding pop_from
returns-then-past_slots c = search (rules, picks)

pub returns-then-marked : goal.returns-then-marked
unfolding pop_from
returns-then-marked c = search (rules, picks, take_is)

pub returns-else-marked : goal.returns-else-marked
unfolding pop_from
returns-else-marked c = search (rules, picks)
