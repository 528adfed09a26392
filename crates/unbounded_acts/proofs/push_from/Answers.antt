use Rattle.unbounded_acts.specs.Acts.{push_from}
use Rattle.queue_entries.proofs.Pick.{picks}
use borrow.Author.Rules.{rules}
use Rattle.unbounded_acts.proofs.push_from.Goals as goal

pub returns-then-marked : goal.returns-then-marked
unfolding push_from
returns-then-marked c = search (rules, picks)

pub returns-then-past_slots : goal.returns-then-past_slots
unfolding push_from
returns-then-past_slots c = search (rules, picks)

pub returns-then-lacks_next : goal.returns-then-lacks_next
unfolding push_from
returns-then-lacks_next c = search (rules, picks)

pub returns-else-lacks_next : goal.returns-else-lacks_next
unfolding push_from
returns-else-lacks_next c = search (rules, picks)
