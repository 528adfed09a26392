use Rattle.queue_entries.proofs.Pick.{picks}
use Rattle.unbounded_entries.specs.Looks.{look_slot}
use Rattle.std.proofs.Common.{rules}
use Rattle.unbounded_entries.proofs.look_slot.Goals as goal

pub returns-then-i-lt-SLOTS : goal.returns-then-i-lt-SLOTS
unfolding look_slot
returns-then-i-lt-SLOTS c = search (rules, picks)

pub returns-else-i-lt-SLOTS : goal.returns-else-i-lt-SLOTS
unfolding look_slot
returns-else-i-lt-SLOTS c = search (rules, picks)
