use Rattle.queue_entries.proofs.Pick.{picks}
use Rattle.unbounded_entries.specs.Looks.{look_block}
use Rattle.std.proofs.Common.{rules}
use Rattle.unbounded_entries.proofs.look_block.Goals as goal

pub returns-then-k : goal.returns-then-k
unfolding look_block
returns-then-k c = search (rules, picks)

pub returns-else-k : goal.returns-else-k
unfolding look_block
returns-else-k c = search (rules, picks)
