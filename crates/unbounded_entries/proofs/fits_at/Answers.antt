use Rattle.queue_entries.proofs.Pick.{picks}
use Rattle.unbounded_entries.specs.Looks.{fits_at}
use Rattle.std.proofs.Common.{rules}
use Rattle.unbounded_entries.proofs.fits_at.Goals as goal

pub returns-then-look : goal.returns-then-look
unfolding fits_at
returns-then-look c = search (rules, picks)

pub returns-else-look : goal.returns-else-look
unfolding fits_at
returns-else-look c = search (rules, picks)
