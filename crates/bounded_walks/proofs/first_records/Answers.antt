use mathlib.Core.Path.{◌≡◌}
use native.Mathlib.Omega.{arith}
use lib.ListN.{length}
use Rattle.queue_entries.specs.Limits.{workers_most}
use Rattle.bounded_walks.proofs.Facts.{first_three}
use Rattle.bounded_walks.proofs.first_records.Goals as goal

pub returns : goal.returns
returns c =
    let whole : length c.args.workers ≡ workers_most = omega (arith, c.well_formed) in
    record { answer = first_three c.args.workers whole; whole = whole }
