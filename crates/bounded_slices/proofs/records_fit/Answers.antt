use borrow.Author.Rules.{rules}
use Rattle.bounded_slices.proofs.Fitting.{begins, in_reach, none_left, no_fit, goes_on}
use Rattle.bounded_slices.proofs.records_fit.Goals as goal

pub loop-i-init : goal.loop-i-init
loop-i-init c = search (rules, begins)

pub fits_at-requires : goal.fits_at-requires
fits_at-requires c = search (rules, in_reach)

pub returns-then-not-fits_at : goal.returns-then-not-fits_at
returns-then-not-fits_at c = search (rules, no_fit)

pub loop-i-preserved : goal.loop-i-preserved
loop-i-preserved c = search (rules, goes_on)

pub returns : goal.returns
returns c = search (rules, none_left)
