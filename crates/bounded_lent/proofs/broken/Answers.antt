use Rattle.std.proofs.Common.{◌∙◌, sym}
use Rattle.bounded_lent.proofs.Turning.{ring_fair, ring_broken, records_broken}
use Rattle.bounded_lent.proofs.broken.Goals as goal

pub returns-then-not-ring_fits : goal.returns-then-not-ring_fits
returns-then-not-ring_fits c = ring_broken c.args.ring.now c.args.records.now (sym c.ring_fits.ensures ∙ c.if-not-ring_fits.true)

pub records_fit-requires : goal.records_fit-requires
records_fit-requires c = ring_fair _ _ _ (sym c.ring_fits.ensures ∙ c.if-not-ring_fits.false)

pub returns : goal.returns
returns c = records_broken c.args.ring.now c.args.records.now (sym c.ring_fits.ensures ∙ c.if-not-ring_fits.false) c.records_fit.result c.records_fit.ensures
