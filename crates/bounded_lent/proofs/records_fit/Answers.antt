use Rattle.std.proofs.Common.{refl}
use native.Mathlib.Nat.{sub-zero}
use Rattle.queue_entries.proofs.Limits.{all_more, all_failed, all_passed}
use Rattle.bounded_lent.specs.Lent.{each_fits}
use Rattle.bounded_lent.proofs.records_fit.Goals as goal

pub loop-record-init : goal.loop-record-init
unfolding each_fits
loop-record-init c = rw sub-zero refl

pub returns-then-not-record_fits : goal.returns-then-not-record_fits
returns-then-not-record_fits c = all_failed _ _ c.loop-record.record-index _ c.loop-record.invariant c.record_fits.result c.loop-record-test.true c.record_fits.ensures c.if-not-record_fits.true

pub loop-record-preserved : goal.loop-record-preserved
loop-record-preserved c = (all_more _ _ c.loop-record.record-index _ c.loop-record.invariant c.record_fits.result c.loop-record-test.true c.record_fits.ensures c.if-not-record_fits.false)

pub returns : goal.returns
returns c = all_passed _ _ c.loop-record.record-index _ c.loop-record.invariant c.loop-record-test.false
