use native.Mathlib.Omega.{arith}
use Rattle.queue_entries.proofs.Limits.{all_more, all_failed, all_passed}
use mathlib.Core.Path.{refl}
use Rattle.unbounded_machine.specs.Broken.{records_fit}
use Rattle.unbounded_machine.proofs.records_fit.Goals as goal

pub loop-i-init : goal.loop-i-init
unfolding records_fit
loop-i-init c = refl

pub loop-i-preserved : goal.loop-i-preserved
loop-i-preserved c = all_more _ _ _ _ c.loop-i.invariant c.record_fits.result (omega arith) c.record_fits.ensures c.if-not-record_fits.false

pub returns-then-not-record_fits : goal.returns-then-not-record_fits
returns-then-not-record_fits c = all_failed _ _ _ _ c.loop-i.invariant c.record_fits.result (omega arith) c.record_fits.ensures c.if-not-record_fits.true

pub returns : goal.returns
returns c = all_passed _ _ _ _ c.loop-i.invariant (omega arith)
