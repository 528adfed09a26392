use mathlib.Core.Path.{refl}
use native.Mathlib.Omega.{arith}
use Rattle.queue_entries.proofs.Limits.{all_more, all_failed, all_passed}
use Rattle.single_machine.specs.Broken.{idle_from}
use Rattle.single_machine.proofs.idle_from.Goals as goal

pub loop-i-init : goal.loop-i-init
unfolding idle_from
loop-i-init c = refl

pub loop-i-preserved : goal.loop-i-preserved
loop-i-preserved c = all_more _ _ _ _ c.loop-i.invariant c.record_fits.result (omega arith) c.record_fits.ensures c.if-not-record_fits.false

pub returns-then-not-record_fits : goal.returns-then-not-record_fits
returns-then-not-record_fits c = all_failed _ _ _ _ c.loop-i.invariant c.record_fits.result (omega arith) c.record_fits.ensures c.if-not-record_fits.true

pub returns : goal.returns
returns c = all_passed _ _ _ _ c.loop-i.invariant (omega arith)
