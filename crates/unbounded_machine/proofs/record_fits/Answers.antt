use Rattle.std.proofs.lemmas.Bool.{not-true, not-false}
use mathlib.Core.Path.{◌∙◌}
use Rattle.unbounded_machine.proofs.Laws.{idle_fits, past_fits, used_fits}
use Rattle.unbounded_machine.proofs.record_fits.Goals as goal

pub returns-then-not-v : goal.returns-then-not-v
returns-then-not-v c = idle_fits _ _ c.view_of-v.ensures _ _ (not-true _ c.if-not-v.true)

pub returns-then-counted : goal.returns-then-counted
returns-then-counted c = used_fits _ _ c.view_of-v.ensures _ _ _ (not-false _ c.if-not-v.false) c.if-counted.true c.uses_fit.ensures

pub returns-else-counted : goal.returns-else-counted
returns-else-counted c = c.if-counted.false ∙ past_fits _ _ c.view_of-v.ensures _ _ (not-false _ c.if-not-v.false) c.if-counted.false
