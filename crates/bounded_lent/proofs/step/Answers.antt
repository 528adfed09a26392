use Rattle.std.proofs.Common.{◌∙◌, sym}
use Rattle.bounded_lent.proofs.Turning.{step_refused, step_turned}
use Rattle.bounded_lent.proofs.step.Goals as goal

pub returns-then-broken : goal.returns-then-broken
returns-then-broken c = step_refused _ _ _ _ (sym c.broken.ensures ∙ c.if-broken.true)

pub returns : goal.returns
returns c = c.turn.ensures ∙ step_turned _ _ _ _ (sym c.broken.ensures ∙ c.if-broken.false)
