use mathlib.Core.Path.{ap, ◌∙◌}
use mathlib.Core.Bool.{not}
use borrow.Author.Rules.{rules}
use Rattle.bounded_sequences.proofs.Acting.{may_idle, may_weak, may_any}
use Rattle.bounded_sequences.proofs.may_act.Goals as goal

pub returns-then-not-lose : goal.returns-then-not-lose
returns-then-not-lose c = ap not c.if-not-lose.true ∙ (search (rules, may_any))

pub returns-else-not-lose : goal.returns-else-not-lose
returns-else-not-lose c = search (rules, may_weak)

pub returns-else-view : goal.returns-else-view
returns-else-view c = search (rules, may_idle)
