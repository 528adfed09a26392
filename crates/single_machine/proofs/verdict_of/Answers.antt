use mathlib.Core.Path.{ap, ◌∙◌}
use mathlib.Core.Bool.{false}
use Rattle.queue_entries.specs.Entries.{verdict_for}
use Rattle.single_places.specs.declared.View.{View}
use Rattle.single_machine.proofs.verdict_of.Goals as goal

pub returns : goal.returns
returns c = c.verdict_for.ensures ∙ ap (λ (v : View). verdict_for c.args.meter v.busy false c.args.o) c.view_of.ensures
