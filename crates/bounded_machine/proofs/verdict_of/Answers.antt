use mathlib.Core.Path.{ap, ◌∙◌}
use mathlib.Core.Bool.{Bool}
use Rattle.queue_entries.specs.Entries.{verdict_for}
use Rattle.bounded_places.specs.Places.{view_of}
use Rattle.bounded_machine.proofs.verdict_of.Goals as goal

pub returns : goal.returns
returns c =
    let a = c.args in
    c.verdict_for.ensures
    ∙ ap (λ (b : Bool). verdict_for a.meter b c.weak.result a.o) c.busy.ensures
    ∙ ap (λ (b : Bool). verdict_for a.meter (view_of a.p).busy b a.o) c.weak.ensures
