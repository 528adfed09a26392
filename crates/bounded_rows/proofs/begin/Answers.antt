use mathlib.Core.Path.{ap, ◌∙◌}
use Rattle.bounded_places.specs.declared.Place.{Place}
use Rattle.bounded_machine.specs.Turn.{beginner}
use Rattle.bounded_rows.specs.Rows.{with_record}
use Rattle.bounded_rows.proofs.begin.Goals as goal

pub returns : goal.returns
returns c = c.put_record.ensures ∙ ap (λ (p : Place). with_record c.args.records.now
    c.args.i (beginner p)) c.first_place.ensures
