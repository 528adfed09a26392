use mathlib.Core.Path.{ap, ◌∙◌}
use mathlib.Core.List.{List}
use Prim.Native.Nat.{ℕ}
use Rattle.tapes_fields.specs.Fields.{over}
use Rattle.tapes_fields.proofs.Writing.{ended}
use Rattle.tapes_fields.proofs.put_end.Goals as goal

pub returns : goal.returns
returns c = c.put_opening.ensures ∙ ap (λ (l : List ℕ). over l c.args.buffer.now)
    (ended c.args.v)
