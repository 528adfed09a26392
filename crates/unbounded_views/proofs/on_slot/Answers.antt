use Prim.Native.Nat.{ℕ}
use mathlib.Core.Path.{ap}
use mathlib.Core.Bool.{true, false}
use Rattle.unbounded_places.specs.declared.Uses.TheVariants as uses
use Rattle.unbounded_views.proofs.on_slot.Goals as goal

pub returns : goal.returns
returns c = ap (λ (k : ℕ). record { busy = true; weak = false; takes = false; uses = uses.Slot k c.args.i }) c.number.ensures
