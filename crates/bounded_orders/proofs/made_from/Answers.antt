use mathlib.Core.Path.{refl}
use Rattle.bounded_orders.specs.Orders.{made_from}
use Rattle.bounded_orders.proofs.made_from.Goals as goal

pub returns : goal.returns
unfolding made_from
returns c = refl
