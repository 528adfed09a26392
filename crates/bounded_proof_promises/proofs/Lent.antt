-- The lent face's promises are the ones that `OnlyOneLent` is said of.
use mathlib.Core.Path.{refl}
use seplogic.Ra.Ura.{Ura}
use base.Logic.{SProp}
use prog.Memory.{Memory}
use prog.Routine.{Routine}
use types.Logic.{Logic}
use contract.Monad.{Fun}
use Rattle.bounded_proof_promises.specs.Lent.{LentAsWritten}

pub lent_as_written : {M : Type 1} {𝓤 : Ura M} (𝓛 : Logic 𝓤) (mem : Memory → SProp 𝓤) (runs : Routine → Fun 𝓤) → LentAsWritten 𝓛 mem runs
lent_as_written 𝓛 mem runs =
    record {
      of_broken = λ κ κ' ring records x. refl;
      of_make = λ κ records after size edition x. refl;
      of_step = λ κ κ' ring left records after first second x. refl;
      of_run = λ κ κ' κ'' ring left records after schedule x. refl;
      of_capacity = λ κ κ' ring records x. refl;
      of_contents = λ κ κ' κ'' ring records buffer after x. refl;
    }
