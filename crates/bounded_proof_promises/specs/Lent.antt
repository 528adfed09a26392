-- The promises of the lent face (document 02, item 11), as its functions' own contracts say them: they are the ones that `OnlyOneLent` is said of. (The contracts are
-- read as they stand, in any model of the logic; `fact` is a claim there.)
use Rattle.std.specs.Prelude.{ℕ, Bool, List, ◌≡◌, Result}
use seplogic.Ra.Ura.{Ura}
use base.Logic.{SProp}
use base.Fml.{Lft}
use prog.Memory.{Memory}
use prog.Routine.{Routine}
use types.Logic.{Logic}
use contract.Monad.{Fun, fact}
use Rattle.std.specs.Borrow.{Bor, MutBor}
use Rattle.bounded_places.specs.declared.Worker.{Worker}
use Rattle.bounded_orders.specs.declared.Metered.{Metered}
use Rattle.bounded_orders.specs.declared.Report.{Report}
use Rattle.bounded_orders.specs.declared.Made.{Made}
use Rattle.bounded_orders.specs.Orders.{filled}
use Rattle.bounded_lent.specs.Lent.{lent, gone}
use Rattle.bounded_demands.specs.Lending.{promised, item11}
use Rattle.bounded_lent.specs.contracts.broken as broken
use Rattle.bounded_lent.specs.contracts.make as make
use Rattle.bounded_lent.specs.contracts.step as step
use Rattle.bounded_lent.specs.contracts.run as run
use Rattle.bounded_lent.specs.contracts.capacity as capacity
use Rattle.bounded_lent.specs.contracts.contents as contents

-- Of arguments as they come, an answer, and what is behind the references at exit.
pub record LentAsWritten {M : Type 1} {𝓤 : Ura M} (𝓛 : Logic 𝓤) (mem : Memory → SProp 𝓤) (runs : Routine → Fun 𝓤) : Type 2 where
  pub of_broken : (κ κ' : Lft) (ring : Bor Metered) (records : Bor (List Worker)) (x : Bool)
      → (broken.clauses 𝓛 mem runs (κ, (κ', tt)) (ring, (records, tt))).ensures tt x (ring, (records, tt)) ≡ fact 𝓤 ((promised item11).broken ring.now records.now x)
  pub of_make : (κ : Lft) (records after : MutBor (List Worker)) (size edition : ℕ) (x : Made)
      → (make.clauses 𝓛 mem runs (κ, tt) (records, (size, (edition, tt)))).ensures tt x (after, (size, (edition, tt)))
      ≡ fact 𝓤 ((promised item11).make records.now size edition (lent x.refusal x.ring after.now))
  pub of_step : (κ κ' : Lft) (ring left : MutBor Metered) (records after : MutBor (List Worker)) (first second x : ℕ)
      → (step.clauses 𝓛 mem runs (κ, (κ', tt)) (ring, (records, (first, (second, tt))))).ensures tt x (left, (after, (first, (second, tt))))
      ≡ fact 𝓤 ((promised item11).step ring.now records.now first second (lent x left.now after.now))
  pub of_run : (κ κ' κ'' : Lft) (ring left : MutBor Metered) (records after : MutBor (List Worker)) (schedule : Bor (List ℕ)) (x : Report)
      → (run.clauses 𝓛 mem runs (κ, (κ', (κ'', tt))) (ring, (records, (schedule, tt)))).ensures tt x (left, (after, (schedule, tt)))
      ≡ fact 𝓤 ((promised item11).run ring.now records.now schedule.now (gone x left.now after.now))
  pub of_capacity : (κ κ' : Lft) (ring : Bor Metered) (records : Bor (List Worker)) (x : Result ℕ ℕ)
      → (capacity.clauses 𝓛 mem runs (κ, (κ', tt)) (ring, (records, tt))).ensures tt x (ring, (records, tt)) ≡ fact 𝓤 ((promised item11).capacity ring.now records.now x)
  pub of_contents : (κ κ' κ'' : Lft) (ring : Bor Metered) (records : Bor (List Worker)) (buffer after : MutBor (List ℕ)) (x : Result ℕ ℕ)
      → (contents.clauses 𝓛 mem runs (κ, (κ', (κ'', tt))) (ring, (records, (buffer, tt)))).ensures tt x (ring, (records, (after, tt)))
      ≡ fact 𝓤 ((promised item11).contents ring.now records.now buffer.now (filled x after.now))
