-- A step and a schedule on ring and records that go in by value and come out by value.
use Rattle.std.specs.Prelude.{ℕ, cond, List, ◌++◌, leb, take, drop}
use Rattle.bounded_places.specs.declared.Worker.{Worker}
use Rattle.bounded_orders.specs.declared.Metered.{Metered}
use Rattle.bounded_orders.specs.Orders.{records_most}
use Rattle.bounded_lent.specs.Lent.{Lent, step_lent, Gone, run_lent}
use Rattle.bounded_lent_by_value.specs.declared.Stepped.{Stepped}
use Rattle.bounded_lent_by_value.specs.declared.Passed.{Passed}

unfoldable pub at_most_of : ℕ → ℕ
at_most_of count = cond (leb count records_most) count records_most

-- with the records that were not lent behind those that were
abbrev pub stepped : Lent → List Worker → Stepped
stepped x rest = record { refusal = x.answer; ring = x.ring; records = x.records ++ rest }

unfoldable pub lends_of : Metered → List Worker → ℕ → ℕ → ℕ → Stepped
lends_of l all count first second = stepped (step_lent l (take (at_most_of count) all) first second) (drop (at_most_of count) all)

abbrev pub passed : Gone → List Worker → Passed
passed x rest = record { report = x.report; ring = x.ring; records = x.records ++ rest }

unfoldable pub passes_of : Metered → List Worker → ℕ → List ℕ → Passed
passes_of l all count s = passed (run_lent l (take (at_most_of count) all) s) (drop (at_most_of count) all)
