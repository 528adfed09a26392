-- What a schedule answers whose entries were run: item 7 of document 02, "if found, nothing is run and the first such place is reported".
use Rattle.std.specs.Prelude.{ℕ, Option, Some, None}
use Rattle.bounded_machine.specs.declared.Machine.{Machine}
use Rattle.bounded_machine.specs.declared.Ran.{Ran}
use Rattle.bounded_machine.specs.Run.{ran}

-- The machine as it was handed in, and what its entries gave.
unfoldable pub unless_unread : Machine → Ran → Option ℕ → Ran
unless_unread m done None = done
unless_unread m done (Some place) = ran 9 place m
