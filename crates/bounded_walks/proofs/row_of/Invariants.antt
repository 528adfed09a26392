use mathlib.Core.Path.{◌≡◌}
use lib.ListN.{length, take}
use Rattle.bounded_words.specs.Limits.{slots_most}
use Rattle.bounded_walks.specs.Walks.{row_of}
use Rattle.bounded_walks.proofs.row_of.Given as goal

abbrev pub invariant-loop-i : goal.invariant-loop-i
invariant-loop-i l =
    (length l.slots ≡ slots_most) × (length l.row ≡ slots_most) × (take l.i l.row ≡ take l.i (row_of l.value l.slots))
