-- The counts of the claims and of the values read, in machine words and in the history.
use Rattle.std.proofs.Common.{◌≡◌, ◌+◌, ◌<◌, Bool, true, false, refl, mod-eq_of_lt}
use Rattle.bounded_words.specs.Limits.{wide}
use Rattle.bounded_places.specs.declared.Moved.{Moved}
use Rattle.bounded_places.specs.declared.Moved.TheVariants.{Neither, Tail, Head}
use Rattle.bounded_machine.specs.declared.Tally.{Tally}
use Rattle.bounded_machine.specs.History.{counted, read_on}
use Rattle.bounded_stock.specs.Stock.{one_more_act, next_claim, with_claim, with_read}

-- the counts in machine words are the history's, below the width
pub tally_counts : (t : Tally) (q : Moved) (b : Bool) → t.tail.0 + 1 < wide → t.head.0 + 1 < wide → t.reads + 1 < wide
    → with_read (with_claim t q) b ≡ read_on b (counted q t)
unfolding next_claim one_more_act
tally_counts t Neither false l g r = refl
tally_counts t Tail false l g r = rw (mod-eq_of_lt l)
tally_counts t Head false l g r = rw (mod-eq_of_lt g)
tally_counts t Neither true l g r = rw (mod-eq_of_lt r)
tally_counts t Tail true l g r = rw (mod-eq_of_lt l, mod-eq_of_lt r)
tally_counts t Head true l g r = rw (mod-eq_of_lt g, mod-eq_of_lt r)
