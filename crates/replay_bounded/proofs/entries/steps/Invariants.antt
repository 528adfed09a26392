use Rattle.std.proofs.Common.{◌≡◌, true, false}
use Rattle.bounded_lent.specs.Lent.{broken_lent}
use Rattle.bounded_rows.specs.Rows.{words, records_in, metered_in, stand}
use Rattle.replay_bounded.proofs.entries.steps.Given as goal

abbrev pub invariant-loop-i : goal.invariant-loop-i
invariant-loop-i l =
    (broken_lent (metered_in (words l.head l.slots l.records)) (records_in l.records) ≡ false) × (stand (words l.head l.slots l.records) ≡ true)
