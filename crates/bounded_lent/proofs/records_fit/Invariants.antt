use Rattle.std.proofs.Common.{ℕ, ◌≡◌, ◌-◌, length}
use Rattle.queue_entries.specs.Limits.{all}
use Rattle.bounded_machine.specs.Machine.{record_of_worker}
use Rattle.bounded_machine.specs.Broken.{record_fits}
use Rattle.bounded_lent.specs.Lent.{each_fits}
use Rattle.bounded_lent.proofs.records_fit.Given as goal

-- i records were looked at, and what is left of the test is the whole test
abbrev pub invariant-loop-record : goal.invariant-loop-record
invariant-loop-record l =
    (all (length l.records - l.record-index) l.record-index (λ (k : ℕ). record_fits l.f l.meter (record_of_worker l.records k) l.counted) ≡ each_fits l.f l.meter l.counted l.records)
