-- "Schedules" of document 01: entries one after another, stopping at the first refusal, once all can be read.
use Rattle.std.specs.Prelude.{ℕ, List}
use Rattle.queue_entries.specs.Entries.{entry_of}
use Rattle.queue_entries.specs.Schedules.{run_by, schedule_by}
use Rattle.single_machine.specs.declared.Machine.{Machine}
use Rattle.single_machine.specs.declared.Did.{Did}
use Rattle.single_machine.specs.declared.Ran.{Ran}
use Rattle.single_machine.specs.Broken.{broken_of}
use Rattle.single_machine.specs.Turn.{turn_of}

unfoldable pub ran : ℕ → ℕ → Machine → Ran
ran number place m = record { refusal = number; place = place; machine = m }

-- The entries of a schedule, the first of them at this place, each by what it makes of a machine.
abbrev pub run_with : (Machine → ℕ → ℕ → Did) → Machine → ℕ → List ℕ → Ran
run_with turn = run_by (λ (d : Did). d.refusal) (λ (d : Did). d.machine) turn ran

abbrev pub run_from : Machine → ℕ → List ℕ → Ran
run_from = run_with turn_of

abbrev pub run_of : Machine → List ℕ → Ran
run_of = schedule_by (λ (d : Did). d.refusal) (λ (d : Did). d.machine) turn_of ran broken_of entry_of
