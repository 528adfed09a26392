-- Schedules: entries one after another, stopping at the first refusal.
use Rattle.std.specs.Prelude.{ℕ, List}
use Rattle.queue_entries.specs.Schedules.{run_by, schedule_by}
use Rattle.unbounded_words.specs.Words.{Sizes}
use Rattle.unbounded_machine.specs.declared.Machine.{Machine}
use Rattle.unbounded_machine.specs.declared.Did.{Did}
use Rattle.unbounded_machine.specs.declared.Ran.{Ran}
use Rattle.unbounded_machine.specs.Broken.{broken_of}
use Rattle.unbounded_machine.specs.Turn.{entry_here, turn_of}

unfoldable pub ran : ℕ → ℕ → Machine → Ran
ran number place m = record { refusal = number; place = place; machine = m }

-- The entries of a schedule, the first of them at this place, each by what it makes of a machine.
abbrev pub run_with : (Machine → ℕ → ℕ → Did) → Machine → ℕ → List ℕ → Ran
run_with turn = run_by (λ (d : Did). d.refusal) (λ (d : Did). d.machine) turn ran

abbrev pub run_from : Sizes → Machine → ℕ → List ℕ → Ran
run_from z = run_with (turn_of z)

abbrev pub run_of : Sizes → Machine → List ℕ → Ran
run_of z = schedule_by (λ (d : Did). d.refusal) (λ (d : Did). d.machine) (turn_of z) ran (broken_of z) entry_here
