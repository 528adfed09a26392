-- "Schedules" of document 01: entries one after another, stopping at the first refusal, once all can be read.
use Rattle.std.specs.Prelude.{ℕ, List}
use Rattle.queue_entries.specs.Entries.{entry_of}
use Rattle.queue_entries.specs.Schedules.{run_by, schedule_by}
use Rattle.bounded_words.specs.declared.Width.{Width}
use Rattle.bounded_words.specs.declared.Width.TheVariants.{SixtyFour}
use Rattle.bounded_acts.specs.Acts.{act_of}
use Rattle.bounded_machine.specs.declared.Machine.{Machine}
use Rattle.bounded_machine.specs.declared.Did.{Did}
use Rattle.bounded_machine.specs.declared.Ran.{Ran}
use Rattle.bounded_machine.specs.Broken.{broken_of}
use Rattle.bounded_machine.specs.Turn.{Table, turn_of_by, turn_at}

unfoldable pub ran : ℕ → ℕ → Machine → Ran
ran number place m = record { refusal = number; place = place; machine = m }

-- The entries of a schedule, the first of them at this place, each by what it makes of a machine.
abbrev pub run_with : (Machine → ℕ → ℕ → Did) → Machine → ℕ → List ℕ → Ran
run_with turn = run_by (λ (d : Did). d.refusal) (λ (d : Did). d.machine) turn ran

abbrev pub run_at : Width → Machine → ℕ → List ℕ → Ran
run_at bits = run_with (turn_at bits)

abbrev pub run_from : Machine → ℕ → List ℕ → Ran
run_from = run_at SixtyFour

-- A whole schedule.
abbrev pub run_of_by : Table → Machine → List ℕ → Ran
run_of_by table = schedule_by (λ (d : Did). d.refusal) (λ (d : Did). d.machine) (turn_of_by table) ran broken_of entry_of

abbrev pub run_of : Machine → List ℕ → Ran
run_of = run_of_by (act_of SixtyFour)
