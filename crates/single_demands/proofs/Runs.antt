-- The runs of the table, computed from the definitions.
use mathlib.Core.Path.{refl}
use Rattle.queue_entries.specs.Schedules.{run_by, search_by, schedule_by, history_by}
use Rattle.queue_entries.specs.Entries.{stray_of, order_of, entry_of}
use Rattle.queue_entries.specs.Limits.{all, in_limits}
use Rattle.queue_entries.specs.Told.{told}
use Rattle.queue_schedules.specs.Alone.{acts}
use Rattle.single_words.specs.Words.{same, pushed_in, closed_in, unlocked, taken_of, closed_of_word}
use Rattle.single_acts.specs.Acts.{goes, state_to, value_to, exchanged, unlocked_in}
use Rattle.single_machine.specs.Machine.{idlers, fresh_of, refused, accepted}
use Rattle.single_machine.specs.Broken.{record_fits, idle_from, broken_of}
use Rattle.single_machine.specs.Contents.{contents_of, capacity_of}
use Rattle.single_machine.specs.Turn.{begun, stored, acted_by, turn_of_by}
use Rattle.single_machine.specs.Run.{ran}
use Rattle.single.specs.Single.{make_of}
use Rattle.single_demands.specs.Notions.{waiting_from, closed_by}
use Rattle.single_demands.specs.Runs.{RunsHold, found, found_in, table}

pub runs_hold : RunsHold
unfolding same pushed_in closed_in unlocked taken_of closed_of_word stray_of order_of entry_of goes state_to value_to exchanged unlocked_in idlers fresh_of refused accepted all
    in_limits record_fits idle_from broken_of told contents_of capacity_of begun stored acted_by turn_of_by ran run_by search_by schedule_by history_by make_of acts
    waiting_from closed_by found found_in table
runs_hold = refl
