-- Each number that a function can refuse by is given, computed.
use mathlib.Core.Path.{refl}
use Rattle.queue_entries.specs.Limits.{in_limits, all}
use Rattle.queue_entries.specs.Entries.{stray_of, order_of, entry_of}
use Rattle.queue_entries.specs.Schedules.{run_by, search_by, schedule_by}
use Rattle.queue_schedules.specs.Alone.{acts}
use Rattle.single_words.specs.Words.{same, locked_in, pushed_in, closed_in, unlocked, taken_of, closed_of_word}
use Rattle.single_acts.specs.Acts.{goes, state_to, value_to, exchanged, unlocked_in}
use Rattle.single_machine.specs.Machine.{idlers, fresh_of, refused, accepted}
use Rattle.single_machine.specs.Broken.{record_fits, idle_from, broken_of}
use Rattle.single_machine.specs.Contents.{contents_refusal}
use Rattle.single_machine.specs.Turn.{begun, stored, acted_by, turn_of_by}
use Rattle.single_machine.specs.Run.{ran}
use Rattle.single.specs.Single.{make_of, step_of, begin_step_of}
use Rattle.single.specs.Single as face
use Rattle.single_demands.specs.Demands.{EachNumber, refusals}

pub each_number : EachNumber refusals
unfolding same locked_in pushed_in closed_in unlocked taken_of closed_of_word stray_of order_of entry_of goes state_to value_to exchanged unlocked_in idlers fresh_of refused
    accepted all in_limits record_fits idle_from broken_of contents_refusal begun stored acted_by turn_of_by ran run_by search_by schedule_by make_of step_of begin_step_of
    face.act_step_of acts
each_number = record { make = refl; step = refl; begin = refl; act = refl; run = refl; contents = refl }
