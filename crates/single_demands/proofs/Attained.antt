-- Demand 3's numbers, computed from the definitions.
use mathlib.Core.Path.{refl, sym}
use mathlib.Core.Bool.{true≢false}
use native.Mathlib.Omega.{arith}
use Rattle.queue_entries.specs.Schedules.{run_by, search_by, schedule_by}
use Rattle.queue_entries.specs.Entries.{stray_of, order_of, entry_of}
use Rattle.queue_entries.specs.Limits.{all, in_limits}
use Rattle.queue_schedules.specs.Alone.{acts}
use Rattle.single_words.specs.Words.{same, pushed_in, closed_in, unlocked, taken_of, closed_of_word}
use Rattle.single_places.specs.declared.Place.TheVariants.{Idle, A1, A2, A3, B1, B2, B3, B4, B5, C1, C2, C3, Len1, Empty1, Full1, Close1, IsClosed1}
use Rattle.single_acts.specs.Acts.{goes, state_to, value_to, exchanged, unlocked_in}
use Rattle.single_machine.specs.Machine.{idlers, fresh_of, refused, accepted}
use Rattle.single_machine.specs.Broken.{record_fits, idle_from, broken_of}
use Rattle.single_machine.specs.Turn.{begun, stored, acted_by, turn_of_by}
use Rattle.single_machine.specs.Run.{ran}
use Rattle.single_demands.specs.Notions.{most_of}
use Rattle.single_demands.specs.Attained.{attained, seen_in, sight_of, needed, others_idle}
use Rattle.single_demands.specs.Demands.{AtMost, Attained}

pub numbers_attained : Attained
unfolding same pushed_in closed_in unlocked taken_of closed_of_word stray_of order_of entry_of goes state_to value_to exchanged unlocked_in idlers fresh_of refused accepted all
    in_limits record_fits idle_from broken_of begun stored acted_by turn_of_by ran run_by search_by schedule_by acts attained seen_in sight_of needed others_idle
numbers_attained = refl

pub at_most : AtMost most_of
at_most (Idle a) = (omega arith, λ h. omega arith)
at_most (A1 x) = (omega arith, λ h. absurd (true≢false (sym h)))
at_most (A2 x) = (omega arith, λ h. omega arith)
at_most A3 = (omega arith, λ h. omega arith)
at_most (B1 e x) = (omega arith, λ h. absurd (true≢false (sym h)))
at_most (B2 x) = (omega arith, λ h. omega arith)
at_most B3 = (omega arith, λ h. omega arith)
at_most (B4 x) = (omega arith, λ h. omega arith)
at_most (B5 old) = (omega arith, λ h. omega arith)
at_most (C1 e) = (omega arith, λ h. absurd (true≢false (sym h)))
at_most C2 = (omega arith, λ h. omega arith)
at_most (C3 v) = (omega arith, λ h. omega arith)
at_most Len1 = (omega arith, λ h. omega arith)
at_most Empty1 = (omega arith, λ h. omega arith)
at_most Full1 = (omega arith, λ h. omega arith)
at_most Close1 = (omega arith, λ h. omega arith)
at_most IsClosed1 = (omega arith, λ h. omega arith)
