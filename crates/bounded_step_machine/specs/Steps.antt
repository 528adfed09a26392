-- Beginning and acting, one call at a time, by a table of what an act does at each place.
use Rattle.std.specs.Prelude.{ℕ, ◌%◌, cond, ltb}
use Rattle.bounded_machine.specs.declared.Machine.{Machine}
use Rattle.bounded_machine.specs.declared.Did.{Did}
use Rattle.bounded_machine.specs.Machine.{refused}
use Rattle.bounded_machine.specs.Broken.{broken_of}
use Rattle.bounded_machine.specs.Turn.{Table, turn_of_by}

-- One entry of a schedule by itself.
unfoldable pub step_of_by : Table → Machine → ℕ → ℕ → Did
step_of_by table m first second = cond (broken_of m) (refused 6 m) (turn_of_by table m first second)

-- Order: begin 6, 9, 3, 4. Codes 0 to 7 begin a call; any other is an entry that can't be read as a beginning.
unfoldable pub begin_step_of_by : Table → Machine → ℕ → ℕ → Did
begin_step_of_by table m first second =
    cond (broken_of m) (refused 6 m) (cond (ltb (first % 16) 8) (turn_of_by table m first second) (refused 9 m))

-- Order: act 6, 9, 3, 5, 7, 8. Codes 8 and 9 act; any other is an entry that can't be read as an act.
unfoldable pub act_step_of_by : Table → Machine → ℕ → ℕ → Did
act_step_of_by table m first second =
    cond (broken_of m) (refused 6 m) (cond (ltb (first % 16) 8) (refused 9 m) (turn_of_by table m first second))
