-- Making, beginning and acting, one call at a time.
use Rattle.std.specs.Prelude.{ℕ, ◌%◌, cond, ltb}
use Rattle.queue_entries.specs.Limits.{workers_most, in_limits}
use Rattle.single_machine.specs.declared.Machine.{Machine}
use Rattle.single_machine.specs.declared.Did.{Did}
use Rattle.single_machine.specs.Machine.{fresh_of, blank, refused, accepted}
use Rattle.single_machine.specs.Broken.{broken_of}
use Rattle.single_machine.specs.Turn.{turn_of}

-- Order: making 2. A refused making returns the blank machine.
unfoldable pub make_of : ℕ → Did
make_of workers = cond (in_limits workers workers_most) (accepted (fresh_of workers)) (refused 2 blank)

-- One entry of a schedule by itself.
unfoldable pub step_of : Machine → ℕ → ℕ → Did
step_of m first second = cond (broken_of m) (refused 6 m) (turn_of m first second)

-- Order: begin 6, 9, 3, 4. Codes 0 to 7 begin a call; any other is an entry that can't be read as a beginning.
unfoldable pub begin_step_of : Machine → ℕ → ℕ → Did
begin_step_of m first second =
    cond (broken_of m) (refused 6 m) (cond (ltb (first % 16) 8) (turn_of m first second) (refused 9 m))

-- Order: act 6, 9, 3, 5, 7, 8. Codes 8 and 9 act; any other is an entry that can't be read as an act.
unfoldable pub act_step_of : Machine → ℕ → ℕ → Did
act_step_of m first second =
    cond (broken_of m) (refused 6 m) (cond (ltb (first % 16) 8) (refused 9 m) (turn_of m first second))
