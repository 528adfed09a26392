-- Making, beginning and acting, one call at a time.
use Rattle.std.specs.Prelude.{ℕ, ◌%◌, cond, ltb, Result, Ok, Err}
use Rattle.queue_entries.specs.Limits.{workers_most, in_limits}
use Rattle.unbounded_words.specs.Words.{Sizes}
use Rattle.unbounded_machine.specs.declared.Machine.{Machine}
use Rattle.unbounded_machine.specs.declared.Did.{Did}
use Rattle.unbounded_machine.specs.Machine.{fresh_of, blank, refused, accepted}
use Rattle.unbounded_machine.specs.Broken.{broken_of}
use Rattle.unbounded_machine.specs.Turn.{turn_of}

-- Making: 2 (there is no capacity, so no refusal 1). A refused making returns the blank machine.
unfoldable pub make_of : Sizes → ℕ → Did
make_of z workers = cond (in_limits workers workers_most) (accepted (fresh_of z workers)) (refused 2 (blank z))

-- One entry of a schedule by itself.
abbrev pub step_of : Sizes → Machine → ℕ → ℕ → Did
step_of = turn_of

-- Order: begin 6, 9, 3, 4. Codes 0 to 7 begin a call (code 1 is 9); any other is an entry that can't be read as a beginning.
unfoldable pub begin_step_of : Sizes → Machine → ℕ → ℕ → Did
begin_step_of z m first second =
    cond (broken_of z m) (refused 6 m) (cond (ltb (first % 16) 8) (turn_of z m first second) (refused 9 m))

-- Order: act 6, 9, 3, 5, 7, 8, 23. Codes 8 and 9 act; any other is an entry that can't be read as an act.
unfoldable pub act_step_of : Sizes → Machine → ℕ → ℕ → Did
act_step_of z m first second =
    cond (broken_of z m) (refused 6 m) (cond (ltb (first % 16) 8) (refused 9 m) (turn_of z m first second))

-- `capacity`: 6, else none (the crate's dispatch answers None for this queue).
unfoldable pub capacity_of : Sizes → Machine → Result (Unit {0}) ℕ
capacity_of z m = cond (broken_of z m) (Err 6) (Ok tt)
