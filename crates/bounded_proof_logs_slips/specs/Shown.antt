-- Of each row a wrong table, and a short schedule whose log shows it. Lines of a log are named by where their call began: entry 0, 6, ..
use Rattle.std.specs.Prelude.{◌++◌}
use Rattle.queue_logs.specs.Logs.{Log, any, FromNowhere, Twice, Overtaken, EmptyBeside, FullBeside, ClosedNever, OpenAfter, WrongCount, RoomBeside, SomeBeside}
use Rattle.bounded_demands.specs.Notions.{acts}
use Rattle.bounded_logs.specs.Logs.{ring_log, ShowsNone}
use Rattle.bounded_slips.specs.Slips.{closed_unseen, tail_unmoved, full_unseen, empty_unseen, hands_out_again, len_looks_once, force_forgets, another_item, empty_says_no, full_says_no, push_stamp_untested, slipped}
use Rattle.bounded_slips.specs.Refuted.{Trial, trial, trial_in, does}

-- With two workers.
abbrev pub trial_log : Trial → Log
trial_log t = ring_log (slipped t.slip) t.capacity 2 t.edition t.schedule

-- 1, 2. a pop of a ring to which nothing was pushed hands out what lies there; and after a push and its pop once more
abbrev pub pop_of_none : Trial
pop_of_none = trial hands_out_again 1 (does 0 2 0 3)

abbrev pub pop_again : Trial
pop_again = trial hands_out_again 1 (does 0 0 5 5 ++ does 0 2 0 5 ++ does 0 2 0 3)

-- 3. pushes of 7, 6 and 8 that go on with one more: 8 comes out before 7
abbrev pub items_mixed : Trial
items_mixed = trial another_item 3 (does 0 0 7 5 ++ does 0 0 6 5 ++ does 0 0 8 5 ++ does 0 2 0 5 ++ does 0 2 0 5)

-- 4. worker 1's push has claimed and not written; behind it 5 is in, and a pop answers Empty
abbrev pub empty_beside_one : Trial
empty_beside_one = trial empty_unseen 2 (does 1 0 6 3 ++ does 0 0 5 5 ++ does 0 2 0 3)

-- 5. of two items one has gone out and the other's pop has its slot in hand: a push answers Full
abbrev pub full_beside_room : Trial
full_beside_room = trial full_unseen 2 (does 1 0 6 5 ++ does 1 0 7 5 ++ does 1 2 0 3 ++ does 0 2 0 5 ++ does 0 0 8 3)

-- 6. a push that lost its exchange answers Closed, and nobody closes; edition 2: a force_push clears the mark, and is_closed answers no
abbrev pub closed_by_nobody : Trial
closed_by_nobody = trial closed_unseen 2 (does 0 0 5 2 ++ does 1 0 6 5 ++ acts 0 1)

abbrev pub open_again : Trial
open_again = trial_in 2 force_forgets 1 (does 0 0 7 5 ++ does 0 1 8 2 ++ does 1 6 0 1 ++ acts 0 4 ++ does 1 7 0 1)

-- 7. a push and its pop between the loads of a len, which answers 2; a push that does not move tail, and a len that answers 0
abbrev pub count_too_many : Trial
count_too_many = trial len_looks_once 3 (does 0 3 0 1 ++ does 1 0 5 5 ++ does 1 2 0 5 ++ acts 0 2)

abbrev pub count_too_few : Trial
count_too_few = trial tail_unmoved 2 (does 0 0 5 5 ++ does 0 3 0 3)

-- 8. a push onto a full ring answers Pushed; is_full of a full one no; is_empty of an empty one no
abbrev pub room_of_full : Trial
room_of_full = trial push_stamp_untested 1 (does 0 0 5 5 ++ does 0 0 6 5)

abbrev pub full_denied : Trial
full_denied = trial full_says_no 1 (does 0 0 5 5 ++ does 0 5 0 2)

abbrev pub empty_denied : Trial
empty_denied = trial empty_says_no 1 (does 0 4 0 2)

-- The row that each shows.
pub record RowsShown : Type 0 where
  pub from_nowhere : FromNowhere (trial_log pop_of_none) 0 0
  pub twice : Twice (trial_log pop_again) 5
  pub overtaken : Overtaken (trial_log items_mixed) 7 8 0 12 24 18
  pub empty_beside : EmptyBeside (trial_log empty_beside_one) 10 any
  pub full_beside : FullBeside (trial_log full_beside_room) 2 22
  pub closed_never : ClosedNever (trial_log closed_by_nobody) 0
  pub open_after : OpenAfter (trial_log open_again) 9 15
  pub too_many : WrongCount (trial_log count_too_many) 3 0 2
  pub too_few : WrongCount (trial_log count_too_few) 2 6 0
  pub room_beside : RoomBeside (trial_log room_of_full) 1 6
  pub full_no : RoomBeside (trial_log full_denied) 1 6
  pub some_beside : SomeBeside (trial_log empty_denied) 0

abbrev pub Unshown : Trial → Type 0
Unshown t = ShowsNone (slipped t.slip) → ⊥

-- So that the statement is false of each table.
pub record RefutedLogs : Type 0 where
  pub hands_out_again_lem : Unshown pop_of_none
  pub hands_out_twice : Unshown pop_again
  pub another_item_lem : Unshown items_mixed
  pub empty_unseen_lem : Unshown empty_beside_one
  pub full_unseen_lem : Unshown full_beside_room
  pub closed_unseen_lem : Unshown closed_by_nobody
  pub force_forgets_lem : Unshown open_again
  pub len_looks_once_lem : Unshown count_too_many
  pub tail_unmoved_lem : Unshown count_too_few
  pub push_untested : Unshown room_of_full
  pub full_says_no_lem : Unshown full_denied
  pub empty_says_no_lem : Unshown empty_denied
