-- Which statement of the demands refuses which slip: of the machine that a schedule makes of a fresh one, with the slip in its table,
-- the statement is false. (Statements: crates/single_demands/specs/Demands.antt.)
use Rattle.std.specs.Prelude.{ℕ, ◌+◌, ◌*◌, false, List, [], ◌∷◌, ◌++◌, ◌≡◌}
use Rattle.queue_schedules.specs.Alone.{acts}
use Rattle.queue_numbers.specs.Slips.{refused_moves, unsearched, refused_empties}
use Rattle.single_machine.specs.declared.Machine.{Machine}
use Rattle.single_machine.specs.declared.Event.{Event}
use Rattle.single_machine.specs.Broken.{broken_of}
use Rattle.single_demands.specs.Notions.{machine_after, acts_of}
use Rattle.single_demands.specs.Stories.{Story, story_of}
use Rattle.single_demands.specs.Demands.{PlainThroughout, RefusedUnchangedBy, Numbered, EachNumber, RefusedExactly, ListFirstBy, StaysUnbrokenBy, AtMost, GoesOut, OnceOut, ReadsLatest, ReadsWritten, OneHand, LockedInHand, PushedWaits, ClosedHolds, PlainQueue, TakesOut, ContentsWait, AnswersTrue, Decides, Means, LookersTrue, ActByAct, WholeSchedules, NeverRefused, AloneEnds, InTheWay, HandLetsGo, PassedAsRun}
use Rattle.single_slips.specs.Slips.{none, push_takes_any, push_waits, always_full, unwritten, unlocks_first, unlock_clears_pushed, stays_locked, force_keeps_locked, force_keeps_its_word, force_unclosed, force_never_displaces, force_always_displaces, displaces_its_own, pop_keeps_locked, pop_waits, pop_leaves_pushed, empty_unclosed, pop_keeps_its_word, pop_takes_any, pop_peeks, reads_after_unlock, never_lets_go, len_unlocked, empty_is_zero, close_by_store, close_adds, push_drops, pushes_another, force_drops, empty_is_locked, pops_another, close_idle, face_with, steps_adding, slipped, deaf, refusing, gives_one, slower}

-- A schedule for a machine with two workers, with this slip.
pub record Trial : Type 0 where
  pub slip : ℕ
  pub schedule : List ℕ

abbrev pub trial : ℕ → List ℕ → Trial
trial n s = record { slip = n; schedule = s }

abbrev pub reached : Trial → Machine
reached t = machine_after (slipped t.slip) 2 t.schedule

abbrev pub past : Trial → List Event
past t = acts_of (slipped t.slip) 2 t.schedule

abbrev pub told : Trial → Story
told t = story_of (slipped t.slip) 2 t.schedule

-- Every answer is a plain queue's, of what this trial reaches.
abbrev pub PlainIn : Trial → Type 0
PlainIn t = PlainThroughout (reached t) (past t) (told t)

-- Worker w begins the call of this code and item, and does so many acts of it.
abbrev pub does : ℕ → ℕ → ℕ → ℕ → List ℕ
does w code item n = (16 * w + code) ∷ item ∷ acts w n

-- ---- what an answer means

-- one act of a push
abbrev pub push_acts : ℕ → Trial
push_acts n = trial n (does 0 0 5 1)

-- a force_push has found an item; a pop takes it out, and lets go
abbrev pub force_past_pop : Trial
force_past_pop = trial force_drops (does 0 0 5 3 ++ does 1 1 6 1 ++ does 0 2 0 3 ++ acts 1 1)

-- a push has the slot, and a pop comes; a pop has it, and a push comes
abbrev pub pop_while_push : Trial
pop_while_push = trial empty_is_locked (does 0 0 5 1 ++ does 1 2 0 1)

abbrev pub push_while_pop : Trial
push_while_pop = trial push_takes_any (does 0 0 5 3 ++ does 0 2 0 1 ++ does 1 0 6 1)

-- a pop has it, and another pop comes, or a force_push
abbrev pub pop_while_pop : Trial
pop_while_pop = trial pop_takes_any (does 0 0 5 3 ++ does 0 2 0 1 ++ does 1 2 0 1)

abbrev pub force_while_pop : Trial
force_while_pop = trial force_keeps_locked (does 0 0 5 3 ++ does 0 2 0 1 ++ does 1 1 6 1)

-- two closes, and a len beside a push
abbrev pub close_twice : Trial
close_twice = trial close_idle (does 0 6 0 1 ++ does 0 6 0 1)

abbrev pub len_while_push : Trial
len_while_push = trial len_unlocked (does 0 0 5 1 ++ does 1 3 0 1)

-- ---- demand 2

-- one push; a push and a pop; a push and two pops, of one worker
abbrev pub one_push : ℕ → Trial
one_push n = trial n (does 0 0 5 3)

abbrev pub push_pop : ℕ → Trial
push_pop n = trial n (does 0 0 5 3 ++ does 0 2 0 3)

abbrev pub push_peek : Trial
push_peek = trial pop_peeks (does 0 0 5 3 ++ does 0 2 0 1)

abbrev pub two_pops : Trial
two_pops = trial pop_leaves_pushed (does 0 0 5 3 ++ does 0 2 0 3 ++ does 0 2 0 3)

-- a force_push displaces
abbrev pub force_displaces : Trial
force_displaces = trial displaces_its_own (does 0 0 5 3 ++ does 0 1 6 4)

-- a pop that reads after another has written anew
abbrev pub pop_reads_late : Trial
pop_reads_late = trial reads_after_unlock (does 0 0 5 3 ++ does 1 2 0 2 ++ does 0 0 6 3 ++ acts 1 1)

-- a pop of a queue that was never written; a force_push of one
abbrev pub pop_of_nothing : Trial
pop_of_nothing = trial pop_takes_any (does 0 2 0 1)

abbrev pub force_of_nothing : Trial
force_of_nothing = trial force_always_displaces (does 0 1 6 1)

-- one push has the slot, another comes; a force_push comes; a pop comes
abbrev pub two_pushes : Trial
two_pushes = trial push_takes_any (does 0 0 5 1 ++ does 1 0 6 1)

abbrev pub force_beside_push : Trial
force_beside_push = trial force_keeps_locked (does 0 0 5 1 ++ does 1 1 6 2)

abbrev pub pop_beside_push : Trial
pop_beside_push = trial pop_keeps_locked (does 0 0 5 1 ++ does 1 2 0 2)

-- a push has unlocked and is to write
abbrev pub push_unlocked : Trial
push_unlocked = trial unlocks_first (does 0 0 5 2)

-- a close while a push has the slot; two closes
abbrev pub close_beside_push : Trial
close_beside_push = trial close_by_store (does 0 0 5 1 ++ does 1 6 0 1)

abbrev pub two_closes : Trial
two_closes = trial close_adds (does 0 6 0 1 ++ does 0 6 0 1)

-- a closed queue, and a force_push that has taken the slot
abbrev pub force_after_close : Trial
force_after_close = trial force_unclosed (does 0 6 0 1 ++ does 0 1 6 2)

-- a force_push has taken the slot of an item
abbrev pub force_overwrites : Trial
force_overwrites = trial force_never_displaces (does 0 0 5 3 ++ does 0 1 6 2)

-- a closed queue, and a pop begun
abbrev pub pop_after_close : Trial
pop_after_close = trial empty_unclosed (does 0 6 0 1 ++ does 1 2 0 0)

-- a pop of worker 0 has taken the item; a pop of worker 1 has begun, or a push
abbrev pub pop_beside_pop : Trial
pop_beside_pop = trial pop_waits (does 0 0 5 3 ++ does 0 2 0 1 ++ does 1 2 0 0)

abbrev pub push_beside_pop : Trial
push_beside_pop = trial push_waits (does 0 0 5 3 ++ does 0 2 0 1 ++ does 1 0 6 0)

-- a push begun on a fresh queue
abbrev pub push_begun : ℕ → Trial
push_begun n = trial n (does 1 0 6 0)

-- a push has the slot, and len has begun, or is_empty
abbrev pub len_beside_push : Trial
len_beside_push = trial len_unlocked (does 0 0 5 1 ++ does 1 3 0 0)

abbrev pub empty_after_close : Trial
empty_after_close = trial empty_is_zero (does 0 6 0 1 ++ does 1 4 0 0)

-- ---- demand 3

-- an item waits, and a push, a force_push has begun; it waits in a closed queue, and a pop has begun
abbrev pub push_on_full : Trial
push_on_full = trial push_waits (does 0 0 5 3 ++ does 1 0 6 0)

abbrev pub force_on_full : Trial
force_on_full = trial force_keeps_its_word (does 0 0 5 3 ++ does 1 1 6 0)

abbrev pub pop_of_closed : Trial
pop_of_closed = trial pop_keeps_its_word (does 0 0 5 3 ++ does 0 6 0 1 ++ does 1 2 0 0)

-- a pop after a push
abbrev pub pop_after_push : Trial
pop_after_push = trial stays_locked (does 0 0 5 3 ++ does 1 2 0 0)

-- a pop with the slot in hand
abbrev pub pop_in_hand : Trial
pop_in_hand = trial never_lets_go (does 0 0 5 3 ++ does 0 2 0 1)

-- ---- what is false

pub record Refuted : Type 0 where
  -- what an answer means: Pushed, and the item not put in
  pub plain_push_drops : PlainIn (push_acts push_drops) → ⊥
  pub plain_force_drops : PlainIn force_past_pop → ⊥
  -- another item put in, another handed out, or none taken out
  pub plain_another_in : PlainIn (push_acts pushes_another) → ⊥
  pub plain_another_out : PlainIn (push_pop pops_another) → ⊥
  pub plain_own_out : PlainIn force_displaces → ⊥
  pub plain_peeks : PlainIn push_peek → ⊥
  -- Full of a queue with room, Empty of one where an item waits, a second close that says yes, len 0 where one waits
  pub plain_full : PlainIn (push_acts always_full) → ⊥
  pub plain_empty : PlainIn pop_while_push → ⊥
  pub plain_close : PlainIn close_twice → ⊥
  pub plain_len : PlainIn len_while_push → ⊥
  -- an item put in while a pop has not let go, a second pop, a force_push that does not go back as it should
  pub plain_room : PlainIn push_while_pop → ⊥
  pub plain_two_pops : PlainIn pop_while_pop → ⊥
  pub plain_goes_back : PlainIn force_while_pop → ⊥
  -- an item that waits, and is not in the contents
  pub plain_lost : PlainIn (one_push unlock_clears_pushed) → ⊥
  -- each act is the one action
  pub act_by_act : ActByAct deaf → ⊥
  pub whole_schedules : WholeSchedules deaf → ⊥
  -- no reached machine is broken
  pub unbroken : broken_of (reached two_closes) ≡ false → ⊥
  -- what goes out is the item of the latest write, and goes out at most once
  pub goes_out_unwritten : GoesOut (past (push_pop unwritten)) → ⊥
  pub goes_out_late : GoesOut (past pop_reads_late) → ⊥
  pub once_out : OnceOut (past two_pops) → ⊥
  pub reads_latest : ReadsLatest (past two_pops) → ⊥
  pub reads_own : ReadsLatest (past force_displaces) → ⊥
  pub reads_pop : ReadsWritten (reached pop_of_nothing) (past pop_of_nothing) → ⊥
  pub reads_force : ReadsWritten (reached force_of_nothing) (past force_of_nothing) → ⊥
  pub takes_out : TakesOut (past push_peek) → ⊥
  -- one hand, and LOCKED while it is on the slot
  pub one_hand_push : OneHand (reached two_pushes) → ⊥
  pub one_hand_force : OneHand (reached force_beside_push) → ⊥
  pub one_hand_pop : OneHand (reached pop_beside_push) → ⊥
  pub locked : LockedInHand (reached push_unlocked) → ⊥
  pub locked_still : LockedInHand (reached (one_push stays_locked)) → ⊥
  pub locked_close : LockedInHand (reached close_beside_push) → ⊥
  -- PUSHED and CLOSED
  pub pushed : PushedWaits (reached (one_push unlock_clears_pushed)) (past (one_push unlock_clears_pushed)) → ⊥
  pub pushed_close : PushedWaits (reached close_beside_push) (past close_beside_push) → ⊥
  pub closed : ClosedHolds (reached force_after_close) (past force_after_close) → ⊥
  -- a plain one-slot queue, and contents
  pub plain : PlainQueue (past force_overwrites) → ⊥
  pub contents : ContentsWait (reached (one_push unlock_clears_pushed)) (past (one_push unlock_clears_pushed)) → ⊥
  -- Empty, Full and Closed
  pub answers : AnswersTrue (slipped empty_unclosed) (reached pop_after_close) → ⊥
  pub decides_pop : Decides (slipped pop_waits) (reached pop_beside_pop) → ⊥
  pub decides_push : Decides (slipped push_waits) (reached push_beside_pop) → ⊥
  pub decides_full : Decides (slipped always_full) (reached (push_begun always_full)) → ⊥
  pub means : Means (slipped always_full) (reached (push_begun always_full)) (past (push_begun always_full)) → ⊥
  pub lookers_len : LookersTrue (slipped len_unlocked) (reached len_beside_push) (past len_beside_push) → ⊥
  pub lookers_empty : LookersTrue (slipped empty_is_zero) (reached empty_after_close) (past empty_after_close) → ⊥
  -- demand 1
  pub unchanged : RefusedUnchangedBy (face_with refused_moves) → ⊥
  pub unchanged_buffer : RefusedUnchangedBy (face_with refused_empties) → ⊥
  pub numbered : Numbered gives_one → ⊥
  pub each_number : EachNumber gives_one → ⊥
  pub refused_exactly : RefusedExactly gives_one → ⊥
  pub list_first : ListFirstBy (face_with unsearched) → ⊥
  pub stays_unbroken : StaysUnbrokenBy steps_adding → ⊥
  -- demand 3
  pub at_most : AtMost slower → ⊥
  pub accepted : NeverRefused refusing (reached (push_begun none)) → ⊥
  pub alone_push : AloneEnds (slipped push_waits) (reached push_on_full) (past push_on_full) → ⊥
  pub alone_force : AloneEnds (slipped force_keeps_its_word) (reached force_on_full) (past force_on_full) → ⊥
  pub alone_pop : AloneEnds (slipped pop_keeps_its_word) (reached pop_of_closed) (past pop_of_closed) → ⊥
  pub alone_locked : AloneEnds (slipped stays_locked) (reached pop_after_push) (past pop_after_push) → ⊥
  -- it ends at once, and its answer is not the one foretold
  pub alone_early : AloneEnds (slipped always_full) (reached (push_begun always_full)) (past (push_begun always_full)) → ⊥
  pub in_the_way : InTheWay (slipped push_waits) (reached push_on_full) → ⊥
  pub lets_go : HandLetsGo (slipped never_lets_go) (reached pop_in_hand) → ⊥
  pub as_run : PassedAsRun deaf (reached (trial none [])) → ⊥
