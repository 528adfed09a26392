-- Which tables are no plain queue's: of each slip a schedule on which `AnswersPlain` is false (clause by clause: Clauses.antt); and of which `OneStep` is.
use Rattle.std.specs.Prelude.{[], ◌++◌}
use Rattle.bounded_words.specs.declared.Width.TheVariants.{SixtyFour}
use Rattle.bounded_demands.specs.Notions.{acts, document01, with_records}
use Rattle.bounded_demands.specs.Stories.{story_of, moment_named}
use Rattle.bounded_demands.specs.Demands.{AnswersPlain, OneStep, OneStepUnderEverySchedule, NamesMomentsBy, NamesMomentsOf}
use Rattle.bounded_slips.specs.Slips.{unwritten, full_unseen, stamp_before_value, empty_unseen, len_looks_once, empty_tail_first, full_head_first, push_writes_late, force_forgets, closed_too_soon, closed_unseen, hands_out_again, another_item, another_forced, lost_says_pushed, empty_says_no, full_says_no, close_says_yes, closed_says_no, lost_drops_the_mark, force_keeps, push_stamp_untested, force_uncompared, empty_of_closed, len_forgets, slipped}
use Rattle.bounded_slips.specs.Refuted.{Trial, trial, trial_in, does}

-- The last act of each schedule is the one that is wrong; of the first two its item is.

-- a push, up to its claim; a force_push of a full ring, up to its head claim
abbrev pub push_changes : Trial
push_changes = trial another_item 1 (does 0 0 5 3)

abbrev pub force_changes : Trial
force_changes = trial another_forced 1 (does 0 0 5 5 ++ does 0 1 6 3)

-- a push loses its exchange to another; the same, and the queue is closed then: it finds it full
abbrev pub push_drops : Trial
push_drops = trial lost_says_pushed 2 (does 0 0 5 2 ++ does 1 0 6 5 ++ acts 0 1)

abbrev pub push_unmarks : Trial
push_unmarks = trial lost_drops_the_mark 1 (does 0 0 5 2 ++ does 1 0 6 5 ++ does 1 6 0 1 ++ acts 0 3)

-- a push loses its exchange to another, with room
abbrev pub push_closes : Trial
push_closes = trial closed_unseen 2 (does 0 0 5 2 ++ does 1 0 6 5 ++ acts 0 1)

-- a push onto a full ring
abbrev pub push_overwrites : Trial
push_overwrites = trial push_stamp_untested 1 (does 0 0 5 5 ++ does 0 0 6 5)

-- a push that finds a pop's slot in hand, of an empty ring
abbrev pub push_beside_pop : Trial
push_beside_pop = trial full_unseen 1 (does 1 0 6 5 ++ does 1 2 0 3 ++ does 0 0 5 3)

-- a push whose item is not written, or written late, and a pop of it
abbrev pub push_of_nothing : Trial
push_of_nothing = trial unwritten 1 (does 0 0 5 5 ++ does 0 2 0 5)

abbrev pub pop_too_early : Trial
pop_too_early = trial push_writes_late 1 (does 0 0 5 4 ++ does 1 2 0 5)

abbrev pub pop_of_displaced : Trial
pop_of_displaced = trial stamp_before_value 1 (does 0 0 5 5 ++ does 1 1 6 5 ++ does 0 2 0 5)

-- a force_push whose head is not compared takes the front of an empty ring
abbrev pub force_of_nothing : Trial
force_of_nothing = trial force_uncompared 1 (does 0 0 5 5 ++ does 1 1 6 2 ++ does 0 2 0 5 ++ acts 1 1)

-- case F and is_closed, in either edition
abbrev pub close_forgotten : Trial
close_forgotten = trial_in 2 force_forgets 1 (does 0 0 7 5 ++ does 0 1 8 2 ++ does 1 6 0 1 ++ acts 0 4 ++ does 1 7 0 1)

abbrev pub close_kept : Trial
close_kept = trial force_keeps 1 (does 0 0 7 5 ++ does 0 1 8 2 ++ does 1 6 0 1 ++ acts 0 4 ++ does 1 7 0 1)

-- a pop beside a push in hand; of a closed queue that is empty, and of one that is not; a second pop of one item
abbrev pub pop_beside_push : Trial
pop_beside_push = trial empty_unseen 1 (does 1 0 6 3 ++ does 0 2 0 3)

abbrev pub pop_of_closed : Trial
pop_of_closed = trial empty_of_closed 1 (does 1 6 0 1 ++ does 0 2 0 3)

abbrev pub pop_of_shut : Trial
pop_of_shut = trial closed_too_soon 1 (does 1 0 6 3 ++ does 0 6 0 1 ++ does 0 2 0 3)

abbrev pub pop_again : Trial
pop_again = trial hands_out_again 1 (does 0 0 5 5 ++ does 0 2 0 5 ++ does 0 2 0 3)

-- a push and a pop between len's two loads: one at most waits, and it says two; the same between is_empty's, where one always waits; a push, a pop and a push between is_full's, where two never do
abbrev pub len_beside : Trial
len_beside = trial len_looks_once 3 (does 0 3 0 1 ++ does 1 0 5 5 ++ does 1 2 0 5 ++ acts 0 2)

abbrev pub never_empty : Trial
never_empty = trial empty_tail_first 2 (does 1 0 5 5 ++ does 0 4 0 1 ++ does 1 0 6 5 ++ does 1 2 0 5 ++ acts 0 1)

abbrev pub never_full : Trial
never_full = trial full_head_first 2 (does 0 5 0 1 ++ does 1 0 5 5 ++ does 1 2 0 5 ++ does 1 0 6 5 ++ acts 0 1)

-- is_empty of an empty ring, is_full of a full one, a second close, is_closed of a closed one
abbrev pub empty_denied : Trial
empty_denied = trial empty_says_no 1 (does 0 4 0 2)

abbrev pub full_denied : Trial
full_denied = trial full_says_no 1 (does 0 0 5 5 ++ does 0 5 0 2)

abbrev pub closed_twice : Trial
closed_twice = trial close_says_yes 1 (does 0 6 0 1 ++ does 0 6 0 1)

abbrev pub closed_denied : Trial
closed_denied = trial closed_says_no 1 (does 0 6 0 1 ++ does 0 7 0 1)

abbrev pub Unplain : Trial → Type 0
Unplain t = AnswersPlain (slipped t.slip) → ⊥

pub record RefutedPlain : Type 0 where
  -- `ItemKept`
  pub another_item_lem : Unplain push_changes
  pub another_forced_lem : Unplain force_changes
  -- `Meant`
  pub lost_says_pushed_lem : Unplain push_drops
  -- `Changes`
  pub force_uncompared_lem : Unplain force_of_nothing
  -- `Answered`
  pub lost_drops_the_mark_lem : Unplain push_unmarks
  pub closed_unseen_lem : Unplain push_closes
  pub push_untested : Unplain push_overwrites
  pub full_unseen_lem : Unplain push_beside_pop
  pub unwritten_item : Unplain push_of_nothing
  pub written_late : Unplain pop_too_early
  pub stamp_before_value_lem : Unplain pop_of_displaced
  pub force_forgets_lem : Unplain close_forgotten
  pub force_keeps_lem : Unplain close_kept
  pub empty_unseen_lem : Unplain pop_beside_push
  pub empty_of_closed_lem : Unplain pop_of_closed
  pub closed_too_soon_lem : Unplain pop_of_shut
  pub hands_out_again_lem : Unplain pop_again
  pub len_looks_once_lem : Unplain len_beside
  pub empty_tail_first_lem : Unplain never_empty
  pub full_head_first_lem : Unplain never_full
  pub empty_says_no_lem : Unplain empty_denied
  pub full_says_no_lem : Unplain full_denied
  pub close_says_yes_lem : Unplain closed_twice
  pub closed_says_no_lem : Unplain closed_denied

-- ---- one step a call

-- a pop of a ring to which nothing was pushed
abbrev pub pop_of_none : Trial
pop_of_none = trial hands_out_again 1 (does 0 2 0 3)

-- worker 1 closes, worker 0 begins a push, worker 1 calls len and closes again, which answers yes too
abbrev pub len_between_closes : Trial
len_between_closes = trial_in 2 len_forgets 1 (does 1 6 0 1 ++ does 0 0 5 0 ++ does 1 3 0 3 ++ does 1 6 0 1)

pub record RefutedOneStep : Type 0 where
  -- two closes both answer yes: a force_push of edition 2 has cleared the mark between them
  pub force_forgets_lem : OneStep (slipped force_forgets) → ⊥
  -- one pop, and it hands out something
  pub hands_out_again_lem : OneStep (slipped pop_of_none.slip) → ⊥
  -- the first again; and a len, which is left out of the story, has cleared the mark: of that `OneStep` says nothing
  pub force_forgets_always : OneStepUnderEverySchedule (slipped force_forgets) → ⊥
  pub len_forgets_lem : OneStepUnderEverySchedule (slipped len_between_closes.slip) → ⊥
  -- named by what is kept of no story
  pub moments_unkept : NamesMomentsBy (λ capacity earlier act. moment_named capacity [] act) 1 1 (story_of document01 1 2 1 (does 0 0 5 1)) → ⊥
  -- of seventeen workers, by what is kept of sixteen: the last one's second act
  pub sixteen_kept : NamesMomentsOf 17 moment_named 1 1 (story_of (with_records 17 SixtyFour) 1 17 1 (does 16 0 5 2)) → ⊥
