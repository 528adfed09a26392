-- What an answer means (first section of crates/unbounded_demands/specs/Demands.antt): of which table it is false, in the story of which schedule.
use Rattle.std.specs.Prelude.{ℕ, List, ◌++◌}
use Rattle.unbounded_machine.specs.declared.Machine.{Machine}
use Rattle.unbounded_machine.specs.declared.Event.{Event}
use Rattle.unbounded_demands.specs.Notions.{acts}
use Rattle.unbounded_demands.specs.Stories.{Story, story_of}
use Rattle.unbounded_demands.specs.Demands.{PlainThroughout, SaidAtBlocksEnd, CloseHolds, OwnClaim}
use Rattle.unbounded_slips.specs.Slips.{unwritten, hands_out_again, takes_unseen, reads_early, push_drops, pushes_another, claims_closed, closed_after_claim, pops_another, empty_after_taking, len_none, empty_yes, empty_no, full_yes, closed_yes, close_idle, slipped}
use Rattle.unbounded_slips.specs.Refuted.{Trial, trial, reached, past, does}

abbrev pub told : Trial → Story
told t = story_of (slipped t.slip) 2 t.schedule

abbrev pub PlainIn : Trial → Type 0
PlainIn t = PlainThroughout (slipped t.slip) (reached t) (past t) (told t)

-- the first push is eight acts: U1, U2, U4 to U7, U12, U13; a pop of its item seven: V1 to V4, V10 to V12
abbrev pub pushed : List ℕ
pushed = does 0 0 5 8

-- one act of a push; up to its claim, its write
abbrev pub push_acts : ℕ → ℕ → Trial
push_acts slip n = trial slip (does 0 0 5 n)

-- a push is at its exchange; worker 1 closes; the push claims
abbrev pub closed_between : Trial
closed_between = trial claims_closed (does 0 0 5 5 ++ does 1 6 0 1 ++ acts 0 1)

-- a push, and a pop of its item
abbrev pub push_pop : ℕ → Trial
push_pop slip = trial slip (pushed ++ does 1 2 0 7)

-- a push and its pop, and a pop more up to its claim
abbrev pub pop_more : Trial
pop_more = trial takes_unseen (pushed ++ does 1 2 0 7 ++ does 1 2 0 4)

-- an item waits, and another worker asks
abbrev pub len_of_one : Trial
len_of_one = trial len_none (pushed ++ does 1 3 0 3)

abbrev pub empty_of_one : Trial
empty_of_one = trial empty_yes (pushed ++ does 1 4 0 2)

-- nothing ever was pushed
abbrev pub empty_of_none : Trial
empty_of_none = trial empty_no (does 1 4 0 2)

abbrev pub full_of_none : Trial
full_of_none = trial full_yes (does 1 5 0 1)

abbrev pub closed_of_open : Trial
closed_of_open = trial closed_yes (does 1 7 0 1)

abbrev pub close_twice : Trial
close_twice = trial close_idle (does 0 6 0 1 ++ does 0 6 0 1)

-- a close
abbrev pub close_once : Trial
close_once = trial close_idle (does 0 6 0 1)

-- a push is at its exchange; worker 1 closes, and pops; the push claims
abbrev pub pop_closed_between : Trial
pop_closed_between = trial claims_closed (does 0 0 5 5 ++ does 1 6 0 1 ++ does 1 2 0 3 ++ acts 0 1)

-- a pop of a queue that never had an item
abbrev pub pop_of_none : Trial
pop_of_none = trial hands_out_again (does 0 2 0 3)

-- a pop of a slot that is claimed, for an item 0, and not written: it reads the 0 that was there
abbrev pub pop_too_early : Trial
pop_too_early = trial reads_early (does 0 0 0 6 ++ does 1 2 0 7)

-- Of what is said of a trial (that it is a plain queue's throughout), the machine that it reaches and its acts, at some size of block; the last trial is a push that writes nothing, with all idle.
pub record RefutedIn (PlainAt : Trial → Type 0) (machine : Trial → Machine) (done : Trial → List Event) (unwritten_push : Trial) : Type 0 where
  -- Pushed, and the item not put in; Closed, and the item in: `Meant`
  pub push_drops_lem : PlainAt (push_acts push_drops 1) → ⊥
  pub closed_after_claim_lem : PlainAt (push_acts closed_after_claim 7) → ⊥
  -- another item put in: `ItemKept`; another handed out, or none for the one taken out: `Meant`
  pub pushes_another_lem : PlainAt (push_acts pushes_another 6) → ⊥
  pub pops_another_lem : PlainAt (push_pop pops_another) → ⊥
  pub empty_after_taking_lem : PlainAt (push_pop empty_after_taking) → ⊥
  -- an item put in after a close, one taken out where none waits: `Changes`
  pub claims_closed_lem : PlainAt closed_between → ⊥
  pub takes_unseen_lem : PlainAt pop_more → ⊥
  -- an item that waits and is not in the contents: `NothingLost`
  pub unwritten : PlainAt unwritten_push → ⊥
  -- untrue answers of the lookers and of close: `Answered`; no of is_empty, where no pop stands at a block's end: `AtBlocksEnd` too
  pub len_none_lem : PlainAt len_of_one → ⊥
  pub empty_yes_lem : PlainAt empty_of_one → ⊥
  pub empty_no_lem : PlainAt empty_of_none → ⊥
  pub full_yes_lem : PlainAt full_of_none → ⊥
  pub closed_yes_lem : PlainAt closed_of_open → ⊥
  pub close_idle_lem : PlainAt close_twice → ⊥
  -- a close that leaves no mark, two that say yes, a claim after a pop's Closed
  pub mark : CloseHolds (machine close_once) (done close_once) → ⊥
  pub yes_once : CloseHolds (machine close_twice) (done close_twice) → ⊥
  pub none_after : CloseHolds (machine pop_closed_between) (done pop_closed_between) → ⊥
  -- a value handed out without a claim
  pub own_claim : OwnClaim (done pop_of_none) → ⊥
  -- the right value, and not written for the claim
  pub unwritten_out : OwnClaim (done pop_too_early) → ⊥

-- On blocks of two slots.
pub record RefutedPlain : Type 0 where
  pub tables : RefutedIn PlainIn reached past (push_acts unwritten 8)
  -- is_empty says yes at a block's end too
  pub said_at_blocks_end : SaidAtBlocksEnd (slipped empty_yes) 0 → ⊥
