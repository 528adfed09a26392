-- Which statement refuses which slip: of the machine that a schedule makes of a fresh one, with the slip in its table, the statement is false.
-- (Statements: crates/unbounded_demands/specs/Demands.antt.)
use Rattle.std.specs.Prelude.{ℕ, ◌+◌, ◌*◌, false, List, [], ◌∷◌, ◌++◌, ◌≡◌}
use Rattle.unbounded_machine.specs.declared.Machine.{Machine}
use Rattle.unbounded_machine.specs.declared.Event.{Event}
use Rattle.unbounded_machine.specs.Broken.{broken_of}
use Rattle.unbounded_demands.specs.Notions.{machine_after, acts_of, acts, waiting, Fifo}
use Rattle.unbounded_demands.specs.Demands.{ClaimRule, OnceOut, OneHand, ReadsWritten, NoneFree, AnswersTrue, FreedOnce, TakenChained, ContentsWait, ActByAct, WholeSchedules, NoBlock}
use Rattle.unbounded_demands.specs.Runs.{short}
use Rattle.unbounded_slips.specs.Slips.{no_head_block, tail_unmoved, closed_unseen, untied, unwritten, aside_kept, empty_unseen, hands_out_again, takes_unseen, reads_early, skips_reader, keeps_block, slipped, deaf, stingy}

-- A schedule for a machine with two workers, two blocks of two slots and this slip.
pub record Trial : Type 0 where
  pub slip : ℕ
  pub schedule : List ℕ

abbrev pub trial : ℕ → List ℕ → Trial
trial n s = record { slip = n; schedule = s }

abbrev pub reached : Trial → Machine
reached t = machine_after (slipped t.slip) 2 t.schedule

abbrev pub past : Trial → List Event
past t = acts_of (slipped t.slip) 2 t.schedule

-- Worker w begins the call of this code and item, and does so many acts of it.
abbrev pub does : ℕ → ℕ → ℕ → ℕ → List ℕ
does w code item n = (16 * w + code) ∷ item ∷ acts w n

-- the first push is eight acts, and one at a block's last slot nine; a pop is seven, and one of a block's last slot with head marked eleven
abbrev pub two_pushed : List ℕ
two_pushed = does 0 0 5 8 ++ does 0 0 6 9

-- the first push, without its store in head's block
abbrev pub first_push : Trial
first_push = trial no_head_block (does 0 0 5 7)

-- two pushes win the same position
abbrev pub two_pushes : Trial
two_pushes = trial tail_unmoved (does 0 0 5 6 ++ does 1 0 6 3)

-- a push that lost its exchange by the schedule
abbrev pub push_loses : Trial
push_loses = trial closed_unseen (does 0 0 5 5 ++ 9 ∷ 0 ∷ [])

-- a block was pushed full
abbrev pub block_full : Trial
block_full = trial untied two_pushed

-- one push
abbrev pub one_push : Trial
one_push = trial unwritten (does 0 0 5 8)

-- a push has a block set aside when worker 1 closes
abbrev pub closed_aside : Trial
closed_aside = trial aside_kept (does 0 0 5 8 ++ does 0 0 6 3 ++ does 1 6 0 1 ++ acts 0 3)

-- pop loads head, and then looks at tail
abbrev pub pop_looks : Trial
pop_looks = trial empty_unseen (does 0 0 5 8 ++ does 1 2 0 2)

-- a pop of the one item, and a pop more
abbrev pub two_pops : Trial
two_pops = trial hands_out_again (does 0 0 5 8 ++ does 0 2 0 7 ++ does 0 2 0 3)

abbrev pub pop_of_nothing : Trial
pop_of_nothing = trial takes_unseen (does 0 0 5 8 ++ does 0 2 0 7 ++ does 0 2 0 4)

-- a pop of a slot that is claimed and not written
abbrev pub pop_waits : Trial
pop_waits = trial reads_early (does 0 0 5 6 ++ does 1 2 0 5)

abbrev pub pop_reads : Trial
pop_reads = trial reads_early (does 0 0 5 6 ++ does 1 2 0 7)

-- worker 0 has slot 0 to read when worker 1 pops the last slot and destroys the block
abbrev pub reader_waits : Trial
reader_waits = trial skips_reader (two_pushed ++ does 0 2 0 4 ++ does 1 2 0 11)

-- a block was pushed full and popped empty
abbrev pub block_done : Trial
block_done = trial keeps_block (two_pushed ++ does 0 2 0 7 ++ does 0 2 0 11)

pub record Refuted : Type 0 where
  pub act_by_act : ActByAct deaf → ⊥
  pub whole_schedules : WholeSchedules deaf → ⊥
  pub no_block : NoBlock stingy → ⊥
  pub unbroken : broken_of short (reached first_push) ≡ false → ⊥
  pub claim_rule : ClaimRule (past pop_reads) → ⊥
  pub once_out : OnceOut (past two_pops) → ⊥
  pub one_hand : OneHand (reached two_pushes) → ⊥
  pub reads : ReadsWritten (slipped reads_early) (reached pop_waits) (past pop_waits) → ⊥
  pub none_free : NoneFree (slipped skips_reader) (reached reader_waits) → ⊥
  pub answers_empty : AnswersTrue (slipped empty_unseen) (reached pop_looks) → ⊥
  pub answers_closed : AnswersTrue (slipped closed_unseen) (reached push_loses) → ⊥
  pub freed_once : FreedOnce (slipped keeps_block) (reached block_done) (past block_done) → ⊥
  pub freed_once_aside : FreedOnce (slipped aside_kept) (reached closed_aside) (past closed_aside) → ⊥
  pub chained : TakenChained (slipped untied) (reached block_full) → ⊥
  pub contents : ContentsWait (slipped unwritten) (reached one_push) (past one_push) → ⊥
  pub fifo : Fifo (past pop_of_nothing) (waiting (past pop_of_nothing)) → ⊥
