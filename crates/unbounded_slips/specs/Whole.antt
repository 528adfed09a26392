-- The slips of Refuted.antt at full size, a pool of 64 blocks of 31 slots, of which the statements are proved. A third worker begins is_full before all else and
-- stands there, so that never all are idle and `Drop`'s walk, which is long, is not asked; where a statement is of all idle, it acts last.
use Rattle.std.specs.Prelude.{ℕ, zero, suc, false, List, [], ◌∷◌, ◌++◌, ◌≡◌}
use Rattle.unbounded_words.specs.Words.{Sizes, sizes}
use Rattle.unbounded_acts.specs.Acts.{act_of}
use Rattle.unbounded_machine.specs.declared.Machine.{Machine}
use Rattle.unbounded_machine.specs.declared.Event.{Event}
use Rattle.unbounded_machine.specs.Broken.{broken_of}
use Rattle.unbounded_machine.specs.Turn.{turn_with}
use Rattle.unbounded_machine.specs.Run.{ran, run_with}
use Rattle.unbounded_machine.specs.History.{history_with}
use Rattle.unbounded_demands.specs.Notions.{Definition, definition, machine_after, acts_of, acts, waiting, Fifo}
use Rattle.unbounded_demands.specs.Demands.{ClaimRule, OnceOut, OneHand, ReadsWritten, NoneFree, AnswersTrue, FreedOnce, TakenChained, ContentsWait, ActByAct, WholeSchedules, NoBlock}
use Rattle.unbounded_slips.specs.Slips.{no_head_block, untied, unwritten, aside_kept, empty_unseen, closed_unseen, reads_early, skips_reader, keeps_block, act_with}
use Rattle.unbounded_slips.specs.Refuted.{Trial, trial, does, two_pushes, push_loses, pop_looks, two_pops, pop_of_nothing, pop_waits, pop_reads}

abbrev pub whole : ℕ → Definition
whole n = definition sizes (act_with n)

abbrev pub whole_machine : Trial → Machine
whole_machine t = machine_after (whole t.slip) 3 (37 ∷ 0 ∷ t.schedule)

abbrev pub whole_past : Trial → List Event
whole_past t = acts_of (whole t.slip) 3 (37 ∷ 0 ∷ t.schedule)

-- so many pushes of five acts, and so many pops of six acts, with head marked
unfoldable pub pushes : ℕ → ℕ → List ℕ
pushes w zero = []
pushes w (suc n) = does w 0 5 5 ++ pushes w n

unfoldable pub pops : ℕ → ℕ → List ℕ
pops w zero = []
pops w (suc n) = does w 2 0 6 ++ pops w n

-- all slots of a block but its last, and all
abbrev pub all_but_last : List ℕ
all_but_last = does 0 0 5 8 ++ pushes 0 29

abbrev pub all_pushed : List ℕ
all_pushed = all_but_last ++ does 0 0 6 9

-- as in Refuted.antt
abbrev pub first_push : Trial
first_push = trial no_head_block (does 0 0 5 7 ++ acts 2 1)

abbrev pub block_full : Trial
block_full = trial untied (all_pushed ++ acts 2 1)

abbrev pub one_push : Trial
one_push = trial unwritten (does 0 0 5 8 ++ acts 2 1)

abbrev pub closed_aside : Trial
closed_aside = trial aside_kept (all_but_last ++ does 0 0 6 3 ++ does 1 6 0 1 ++ acts 0 3)

abbrev pub reader_waits : Trial
reader_waits = trial skips_reader (all_pushed ++ does 0 2 0 4 ++ pops 1 29 ++ does 1 2 0 40)

abbrev pub block_done : Trial
block_done = trial keeps_block (all_pushed ++ does 0 2 0 7 ++ pops 0 29 ++ does 0 2 0 40)

-- a run that does nothing, and a machine that never takes the last block of the pool
abbrev pub deaf_whole : Definition
deaf_whole = record { sizes = sizes; turn = turn_with sizes act_of; run = λ m place s. ran 0 place m; history = history_with (turn_with sizes act_of) }

abbrev pub one_fewer : Sizes
one_fewer = record { lap = 32; slots = 31; blocks = 63 }

abbrev pub stingy_whole : Definition
stingy_whole =
    record {
      sizes = sizes;
      turn = turn_with one_fewer act_of;
      run = run_with (turn_with one_fewer act_of);
      history = history_with (turn_with one_fewer act_of);
    }

pub record RefutedWhole : Type 0 where
  pub act_by_act : ActByAct deaf_whole → ⊥
  pub whole_schedules : WholeSchedules deaf_whole → ⊥
  pub no_block : NoBlock stingy_whole → ⊥
  pub unbroken : broken_of sizes (whole_machine first_push) ≡ false → ⊥
  pub claim_rule : ClaimRule (whole_past pop_reads) → ⊥
  pub once_out : OnceOut (whole_past two_pops) → ⊥
  pub one_hand : OneHand (whole_machine two_pushes) → ⊥
  pub reads : ReadsWritten (whole reads_early) (whole_machine pop_waits) (whole_past pop_waits) → ⊥
  pub none_free : NoneFree (whole skips_reader) (whole_machine reader_waits) → ⊥
  pub answers_empty : AnswersTrue (whole empty_unseen) (whole_machine pop_looks) → ⊥
  pub answers_closed : AnswersTrue (whole closed_unseen) (whole_machine push_loses) → ⊥
  pub freed_once : FreedOnce (whole keeps_block) (whole_machine block_done) (whole_past block_done) → ⊥
  pub freed_once_aside : FreedOnce (whole aside_kept) (whole_machine closed_aside) (whole_past closed_aside) → ⊥
  pub chained : TakenChained (whole untied) (whole_machine block_full) → ⊥
  pub contents : ContentsWait (whole unwritten) (whole_machine one_push) (whole_past one_push) → ⊥
  pub fifo : Fifo (whole_past pop_of_nothing) (waiting (whole_past pop_of_nothing)) → ⊥
