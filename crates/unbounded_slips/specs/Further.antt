-- Slips of the statements on numbers, on the pool and on progress, and that each statement is false of its own; at full size (Whole.antt).
use Rattle.std.specs.Prelude.{ℕ, ◌+◌, ◌-◌, List, ◌++◌, ◌≡◌, Result, Err}
use Rattle.queue_numbers.specs.Numbers.{Numbers, Functions}
use Rattle.queue_numbers.specs.Slips.{Parts, functions_with, refused_moves, unsearched, refused_empties}
use Rattle.queue_numbers.specs.Slips as slips
use Rattle.unbounded_words.specs.Words.{Sizes, sizes}
use Rattle.unbounded_places.specs.declared.Block.{Block}
use Rattle.unbounded_acts.specs.Acts.{act_of}
use Rattle.unbounded_machine.specs.declared.Machine.{Machine}
use Rattle.unbounded_machine.specs.declared.Did.{Did}
use Rattle.unbounded_machine.specs.declared.Ran.{Ran}
use Rattle.unbounded_machine.specs.Machine.{refused}
use Rattle.unbounded_machine.specs.Contents.{contents_refusal}
use Rattle.unbounded_machine.specs.Run.{run_with, run_from}
use Rattle.unbounded_machine.specs.History.{history_with}
use Rattle.unbounded_machine.specs.Turn.{turn_with}
use Rattle.unbounded_demands.specs.Notions.{Definition, acts}
use Rattle.unbounded_demands.specs.Demands.{functions, refusals, RefusedUnchangedBy, ListFirstBy, Numbered, LowestFirst, TwentyThree, OneAside, OneHandInPool, RefusedByMeterOrPool, Holders, PushEnds, PopAlone, PushAlone, LookAlone, AttainedBy, EachNumber, RefusedExactly, bound_of}
use Rattle.queue_numbers.specs.Answers.{BothWays}
use Rattle.unbounded_slips.specs.Slips.{none, aside_first, takes_again, unset, writes_on, frees_on, gives_on, looks_again, act_with}
use Rattle.unbounded_slips.specs.Refuted.{Trial, trial, does}
use Rattle.unbounded_slips.specs.Whole.{whole, whole_machine, pushes, pops, all_but_last, all_pushed, stingy_whole}

-- The functions of the face with a slip, which with none are the face's.
abbrev pub parts : Parts Machine Did Ran
parts =
    record {
      refusal = λ d. d.refusal;
      refused = refused;
      metered = λ m. record { ends = m.ends; blocks = m.blocks; slots = m.slots; workers = m.workers; count = m.count; meter = m.meter + 1 };
      entries = λ m s. run_from sizes m 0 s;
      unfit = contents_refusal sizes;
    }

abbrev pub face_with : ℕ → Functions Machine Did Ran
face_with = functions_with parts functions

abbrev pub FaithfulFace : Type 0
FaithfulFace = face_with slips.none ≡ functions

-- Numbers of refusals as the face gives them, but that a making is refused by 1, which document 01 gives to a capacity.
abbrev pub gives_one : Numbers Machine
gives_one =
    record { make = λ workers. 1; step = refusals.step; begin = refusals.begin; act = refusals.act; run = refusals.run; contents = refusals.contents }

-- A search that answers the pool's last number, whatever is free.
abbrev pub last_one : Sizes → List Block → ℕ
last_one z l = z.blocks - 1

-- A definition that refuses every entry by 8.
abbrev pub refusing : Definition
refusing =
    record {
      sizes = sizes;
      turn = λ m first second. refused 8 m;
      run = run_with (turn_with sizes act_of);
      history = history_with (turn_with sizes act_of);
    }

-- two pushes took a first block each, worker 0 has installed its own, and worker 1 loses, takes another, and loses again
abbrev pub loses_twice : Trial
loses_twice = trial takes_again (does 0 0 5 3 ++ does 1 0 6 3 ++ acts 0 1 ++ acts 1 3)

-- worker 0 has the first slot to write; worker 1 pushes up to the block's last slot, with block 0 set aside for the next, and then again
abbrev pub block_again : Trial
block_again = trial aside_first (does 0 0 5 6 ++ pushes 1 29 ++ does 1 0 6 9 ++ does 1 0 7 3)

-- a push begun
abbrev pub push_begun : Trial
push_begun = trial none (does 0 0 5 0)

-- a push is done, and a pop waits for its WRITE
abbrev pub pop_waits_on : Trial
pop_waits_on = trial unset (does 0 0 5 8 ++ does 1 2 0 4)

-- a push has its slot in hand
abbrev pub push_writes : Trial
push_writes = trial writes_on (does 0 0 5 6)

-- a block was pushed full and popped, and worker 0 has to free it
abbrev pub pop_frees : Trial
pop_frees = trial frees_on (all_pushed ++ does 0 2 0 7 ++ pops 0 29 ++ does 0 2 0 39)

-- worker 1 closes while a push has a block set aside, and the push has to give it back
abbrev pub push_gives : Trial
push_gives = trial gives_on (all_but_last ++ does 0 0 6 3 ++ does 1 6 0 1 ++ acts 0 2)

-- an is_empty has loaded head
abbrev pub empty_looks : Trial
empty_looks = trial looks_again (does 0 4 0 1)

pub record FurtherRefuted : Type 0 where
  pub unchanged : RefusedUnchangedBy (face_with refused_moves) → ⊥
  pub unchanged_buffer : RefusedUnchangedBy (face_with refused_empties) → ⊥
  pub list_first : ListFirstBy (face_with unsearched) → ⊥
  pub numbered : Numbered gives_one → ⊥
  pub lowest_first : LowestFirst last_one → ⊥
  pub twenty_three : TwentyThree stingy_whole → ⊥
  pub one_aside : OneAside (whole_machine loses_twice) → ⊥
  pub one_hand : OneHandInPool (whole aside_first) (whole_machine block_again) → ⊥
  pub refused_by : RefusedByMeterOrPool refusing (whole_machine push_begun) → ⊥
  pub holders : Holders (whole unset) (whole_machine pop_waits_on) → ⊥
  pub push_ends : PushEnds (whole writes_on) → ⊥
  pub pop_alone : PopAlone (whole frees_on) (whole_machine pop_frees) → ⊥
  pub push_alone : PushAlone (whole gives_on) (whole_machine push_gives) → ⊥
  pub look_alone : LookAlone (whole looks_again) (whole_machine empty_looks) → ⊥
  pub attained : AttainedBy (act_with gives_on) → ⊥
  pub each_number : EachNumber gives_one → ⊥
  pub refused_exactly : RefusedExactly gives_one → ⊥
  -- a refusal of `capacity` has number 0
  pub both_ways : BothWays Err (λ (b : Result (Unit {0}) ℕ). 0) (λ (b : Result (Unit {0}) ℕ). tt) bound_of → ⊥
