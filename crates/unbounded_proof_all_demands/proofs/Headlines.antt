-- The statements on the unbounded queue, proved. What they say, in the words of request 12, is crates/unbounded_demands/specs/Demands.antt; the table of runs is
-- Runs.antt beside it.
use Rattle.unbounded_words.specs.Words.{sizes}
use Rattle.unbounded_acts.specs.Acts.{act_of}
use Rattle.unbounded_machine.specs.Turn.{lowest_free}
use Rattle.unbounded_demands.specs.Notions.{Definition, definition}
use Rattle.unbounded_demands.specs.Demands.{RefusedUnchanged, Numbered, refusals, ListFirst, OnlyOne, UnderEverySchedule, ActByAct, WholeSchedules, NoBlock}
use Rattle.unbounded_demands.specs.Demands.{LowestFirst, TwentyThree, PoolUnderEverySchedule, ProgressUnderEverySchedule, PushEnds, PopsEndAlone}
use Rattle.unbounded_demands.specs.Demands.{PushesEndAlone, LooksEndAlone, AttainedBy, EachNumber, RefusedExactly, EnumsBothWays, AnswersPlain, ClosesAndClaims}
use Rattle.unbounded_demands.specs.Runs.{Runs}
use Rattle.unbounded_demands.proofs.Refusals.{refused_unchanged, list_first, only_one}
use Rattle.unbounded_demands.proofs.Numbers.{numbered}
use Rattle.unbounded_demands.proofs.Answers.{enums_both_ways}
use Rattle.unbounded_demands.proofs.Blocks.{blocks_run_out}
use Rattle.unbounded_demands.proofs.Pool.{lowest_first, twenty_three}
use Rattle.unbounded_demands.proofs.Runs.{runs}
use Rattle.unbounded_proof_demand2.proofs.Demand2.{demand2, act_by_act, whole_schedules}
use Rattle.unbounded_proof_plain.proofs.Closing.{closes_and_claims}
use Rattle.unbounded_proof_plain.proofs.Plain.{answers_plain}
use Rattle.unbounded_proof_pool.proofs.Pool.{pool_kept}
use Rattle.unbounded_proof_progress.proofs.Progress.{progress}
use Rattle.unbounded_proof_progress.proofs.PushEnds.{push_ends}
use Rattle.unbounded_proof_progress.proofs.PopAlone.{pops_end_alone}
use Rattle.unbounded_proof_progress.proofs.PushAlone.{pushes_end_alone}
use Rattle.unbounded_proof_progress.proofs.LookAlone.{looks_end_alone}
use Rattle.unbounded_proof_attained.proofs.Attained.{attained_by}
use Rattle.unbounded_proof_attained.proofs.EachNumber.{each_number}
use Rattle.unbounded_demands.proofs.Exactly.{refused_exactly}

-- The source's table, over a pool of 64 blocks of 31 slots.
abbrev pub source : Definition
source = definition sizes act_of

-- What an answer means: every answer is that of a plain queue without capacity, but for one of is_empty; nothing handed in is lost or changed; close holds.
pub plain_queue : AnswersPlain source × ClosesAndClaims source
plain_queue = (answers_plain, closes_and_claims)

-- 1. Any machine, entry or schedule handed in gets an answer or a numbered refusal (the functions of crate unbounded have no `requires`); a refused step changes
-- nothing; only one answer meets a promise.
pub demand_1 : RefusedUnchanged × Numbered refusals × ListFirst × OnlyOne
demand_1 = (refused_unchanged, numbered, list_first, only_one)

-- Each number of it is given; and answers that are enums have document 01's numbers and values, there and back.
pub demand_1_exact : EachNumber refusals × EnumsBothWays
demand_1_exact = (each_number, enums_both_ways)

-- And it is given exactly when its ground holds and none before it.
pub refused_when : RefusedExactly refusals
refused_when = refused_exactly

-- 2. Under every schedule from a fresh machine: each act is the one action of the source; the claim rule; no slot in two hands, no act on a free block; what Empty
-- and Closed mean; a block freed once for each taking; contents in order; no machine is broken.
pub demand_2 : UnderEverySchedule source × ActByAct source × WholeSchedules source
demand_2 = (demand2, act_by_act, whole_schedules)

-- The pool: refusal 23 exactly when a block is wanted and none is free, the lowest number first; under every schedule nobody sets a second block aside, and no slot
-- of the pool is in two hands.
pub pool : NoBlock source × LowestFirst lowest_free × TwentyThree source × PoolUnderEverySchedule source
pool = (blocks_run_out, lowest_first, twenty_three, pool_kept)

-- Progress: an act of a call under way is refused by 7 or 23 alone; whoever waits has a holder; a push with a slot in hand ends within five acts of its own;
-- alone, with no holder, a pop ends within 43 acts, and with a free block a push within 10; both numbers are attained, at each place of the call. Any other call ends alone within five.
pub goes_on : ProgressUnderEverySchedule source × PushEnds source × PopsEndAlone source × PushesEndAlone source × LooksEndAlone source × AttainedBy act_of
goes_on = (progress, push_ends, pops_end_alone, pushes_end_alone, looks_end_alone, attained_by)

-- The table of runs.
pub on_paper : Runs
on_paper = runs
