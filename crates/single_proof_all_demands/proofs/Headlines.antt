-- The demands on the one-slot queue, proved. What they say, in the words of request 1 and of document 01, is
-- crates/single_demands/specs/Demands.antt; the table of runs is Runs.antt beside it.
use Rattle.single_demands.specs.Notions.{source, most_of}
use Rattle.single_demands.specs.Demands.{AnswersPlain, RoomNeeded, RefusedUnchanged, Numbered, EachNumber, RefusedExactly, EnumsBothWays, ListFirst}
use Rattle.single_demands.specs.Demands.{StaysUnbroken, OnlyOne, refusals, UnderEverySchedule, ActByAct, WholeSchedules, ScheduledAlone, AtMost, Attained}
use Rattle.single_demands.specs.Runs.{RunsHold}
use Rattle.queue_numbers.proofs.Answers.{told_both_ways}
use Rattle.single_demands.proofs.Refusals.{refused_unchanged, list_first, stays_unbroken, only_one}
use Rattle.single_demands.proofs.Numbers.{numbered}
use Rattle.single_demands.proofs.EachNumber.{each_number}
use Rattle.single_demands.proofs.Exactly.{refused_exactly}
use Rattle.single_demands.proofs.Attained.{at_most, numbers_attained}
use Rattle.single_demands.proofs.Runs.{runs_hold}
use Rattle.single_proof_demand2.proofs.Demand2.{demand2, act_by_act, whole_schedules}
use Rattle.single_proof_demand3.proofs.Demand3.{demand3}
use Rattle.single_proof_plain.proofs.Plain.{answers_plain, room_needed}

-- What an answer means: every run is one of a plain queue of capacity 1. Each answer is that queue's at a moment inside its call; but a push's is that of the queue whose capacity is less by the
-- room that a pop under way still takes, and it needs to be.
pub what_an_answer_means : AnswersPlain source × RoomNeeded source
what_an_answer_means = (answers_plain, room_needed)

-- 1. Any machine, entry or schedule handed in gets an answer or a numbered refusal (the functions of crate single have no
-- `requires`); a refused step changes nothing; only one answer meets a promise.
pub demand_1 : RefusedUnchanged × Numbered refusals × ListFirst × StaysUnbroken × OnlyOne
demand_1 = (refused_unchanged, numbered, list_first, stays_unbroken, only_one)

-- Each number of it is given; and answers that are enums are known by their numbers and values, there and back.
pub demand_1_exact : EachNumber refusals × EnumsBothWays
demand_1_exact = (each_number, told_both_ways)

-- And it is given exactly when its ground holds and none before it.
pub refused_when : RefusedExactly refusals
refused_when = refused_exactly

-- 2. Under every schedule from a fresh machine: each act is the one action of the source; an item goes out at most once, the one of the
-- latest write; the slot is in at most one hand, and LOCKED while it is; what Empty, Full and Closed mean, exactly.
pub demand_2 : UnderEverySchedule source × ActByAct source × WholeSchedules source
demand_2 = (demand2, act_by_act, whole_schedules)

-- 3. Alone, a call ends within four acts with the answer foretold; a worker with the slot in hand lets go within two acts of its own; the
-- numbers are attained.
pub demand_3 : ScheduledAlone source × AtMost most_of × Attained
demand_3 = (demand3, at_most, numbers_attained)

-- The table of runs, with what the source does and a plain queue does not.
pub on_paper : RunsHold
on_paper = runs_hold
