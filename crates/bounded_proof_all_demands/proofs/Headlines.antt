-- The demands of document 01, proved. What they say, in document 01's words, is crates/bounded_demands/specs/Demands.antt; the
-- runs on paper are Eight.antt beside it.
use Rattle.queue_entries.specs.Limits.{workers_most}
use Rattle.bounded_words.specs.declared.Width.TheVariants.{Sixteen, SixtyFour}
use Rattle.bounded_words.specs.Limits.{narrow}
use Rattle.bounded_acts.specs.Acts.{act_of}
use Rattle.bounded_machine.specs.History.{loss_at}
use Rattle.bounded_stock.specs.Stock.{tallied_of}
use Rattle.bounded_sixteen_bits.specs.SixteenBits.{narrowed}
use Rattle.bounded_demands.specs.Notions.{sixty_four, sixteen, promises_of, pushing_in, at_the_end, with_records, of_width, document01, stock, window_length, widest_length, cut_to}
use Rattle.bounded_orders.specs.Orders.{records_most}
use Rattle.bounded_demands.specs.Demands.{Demand1, RefusedExactly, NineAsEight, OnlyOneCount, UnderEverySchedule, NothingWraps, ActByAct, WholeSchedules}
use Rattle.bounded_demands.specs.Demands.{LenTrue, ScheduledAlone, OwnRecordAlone, WaitsForItsSlot, WaitsForItsSlotInWindow, Attained, AttainedBeside}
use Rattle.bounded_demands.specs.Demands.{AsForetold, StockUnderEverySchedule, MostStock, StockAttained, TallyAsSaid, TalliedUnderEverySchedule, EndsTold}
use Rattle.bounded_demands.specs.Demands.{LossesUnderEverySchedule, CountsAside, CloseHolds, OnceClosedAnywhere, ClosedIsLast, CaseF, WithinTheWindow}
use Rattle.bounded_demands.specs.Demands.{WithinWindowOf, NoWider, NoWiderAnywhere, PromptKeeps, AloneKeeps, RoundsClaim, NotIdle, WindowLengths, SameNumbers}
use Rattle.bounded_demands.specs.Demands.{NumbersFit, AsHeld, OnlyTheActing, LentUnbroken, OnlyOneLent, LentThroughout, SixtyFourRecords, LentDemand1}
use Rattle.bounded_demands.specs.Demands.{LentEachNumber, LentRefusedExactly, LentMixed, Mixed, MixedInWindow, OnlyOneMeets, EachNumber, AttainedBy, AtMost}
use Rattle.bounded_demands.specs.Demands.{AsForetoldBy, EnumsBothWays}
use Rattle.bounded_demands.specs.Eight.{EightRuns}
use Rattle.bounded_demands.specs.Lending.{item11, promised}
use Rattle.bounded_demands.proofs.Refusals.{demand1, only_one_count}
use Rattle.bounded_demands.proofs.Narrow.{narrow_demand1}
use Rattle.bounded_demands.proofs.EachNumber.{only_one_meets, each_number, each_number_narrow, walk_each_number}
use Rattle.bounded_demands.proofs.Answers.{enums_both_ways}
use Rattle.bounded_demands.proofs.Window.{window_lengths}
use Rattle.bounded_demands.proofs.Fit.{numbers_fit}
use Rattle.bounded_demands.proofs.Own.{own_record}
use Rattle.bounded_demands.proofs.Exactly.{refused_exactly, narrow_refused_exactly, nine_as_eight}
use Rattle.bounded_demands.proofs.Attained.{numbers_attained, attained_by, attained_beside_lem, at_most}
use Rattle.bounded_demands.proofs.Foretold.{as_foretold, as_foretold_by}
use Rattle.bounded_demands.proofs.Shelves.{most_stock}
use Rattle.bounded_demands.proofs.CaseF.{case_f_lem}
use Rattle.bounded_demands.proofs.Eight.{eight_runs}
use Rattle.bounded_proof_demand2.proofs.Demand2.{demand2, nothing_wraps, act_by_act, whole_schedules}
use Rattle.bounded_proof_demand2.proofs.Lone.{alone_keeps}
use Rattle.bounded_proof_demand2.proofs.Short.{same_numbers}
use Rattle.bounded_proof_demand2.proofs.Tallied.{tally_as_said, tallied_always}
use Rattle.bounded_proof_demand2.proofs.Prompt.{prompt_keeps}
use Rattle.bounded_proof_window.proofs.Kept.{rounds_claim}
use Rattle.bounded_proof_window.proofs.Fullest.{stock_attained}
use Rattle.bounded_proof_window.proofs.Asleep.{not_idle}
use Rattle.bounded_proof_window.proofs.NoWider.{no_wider, no_wider_anywhere}
use Rattle.bounded_proof_demand2.proofs.Lens.{len_true}
use Rattle.bounded_proof_demand2.proofs.Stock.{stock_stands}
use Rattle.bounded_proof_demand2.proofs.Losses.{ends_told, losses}
use Rattle.bounded_proof_demand2.proofs.Aside.{counts_aside}
use Rattle.bounded_proof_demand2.proofs.Closing.{close_holds, once_closed_anywhere, closed_is_last}
use Rattle.bounded_proof_demand3.proofs.Demand3.{demand3, within_the_window}
use Rattle.bounded_proof_demand3.proofs.Waits.{waits_for_its_slot, waits_in_window}
use Rattle.bounded_proof_lent.proofs.Padded.{as_held, sixty_four_records}
use Rattle.bounded_proof_lent.proofs.Acting.{only_the_acting, only_one_lent}
use Rattle.bounded_proof_lent.proofs.Throughout.{lent_throughout, lent_unbroken_still}
use Rattle.bounded_proof_lent.proofs.Refusals.{lent_demand1}
use Rattle.bounded_proof_lent.proofs.EachNumber.{lent_each_number}
use Rattle.bounded_proof_lent.proofs.Exactly.{lent_refused_exactly}
use Rattle.bounded_proof_lent.proofs.Mixed.{lent_mixed, within_the_widest}
use Rattle.bounded_proof_all_demands.proofs.Mixed.{any_mixture, any_mixture_in_window}
use Rattle.bounded_demands.specs.Notions.{causes_in, watches, most_of}
use Rattle.bounded_demands.specs.Demands.{EveryRetryHasACause, EightWaysBack, EachNeeded, AloneBackOnce, KeptAsSaid, KeptOf, RetriesUnderEverySchedule, RetriesInWindow}
use Rattle.bounded_demands.proofs.Retries.{each_needed}
use Rattle.bounded_proof_causes.proofs.Causes.{every_retry, eight_ways}
use Rattle.bounded_proof_causes.proofs.Alone.{alone_back_once, retries_always, retries_in_window}
use Rattle.bounded_proof_causes.proofs.Said.{kept_as_said, kept_of_records}
use Rattle.bounded_sequences.specs.Sequences.{walk_of}
use Rattle.bounded_demands.specs.Demands.{WalksAll, WalkTold, WalkCounts, WalkEachNumber, WalksCounted}
use Rattle.bounded_demands.specs.Walkings.{item10}
use Rattle.bounded_demands.proofs.Walkings.{walks_counted}
use Rattle.bounded_proof_walks.proofs.Walks.{walks_all, walk_told, walk_counts}
use Rattle.bounded_demands.specs.Demands.{AnswersPlain, AnswersPlainInWindow, OneStep, OneStepInWindow, OneStepUnderEverySchedule, OneStepUnderEveryInWindow}
use Rattle.bounded_demands.specs.Demands.{ClosesNotOneStep, LooksNotOneStep, MomentsKept, MomentsKeptInWindow, MomentsKeptOf}
use Rattle.bounded_proof_plain.proofs.Plain.{answers_plain, plain_in_window}
use Rattle.bounded_proof_plain.proofs.Linearizable.{one_step_lem, one_step_in_window}
use Rattle.bounded_proof_plain.proofs.Unlooked.{others, others_in_window}
use Rattle.bounded_proof_plain.proofs.TwoCloses.{closes_not_one_step}
use Rattle.bounded_proof_plain.proofs.BetweenClaims.{looks_not_one_step}
use Rattle.bounded_proof_plain.proofs.Moments.{moments_kept, moments_in_window, moments_kept_of_lem}

-- What an answer means: every run is a run of a plain queue, each answer its at a moment inside the call, nothing lost and nothing another's; of 64 bits, and of sixteen within the window. One step a
-- call: linearizable in the classical sense, with push, force_push and pop, and in edition 2 with close and is_closed; in edition 1 two closes are not.
pub answers_mean : AnswersPlain document01 × AnswersPlainInWindow (of_width Sixteen) × OneStep document01 × OneStepInWindow (of_width Sixteen) × ClosesNotOneStep document01
answers_mean = (answers_plain workers_most, plain_in_window Sixteen workers_most, one_step_lem workers_most, one_step_in_window Sixteen workers_most, closes_not_one_step)

-- The same with as many records as are lent, up to 64.
pub lent_answers_mean : AnswersPlain (with_records records_most SixtyFour) × OneStep (with_records records_most SixtyFour)
lent_answers_mean = (answers_plain records_most, one_step_lem records_most)

-- One step a call under every schedule: len, is_empty and is_full are left out of the story; held, lent, and of sixteen bits within the window. With one of them in it there is no such run.
pub one_step_always :
    OneStepUnderEverySchedule document01 × OneStepUnderEverySchedule (with_records records_most SixtyFour) × OneStepUnderEveryInWindow (of_width Sixteen) × LooksNotOneStep document01
one_step_always = (others workers_most, others records_most, others_in_window Sixteen workers_most, looks_not_one_step)

-- The moment that the program names is the one that the story has; and by the same rule of as many workers as are lent.
pub moments_named : MomentsKept document01 × MomentsKeptInWindow (of_width Sixteen) × MomentsKeptOf records_most (with_records records_most SixtyFour)
moments_named = (moments_kept workers_most, moments_in_window Sixteen workers_most, moments_kept_of_lem records_most records_most)

-- 1. Any machine, entry or schedule handed in gets an answer or a numbered refusal (the functions of crates bounded and bounded_narrow have no
-- `requires`); a refused step changes nothing; only one answer meets a promise.
pub demand_1 : Demand1 sixty_four × Demand1 sixteen × OnlyOneCount
demand_1 = (demand1, narrow_demand1, only_one_count)

-- Each number is given exactly when its ground holds and none before it, in document 01's order; code 9 where the words differ anyway does what code 8 does.
pub refused_when : RefusedExactly sixty_four × RefusedExactly sixteen × NineAsEight document01 × NineAsEight (of_width Sixteen)
refused_when = (refused_exactly, narrow_refused_exactly, nine_as_eight workers_most SixtyFour, nine_as_eight workers_most Sixteen)

-- Each number of it is given; and only one answer meets the promises as they are made.
pub demand_1_exact :
    EachNumber sixty_four (at_the_end (pushing_in sixty_four)) × EachNumber sixteen (narrowed (at_the_end (pushing_in sixty_four)))
    × OnlyOneMeets (promises_of sixty_four) × OnlyOneMeets (promises_of sixteen)
demand_1_exact = (each_number, each_number_narrow, only_one_meets sixty_four, only_one_meets sixteen)

-- Answers that are enums have document 01's numbers and values, there and back.
pub enums : EnumsBothWays
enums = enums_both_ways

-- 2. Under every schedule from a fresh machine: each act is the one action of document 01; the claim rule; no slot in two hands;
-- Empty, Full and Closed true at the act that decided them; claims not taken and contents.
pub demand_2 : UnderEverySchedule document01 × NothingWraps document01 × ActByAct document01 × WholeSchedules document01 × LenTrue document01
demand_2 = (demand2 workers_most, nothing_wraps workers_most, act_by_act SixtyFour, whole_schedules SixtyFour, len_true workers_most)

-- 3. Alone, a call ends within seven acts with the right answer; a worker with a slot in hand lets go within three acts of its
-- own; the numbers are attained, and the answers are those foretold.
pub demand_3 : ScheduledAlone document01 × Attained × AsForetold
demand_3 = (demand3 workers_most, numbers_attained, as_foretold)

-- Seven acts at most, three in hand; and the numbers are attained, and the answers those foretold, in both editions and with words of sixteen bits too.
pub demand_3_exact :
    AtMost most_of × AttainedBy (act_of SixtyFour) 2 × AttainedBy (act_of Sixteen) 1 × AttainedBy (act_of Sixteen) 2
    × AsForetoldBy SixtyFour (act_of SixtyFour) 2 × AsForetoldBy Sixteen (act_of Sixteen) 1 × AsForetoldBy Sixteen (act_of Sixteen) 2
demand_3_exact = (at_most, attained_by.0, attained_by.1, attained_by.2, as_foretold_by.0, as_foretold_by.1, as_foretold_by.2)

-- Whom a call waits for: alone it ends, unless another worker has in hand the very slot that its own end points to; held, lent, and at sixteen bits within the window. The numbers are attained.
pub waiting :
    WaitsForItsSlot document01 × WaitsForItsSlot (with_records records_most SixtyFour) × WaitsForItsSlotInWindow (of_width Sixteen)
    × AttainedBeside (act_of SixtyFour) 1 × AttainedBeside (act_of SixtyFour) 2 × AttainedBeside (act_of Sixteen) 1 × AttainedBeside (act_of Sixteen) 2
waiting =
    (waits_for_its_slot workers_most, waits_for_its_slot records_most, waits_in_window Sixteen workers_most, attained_beside_lem.0, attained_beside_lem.1, attained_beside_lem.2, attained_beside_lem.3)

-- A step reads no other worker's record, refusal 6 aside.
pub reads_its_own : OwnRecordAlone document01 × OwnRecordAlone (with_records records_most SixtyFour) × OwnRecordAlone (of_width Sixteen)
reads_its_own = (own_record workers_most SixtyFour, own_record records_most SixtyFour, own_record workers_most Sixteen)

-- The eight runs on paper.
pub on_paper : EightRuns
on_paper = eight_runs

-- Stock: from the tail claim until the value is read out, both editions; its bound is attained by every ring, with held records and lent; and what the code counts is what the acts say.
pub stock_counted :
    StockUnderEverySchedule document01 stock × MostStock × StockAttained document01 stock × StockAttained (with_records records_most SixtyFour) stock
    × TallyAsSaid tallied_of × TalliedUnderEverySchedule document01 tallied_of
stock_counted = (stock_stands workers_most, most_stock, stock_attained SixtyFour workers_most, stock_attained SixtyFour records_most, tally_as_said, tallied_always SixtyFour workers_most)

-- How an exchange ended: told by the words and the schedule; counted by each worker, both editions; and no answer goes by it.
pub losses_counted : EndsTold SixtyFour (loss_at SixtyFour) × LossesUnderEverySchedule document01 × CountsAside document01
losses_counted = (ends_told SixtyFour, losses SixtyFour workers_most, counts_aside SixtyFour)

-- A close that holds: edition 2, and there of any machine that is not broken, at either width; what follows a pop's Closed, in both editions; case F.
pub close_that_holds : CloseHolds document01 × OnceClosedAnywhere document01 × OnceClosedAnywhere (of_width Sixteen) × ClosedIsLast document01 × CaseF document01
close_that_holds = (close_holds workers_most, once_closed_anywhere SixtyFour workers_most, once_closed_anywhere Sixteen workers_most, closed_is_last workers_most, case_f_lem)

-- Every retry has a cause, in both editions; each of the four is needed; alone a worker goes back at most once; and what is kept for naming them is what the history says.
pub retries_caused : EveryRetryHasACause document01 causes_in × EightWaysBack document01 × EachNeeded causes_in 1 × EachNeeded causes_in 2 × AloneBackOnce document01 × KeptAsSaid watches
retries_caused = (every_retry, eight_ways, each_needed.0, each_needed.1, alone_back_once, kept_as_said)

-- The same with as many records as are lent, up to 64; and of sixteen bits within the window.
pub retries_caused_anywhere : RetriesUnderEverySchedule (with_records records_most SixtyFour) causes_in × RetriesInWindow (of_width Sixteen) causes_in × KeptOf records_most
retries_caused_anywhere = (retries_always records_most, retries_in_window Sixteen workers_most, kept_of_records)

-- Words that wrap: of sixteen bits, as long as the window is kept, all of demands 2 and 3 with stock, losses and closing; and what needs no window.
pub sixteen_bits :
    WithinTheWindow (of_width Sixteen) × ActByAct (of_width Sixteen) × WholeSchedules (of_width Sixteen) × EndsTold Sixteen (loss_at Sixteen) × CountsAside (of_width Sixteen) × SameNumbers
    × LossesUnderEverySchedule (of_width Sixteen) × TalliedUnderEverySchedule (of_width Sixteen) tallied_of × NumbersFit (of_width Sixteen) (cut_to narrow)
sixteen_bits = (
  within_the_window Sixteen workers_most,
  act_by_act Sixteen,
  whole_schedules Sixteen,
  ends_told Sixteen,
  counts_aside Sixteen,
  same_numbers,
  losses Sixteen workers_most,
  tallied_always Sixteen workers_most,
  numbers_fit,
)

-- The window: as long as document 02 says, kept by whoever drops its words in time and by one worker alone, through any number of turns, and needed.
pub window : WindowLengths × PromptKeeps window_length window_length (of_width Sixteen) × AloneKeeps (of_width Sixteen) × RoundsClaim (of_width Sixteen) × NotIdle
window = (window_lengths, prompt_keeps window_length Sixteen workers_most, alone_keeps Sixteen, rounds_claim Sixteen, not_idle)

-- The widest: a turn less one capacity suffices for all that is said of a schedule, and whoever drops its words within so many acts keeps it; one claim more does not do, at any capacity.
pub widest_window : WithinWindowOf widest_length (of_width Sixteen) × PromptKeeps widest_length widest_length (of_width Sixteen) × NoWider × NoWiderAnywhere
widest_window = (within_the_widest Sixteen workers_most, prompt_keeps widest_length Sixteen workers_most, no_wider, no_wider_anywhere)

-- Walks: the list has every sequence of acts that goes so and no other, in order; what is answered and left in the buffer, each refusal given; and how many there are of some.
pub every_sequence : WalksAll walk_of × WalkTold × WalkCounts × WalkEachNumber item10 × WalksCounted
every_sequence = (walks_all, walk_told, walk_counts, walk_each_number, walks_counted)

-- Records in the host's memory: up to 16 of them as the machine that holds them; in a step only the acting record changes; demands 2 and 3 for every number of
-- records, lent throughout; case H of this machine.
pub records_lent : AsHeld item11 × OnlyTheActing item11 × LentUnbroken item11 × OnlyOneLent (promised item11) × LentThroughout item11 × SixtyFourRecords item11
records_lent = (as_held, only_the_acting, lent_unbroken_still, only_one_lent, lent_throughout, sixty_four_records)

-- The same face, of any number of records: demand 1, each number given, and exactly when; and steps and schedules in any mixture, with all that is said of one schedule.
pub records_lent_1 : LentDemand1 item11 × LentEachNumber item11 × LentRefusedExactly item11
records_lent_1 = (lent_demand1, lent_each_number, lent_refused_exactly)

pub lent_in_any_mixture : LentMixed item11
lent_in_any_mixture = lent_mixed

-- Step, begin, act and run of the machine that holds its records, in any mixture: of 64 bits, and of sixteen within the window.
pub in_any_mixture : Mixed sixty_four document01 × MixedInWindow sixteen (of_width Sixteen)
in_any_mixture = (any_mixture, any_mixture_in_window)
