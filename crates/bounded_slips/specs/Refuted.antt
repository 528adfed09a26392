-- Which statement of the demands refuses which slip: of the machine that a schedule makes of a fresh one, with the slip in its tables,
-- the statement is false. (Statements: crates/bounded_demands/specs/Demands.antt.)
use Rattle.std.specs.Prelude.{ℕ, ◌+◌, ◌*◌, false, List, [], ◌∷◌, ◌++◌, ◌≡◌}
use Rattle.bounded_words.specs.declared.Width.TheVariants.{SixtyFour}
use Rattle.bounded_machine.specs.declared.Machine.{Machine}
use Rattle.bounded_machine.specs.declared.Event.{Event}
use Rattle.bounded_machine.specs.Broken.{broken_of}
use Rattle.bounded_demands.specs.Notions.{Definition, Words, Plain, machine_after, acts_of, acts, stock}
use Rattle.bounded_demands.specs.Demands.{ClaimRule, OnceOut, OneHand, ReadsWritten, AnswersTrue, UntakenCounts, ContentsWait, PlainQueue, EmptyTrue, FullTrue, ActByAct, WholeSchedules, LenTrue, NeverRefused, AloneEnds, InTheWay, WaitsAt, HandLetsGo, PassedAsRun, StockRises, StockFalls, StockStays, StockByHands, StockIsNumber, StockMost, EndTold, LossesCounted, CountsAside, OnceClosed, NoneAfterClosed}
use Rattle.bounded_demands.specs.Demands.{AtMost, NineAsEight, OwnRecordAlone, AttainedBy, AttainedBeside, AsForetoldBy, EightWaysBack, AloneBackOnce, AloneKeeps, RoundsClaim}
use Rattle.bounded_slips.specs.Slips.{none, lost_push_goes_on, closed_unseen, unwrapped, tail_unmoved, unwritten, unstamped, full_unseen, tail_before_head, lost_force_keeps_its_word, lost_force_takes_the_head, stamp_before_value, stamp_untested, reads_after_its_store, releases_with_next, never_lets_go, empty_unseen, hands_out_again, pop_keeps_its_word, len_looks_once, empty_tail_first, full_head_first, push_writes_late, force_forgets, closed_too_soon, close_waits, falls_when_taken, rises_when_written, force_unread, pop_uncounted, both_by_schedule, force_uncounted, won_counted, counting, unreset, forgotten, twice, told_by_schedule, weary, slipped, stock_with, deaf, refusing, forgetful, slower, act_with}

-- A schedule for a machine of this capacity and edition with two workers, with this slip.
pub record Trial : Type 0 where
  pub slip : ℕ
  pub edition : ℕ
  pub capacity : ℕ
  pub schedule : List ℕ

abbrev pub trial_in : ℕ → ℕ → ℕ → List ℕ → Trial
trial_in e n c s = record { slip = n; edition = e; capacity = c; schedule = s }

abbrev pub trial : ℕ → ℕ → List ℕ → Trial
trial = trial_in 1

abbrev pub reached : Trial → Machine
reached t = machine_after (slipped t.slip) t.capacity 2 t.edition t.schedule

abbrev pub past : Trial → List Event
past t = acts_of (slipped t.slip) t.capacity 2 t.edition t.schedule

-- Worker w begins the call of this code and item, and does so many acts of it.
abbrev pub does : ℕ → ℕ → ℕ → ℕ → List ℕ
does w code item n = (16 * w + code) ∷ item ∷ acts w n

-- ---- demand 2

-- two pushes load the same tail, and both exchange it
abbrev pub two_pushes : Trial
two_pushes = trial lost_push_goes_on 1 (does 0 0 5 2 ++ does 1 0 6 2 ++ acts 0 1 ++ acts 1 1)

-- the slot is released before it is read, and written anew in between
abbrev pub pop_reads_late : Trial
pop_reads_late = trial reads_after_its_store 1 (does 0 0 5 5 ++ does 1 2 0 4 ++ does 0 0 6 5 ++ acts 1 1)

-- the slot of a push is stamped before it is written, and read in between
abbrev pub pop_reads_early : Trial
pop_reads_early = trial push_writes_late 1 (does 0 0 5 4 ++ does 1 2 0 5)

-- the same of a force_push
abbrev pub force_writes_late : Trial
force_writes_late = trial stamp_before_value 1 (does 0 0 5 5 ++ does 1 1 6 5 ++ does 0 2 0 5)

-- a pop of one item, and a pop more
abbrev pub two_pops : Trial
two_pops = trial hands_out_again 1 (does 0 0 5 5 ++ does 0 2 0 5 ++ does 0 2 0 3)

-- a pop of a ring that was never written
abbrev pub pop_of_nothing : Trial
pop_of_nothing = trial stamp_untested 1 (does 0 2 0 3)

-- pop found a stamp of an empty ring, and then a push claimed
abbrev pub pop_looks_late : Trial
pop_looks_late = trial empty_unseen 1 (does 1 2 0 2 ++ does 0 0 5 3)

-- push found a stamp of a full ring, and then a pop came and went
abbrev pub push_looks_late : Trial
push_looks_late = trial full_unseen 1 (does 0 0 5 5 ++ does 1 0 6 2 ++ does 0 2 0 5)

-- a push is about to lose its exchange to another
abbrev pub push_loses : Trial
push_loses = trial closed_unseen 1 (does 0 0 5 2 ++ does 1 0 6 2 ++ acts 0 1)

-- one push, up to its claim
abbrev pub push_claims : Trial
push_claims = trial unwrapped 1 (does 0 0 5 3)

-- a force_push on a full ring, up to F7
abbrev pub force_claims : Trial
force_claims = trial tail_before_head 1 (does 0 0 5 5 ++ does 0 1 6 3)

-- one push
abbrev pub one_push : ℕ → Trial
one_push n = trial n 1 (does 0 0 5 5)

-- is_empty made its first load, and then a push claimed
abbrev pub empty_looks : Trial
empty_looks = trial empty_tail_first 1 (does 1 4 0 1 ++ does 0 0 5 3)

-- is_full made its first load of a full ring, and then a pop claimed
abbrev pub full_looks : Trial
full_looks = trial full_head_first 1 (does 0 0 5 5 ++ does 1 5 0 1 ++ does 0 2 0 3)

-- len loaded tail, and then a push claimed
abbrev pub len_looks : Trial
len_looks = trial len_looks_once 1 (does 1 3 0 1 ++ does 0 0 5 3)

-- ---- demand 3

-- a pop after one push
abbrev pub pop_after_push : Trial
pop_after_push = trial unstamped 1 (does 0 0 5 5 ++ does 0 2 0 0)

-- both slots pushed and popped, and a push to the first of them
abbrev pub second_lap : Trial
second_lap = trial releases_with_next 2 (does 0 0 5 5 ++ does 0 2 0 5 ++ does 0 0 5 5 ++ does 0 2 0 5 ++ does 0 0 5 0)

-- a pop at O6 with a word of a lap ago
abbrev pub pop_out_of_date : Trial
pop_out_of_date = trial pop_keeps_its_word 1 (does 1 2 0 2 ++ does 0 0 5 5 ++ does 0 2 0 5 ++ does 0 0 5 5)

-- a force_push at F6 with a word of a lap ago
abbrev pub force_out_of_date : ℕ → Trial
force_out_of_date n = trial n 1 (does 0 0 5 5 ++ does 1 1 6 2 ++ does 0 2 0 5 ++ does 0 0 5 5)

-- len made its first two loads, and a push came between them and the third
abbrev pub len_out_of_date : Trial
len_out_of_date = trial len_looks_once 1 (does 1 3 0 2 ++ does 0 0 5 5)

-- a pop with its slot in hand
-- a push about to exchange a tail that another has moved
abbrev pub overtaken : Trial
overtaken = trial both_by_schedule 1 (does 0 0 5 2 ++ does 1 0 6 3)

-- a push in hand, and another worker's close
abbrev pub close_beside_hand : Trial
close_beside_hand = trial close_waits 1 (does 0 0 5 3 ++ does 1 6 0 0)

abbrev pub pop_in_hand : Trial
pop_in_hand = trial never_lets_go 1 (does 0 0 5 5 ++ does 0 2 0 3)

-- ---- stock

-- a force_push that displaces an item, and one more
abbrev pub one_force : List ℕ
one_force = does 0 0 5 5 ++ does 0 1 6 6

abbrev pub two_forces : Trial
two_forces = trial none 1 (one_force ++ does 0 1 7 6)

-- ---- lost exchanges

-- one act whose exchange the schedule makes fail
abbrev pub fails : ℕ → List ℕ
fails w = (16 * w + 9) ∷ 0 ∷ []

-- a push is about to lose its exchange to another, and the schedule makes it fail too
abbrev pub push_loses_twice : Trial
push_loses_twice = trial both_by_schedule 1 (push_loses.schedule ++ fails 1)

-- a force_push on a full ring, made to fail
abbrev pub force_loses : Trial
force_loses = trial force_uncounted 1 (does 0 0 5 5 ++ does 1 1 6 2 ++ fails 1)

-- a pop, made to fail once; its end; and a pop more, begun
abbrev pub pop_loses : List ℕ
pop_loses = does 0 0 5 5 ++ does 0 2 0 2 ++ fails 0

abbrev pub pop_ends : List ℕ
pop_ends = pop_loses ++ acts 0 4

abbrev pub pop_again : List ℕ
pop_again = pop_ends ++ does 0 2 0 0

-- The counts along a schedule on one slot, by a definition that counts so.
abbrev pub LossesBy : Definition → List ℕ → Type 0
LossesBy d s = LossesCounted (machine_after d 1 2 1 s) (acts_of d 1 2 1 s)

-- ---- a close that holds

-- case F in edition 2, up to the close: a force_push past its load, and then a close
abbrev pub closed_f : Trial
closed_f = trial_in 2 force_forgets 1 (does 0 0 7 5 ++ does 0 1 8 2 ++ does 1 6 0 1)

-- a pop at O6 while a push and a close come between, answers Closed; the item is still inside, and the next pop claims it
abbrev pub closed_before : List ℕ
closed_before = does 1 2 0 2 ++ does 0 0 5 5 ++ does 0 6 0 1

abbrev pub pop_after_closed : Trial
pop_after_closed = trial closed_too_soon 1 (closed_before ++ acts 1 1 ++ does 0 2 0 3)

-- ---- what is false

pub record Refuted : Type 0 where
  -- 1. each act is the one action
  pub act_by_act : ActByAct deaf → ⊥
  pub whole_schedules : WholeSchedules deaf → ⊥
  -- 2. the claim rule
  pub claim_rule : ClaimRule (past pop_reads_late) → ⊥
  pub claim_rule_push : ClaimRule (past pop_reads_early) → ⊥
  pub claim_rule_force : ClaimRule (past force_writes_late) → ⊥
  pub once_out : OnceOut (past two_pops) → ⊥
  -- 3. no slot in two hands
  pub one_hand : OneHand (reached two_pushes) → ⊥
  -- 4. Empty, Full and Closed
  pub answers_empty : AnswersTrue (slipped empty_unseen) (reached pop_looks_late) → ⊥
  pub answers_full : AnswersTrue (slipped full_unseen) (reached push_looks_late) → ⊥
  pub answers_closed : AnswersTrue (slipped closed_unseen) (reached push_loses) → ⊥
  -- 5. only what was written is read
  pub reads : ReadsWritten (reached pop_of_nothing) (past pop_of_nothing) → ⊥
  -- 6. unbroken, the words of claims, no stamp wraps
  pub unbroken : broken_of (reached push_claims) ≡ false → ⊥
  pub words : Words SixtyFour (reached force_claims) (past force_claims) → ⊥
  pub plain : Plain (reached force_claims) (past force_claims) → ⊥
  -- 7. claims not taken, and contents
  pub untaken : UntakenCounts (reached (one_push tail_unmoved)) (past (one_push tail_unmoved)) → ⊥
  pub contents : ContentsWait (reached (one_push unwritten)) (past (one_push unwritten)) → ⊥
  -- 8. beside the demand
  pub fifo : PlainQueue (past pop_of_nothing) → ⊥
  pub empty : EmptyTrue (slipped empty_tail_first) (reached empty_looks) → ⊥
  pub full : FullTrue (slipped full_head_first) (reached full_looks) → ⊥
  pub len : LenTrue (slipped len_looks_once) → ⊥
  -- demand 3
  pub accepted : NeverRefused refusing (reached (trial none 1 (does 0 0 5 0))) → ⊥
  pub alone_pop : AloneEnds (slipped pop_keeps_its_word) (reached pop_out_of_date) (past pop_out_of_date) → ⊥
  pub alone_force : AloneEnds (slipped lost_force_keeps_its_word) (reached (force_out_of_date lost_force_keeps_its_word)) (past (force_out_of_date lost_force_keeps_its_word)) → ⊥
  pub alone_force_too : AloneEnds (slipped lost_force_takes_the_head) (reached (force_out_of_date lost_force_takes_the_head)) (past (force_out_of_date lost_force_takes_the_head)) → ⊥
  pub alone_stamp : AloneEnds (slipped unstamped) (reached pop_after_push) (past pop_after_push) → ⊥
  pub alone_next : AloneEnds (slipped releases_with_next) (reached second_lap) (past second_lap) → ⊥
  -- it ends at once, and its answer is false
  pub alone_early : AloneEnds (slipped full_unseen) (reached push_looks_late) (past push_looks_late) → ⊥
  -- it ends, and not with the answer foretold
  pub alone_other : AloneEnds (slipped len_looks_once) (reached len_out_of_date) (past len_out_of_date) → ⊥
  pub in_the_way : InTheWay (slipped unstamped) (reached pop_after_push) → ⊥
  -- it waits for a slot that is in nobody's hand; it waits and needs no slot
  pub waits_hand : WaitsAt (slipped unstamped) (reached pop_after_push) → ⊥
  pub waits_needed : WaitsAt (slipped close_waits) (reached close_beside_hand) → ⊥
  pub attained_beside_lem : AttainedBeside (act_with full_unseen) 1 → ⊥
  pub lets_go : HandLetsGo (slipped never_lets_go) (reached pop_in_hand) → ⊥
  pub as_run : PassedAsRun deaf (reached (trial none 1 [])) → ⊥
  -- code 9 counts a loss that code 8 does not, where the words differ anyway
  pub nine_as_eight : NineAsEight (slipped both_by_schedule) → ⊥
  -- a step that reads another's record
  pub own_record : OwnRecordAlone weary → ⊥
  pub at_most : AtMost slower → ⊥
  pub attained : AttainedBy (act_with len_looks_once) 1 → ⊥
  pub foretold : AsForetoldBy SixtyFour (act_with unstamped) 1 → ⊥
  -- stock
  pub rises : StockRises (stock_with rises_when_written) (past (trial none 1 (does 0 0 5 3))) → ⊥
  pub falls : StockFalls (stock_with force_unread) (past (trial none 1 one_force)) → ⊥
  pub stays : StockStays (stock_with falls_when_taken) (past (trial none 1 (does 0 0 5 5 ++ does 0 2 0 3))) → ⊥
  pub hands : StockByHands (stock_with pop_uncounted) (reached (trial none 1 (does 0 0 5 5 ++ does 0 2 0 3))) (past (trial none 1 (does 0 0 5 5 ++ does 0 2 0 3))) → ⊥
  pub number : StockIsNumber (stock_with force_unread) (reached (trial none 1 one_force)) (past (trial none 1 one_force)) → ⊥
  pub number_push : StockIsNumber stock (reached (one_push tail_unmoved)) (past (one_push tail_unmoved)) → ⊥
  pub most : StockMost (stock_with force_unread) 1 2 (past two_forces) → ⊥
  -- lost exchanges
  pub both : LossesCounted (reached push_loses_twice) (past push_loses_twice) → ⊥
  pub force : LossesCounted (reached force_loses) (past force_loses) → ⊥
  pub won : LossesCounted (reached (trial won_counted 1 (does 0 0 5 5 ++ does 0 2 0 3))) (past (trial won_counted 1 (does 0 0 5 5 ++ does 0 2 0 3))) → ⊥
  pub twice_counted : LossesBy (counting twice) pop_loses → ⊥
  pub ended : LossesBy (counting forgotten) pop_ends → ⊥
  pub begun_anew : LossesBy (counting unreset) pop_again → ⊥
  pub told : EndTold SixtyFour told_by_schedule (reached (trial none 1 push_loses.schedule)) 1 → ⊥
  pub aside : CountsAside weary → ⊥
  -- a close that holds
  pub once_closed : OnceClosed (slipped force_forgets) (reached closed_f) → ⊥
  pub closed_last : NoneAfterClosed (past pop_after_closed) → ⊥
  -- ways back
  pub eight_ways : EightWaysBack (slipped never_lets_go) → ⊥
  pub back_once : AloneBackOnce (slipped pop_keeps_its_word) → ⊥
  -- the window
  pub alone_keeps : AloneKeeps forgetful → ⊥
  pub rounds_claim : RoundsClaim (slipped unstamped) → ⊥
