-- What is said of words in a host's memory and of the functions that it calls on them (crate bounded_host).
-- The statements are over a definition of the face (`Hosting`) and of which words stand for something, so that they can be said of one with a slip.
use Rattle.std.specs.Prelude.{ℕ, ◌/◌, ◌%◌, ◌≤◌, ◌≡◌, Bool, true, false, cond, not, List, [], ◌∷◌, ◌++◌, eqb, ltb, length}
use Rattle.queue_entries.specs.Limits.{workers_most, in_limits}
use Rattle.queue_entries.specs.Entries.{entry_of}
use Rattle.queue_entries.specs.Schedules.{search_by}
use Rattle.queue_numbers.specs.Numbers.{on, first_of}
use Rattle.bounded_words.specs.Limits.{slots_most, editions_most}
use Rattle.bounded_words.specs.declared.Width.TheVariants.{SixtyFour}
use Rattle.bounded_places.specs.declared.Worker.{Worker}
use Rattle.bounded_machine.specs.declared.Machine.{Machine}
use Rattle.bounded_machine.specs.declared.Event.{Event}
use Rattle.bounded_machine.specs.Machine.{record_of_worker}
use Rattle.bounded_machine.specs.History.{events_of}
use Rattle.bounded_machine.specs.Broken.{all_idle}
use Rattle.bounded_machine.specs.Contents.{count_on}
use Rattle.bounded_machine.specs.Run.{run_of}
use Rattle.bounded.specs.Bounded.{step_of}
use Rattle.bounded_orders.specs.declared.Metered.{Metered}
use Rattle.bounded_orders.specs.Orders.{records_most, report}
use Rattle.bounded_lent.specs.Lent.{held, lent, gone}
use Rattle.bounded_rows.specs.Rows.{Words, words_of, metered_in, records_in, shaped, stand, After, after}
use Rattle.bounded_slices.specs.Slices.{broken_words}
use Rattle.bounded_host.specs.declared.Reply.{Reply}
use Rattle.bounded_host.specs.Host.{reply, make_words, Ended, ended, run_words, capacity_words, Listed, listed, contents_words}
use Rattle.bounded_host_step.specs.Step.{step_words_of}
use Rattle.bounded_demands.specs.Notions.{with_records, ran_of, entry_unless, entry_grounds}
use Rattle.bounded_demands.specs.Lending.{holding, holds_did, holds_ran, Doing, stepping, running}
use Rattle.bounded_demands.specs.Demands.{Demand2, Demand3, AsOneSchedule, Throughout}

-- What each function of the face answers, with the words and the buffer as they are then.
pub record Hosting : Type 0 where
  pub broken : Words → Bool
  pub make : Words → ℕ → ℕ → After
  pub step : Words → ℕ → ℕ → After
  pub run : Words → List ℕ → Ended
  pub capacity : Words → Reply
  pub contents : Words → List ℕ → Listed

-- The promises that the functions of crate bounded_host make.
abbrev pub face : Hosting
face = record { broken = broken_words; make = make_words; step = step_words_of; run = run_words; capacity = capacity_words; contents = contents_words }

-- the machine that the words stand for
abbrev pub held_words : Words → Machine
held_words w = held (metered_in w) (records_in w.records)

-- ---- words and machines are one to one
pub record OneToOne (stands : Words → Bool) : Type 0 where
  -- what stands for a ring and records is read as them and written as it was
  pub written : (w : Words) → stands w ≡ true → words_of (metered_in w) (records_in w.records) ≡ w
  -- a ring of 1,024 slots and records are written as words that stand for them, and read as they were
  pub stand_for : (l : Metered) (ys : List Worker) → length l.ring.slots ≡ slots_most → stands (words_of l ys) ≡ true
  pub ring : (l : Metered) (ys : List Worker) → metered_in (words_of l ys) ≡ l
  pub records : (l : Metered) (ys : List Worker) → records_in (words_of l ys).records ≡ ys

-- Words that stand for no ring and records are refusal 6, whatever is asked, and no word changes.
pub record Malformed (d : Hosting) : Type 0 where
  pub broken : (w : Words) → stand w ≡ false → d.broken w ≡ true
  pub step : (w : Words) (first second : ℕ) → stand w ≡ false → d.step w first second ≡ after 6 w
  pub run : (w : Words) (s : List ℕ) → stand w ≡ false → d.run w s ≡ ended (reply 6 0) w
  pub capacity : (w : Words) → stand w ≡ false → d.capacity w ≡ reply 6 0
  pub contents : (w : Words) (buffer : List ℕ) → stand w ≡ false → d.contents w buffer ≡ listed (reply 6 0) buffer

-- Each number is given exactly when its ground holds and none before it, in document 01's order, of any words and anything handed in. Making asks only how many words there are; else words that stand
-- for nothing are broken (`Malformed`).
pub record HostedRefusedExactly (d : Hosting) : Type 0 where
  pub make : (w : Words) (capacity edition : ℕ) → (d.make w capacity edition).answer
      ≡ first_of (on 6 (not (shaped w)) ∷ on 1 (not (in_limits capacity slots_most)) ∷ on 2 (not (in_limits (length (records_in w.records)) records_most)) ∷ on 18 (not (in_limits edition editions_most)) ∷ [])
  pub step : (w : Words) (first second : ℕ) → (d.step w first second).answer ≡ first_of (on 6 (d.broken w) ∷ entry_grounds (held_words w) first second)
  pub run : (w : Words) (s : List ℕ) → (d.broken w ≡ true → (d.run w s).answer ≡ reply 6 0) × (d.broken w ≡ false → length s % 2 ≡ 1 → (d.run w s).answer ≡ reply 11 0)
  pub contents : (w : Words) (buffer : List ℕ) → (d.contents w buffer).answer.refusal
      ≡ first_of (on 6 (d.broken w) ∷ on 4 (not (all_idle (records_in w.records))) ∷ on 10 (ltb (length buffer) (count_on (metered_in w).ring)) ∷ [])
  pub capacity : (w : Words) → (d.capacity w).refusal ≡ first_of (on 6 (d.broken w) ∷ [])

-- "In a step only the acting record may change."
pub record OnlyTheActingWords (d : Hosting) : Type 0 where
  pub others : (w : Words) (first second k : ℕ) → stand w ≡ true → (k ≡ first / 16 → ⊥) → record_of_worker (records_in (d.step w first second).words.records) k ≡ record_of_worker (records_in w.records) k
  pub stands : (w : Words) (first second : ℕ) → stand w ≡ true → stand (d.step w first second).words ≡ true

-- For up to 16 records every answer, and the words after it, are those of the machine that holds its records.
pub record AsHeldWords (d : Hosting) : Type 0 where
  pub step : (w : Words) (first second : ℕ) → stand w ≡ true → length (records_in w.records) ≤ workers_most
      → holds_did (lent (d.step w first second).answer (metered_in (d.step w first second).words) (records_in (d.step w first second).words.records)) ≡ step_of (holding (metered_in w) (records_in w.records)) first second
  pub run : (w : Words) (s : List ℕ) → stand w ≡ true → length (records_in w.records) ≤ workers_most
      → holds_ran (gone (report (d.run w s).answer.refusal (d.run w s).answer.number) (metered_in (d.run w s).words) (records_in (d.run w s).words.records)) ≡ run_of (holding (metered_in w) (records_in w.records)) s

-- ---- what a host does with words that nobody else writes
abbrev pub done_by : Hosting → Words → Doing → Words
done_by d w (stepping first second) = (d.step w first second).words
done_by d w (running s) = (d.run w s).words

unfoldable pub left_by : Hosting → Words → List Doing → Words
left_by d w [] = w
left_by d w (x ∷ rest) = left_by d (done_by d w x) rest

-- A refused call changes no word; of a schedule, if no entry of it was run: the whole was refused, or its first entry.
pub record RefusedWords (d : Hosting) : Type 0 where
  pub make : (w : Words) (capacity edition : ℕ) → ((d.make w capacity edition).answer ≡ 0 → ⊥) → (d.make w capacity edition).words ≡ w
  pub step : (w : Words) (first second : ℕ) → ((d.step w first second).answer ≡ 0 → ⊥) → (d.step w first second).words ≡ w
  pub run : (w : Words) (s : List ℕ) → ran_of (search_by entry_of 0 s) (d.run w s).answer.number s ≡ [] → (d.run w s).words ≡ w

abbrev pub entries_of : Hosting → Words → Doing → List ℕ
entries_of d w (stepping first second) = first ∷ second ∷ []
entries_of d w (running s) = ran_of (search_by entry_of 0 s) (d.run w s).answer.number s

unfoldable pub entries_by : Hosting → Words → List Doing → List ℕ
entries_by d w [] = []
entries_by d w (x ∷ rest) = entries_of d w x ++ entries_by d (done_by d w x) rest

-- the acts of entries one after another, oldest first; refused ones are passed over
unfoldable pub acts_words : Hosting → Words → List ℕ → List Event
acts_words d w [] = []
acts_words d w (first ∷ []) = []
acts_words d w (first ∷ second ∷ rest) =
    cond (eqb (d.step w first second).answer 0)
    (events_of SixtyFour (held_words w) (entry_of first second) (held_words (d.step w first second).words) ++ acts_words d (d.step w first second).words rest)
    (acts_words d (d.step w first second).words rest)

-- A host that makes, and then steps and runs in any mixture, refusals passed over, is under demands 2 and 3.
abbrev pub HostedThroughout : Hosting → Type 0
HostedThroughout d =
    (w : Words) (capacity edition : ℕ) → (d.make w capacity edition).answer ≡ 0 → (doings : List Doing)
    → Demand2 (with_records (length (records_in w.records)) SixtyFour) capacity (length (records_in w.records)) edition (held_words (left_by d (d.make w capacity edition).words doings))
    (acts_words d (d.make w capacity edition).words (entries_by d (d.make w capacity edition).words doings))
    × Demand3 (with_records (length (records_in w.records)) SixtyFour) (held_words (left_by d (d.make w capacity edition).words doings))
    (acts_words d (d.make w capacity edition).words (entries_by d (d.make w capacity edition).words doings))

-- The entries of it that were accepted; refused ones are passed over.
abbrev pub taken_words : Hosting → Words → Doing → List ℕ
taken_words d w (stepping first second) = entry_unless (d.step w first second).answer first second
taken_words d w (running s) = ran_of (search_by entry_of 0 s) (d.run w s).answer.number s

unfoldable pub all_taken_words : Hosting → Words → List Doing → List ℕ
all_taken_words d w [] = []
all_taken_words d w (x ∷ rest) = taken_words d w x ++ all_taken_words d (done_by d w x) rest

-- Such a host's calls are one schedule, of the entries that were accepted: the words stand for the machine that it leads to. So all of what is said of every schedule holds of them: what an
-- answer means, that nothing handed in is lost, that calls are one step each, why they go back, demands 2 and 3.
abbrev pub HostedMixed : Hosting → Type 0
HostedMixed d =
    (w : Words) (capacity edition : ℕ) → (d.make w capacity edition).answer ≡ 0 → (doings : List Doing)
    → AsOneSchedule (with_records (length (records_in w.records)) SixtyFour) capacity (length (records_in w.records)) edition (held_words (left_by d (d.make w capacity edition).words doings))
    (all_taken_words d (d.make w capacity edition).words doings)
    × Throughout (with_records (length (records_in w.records)) SixtyFour) capacity (length (records_in w.records)) edition (all_taken_words d (d.make w capacity edition).words doings)
