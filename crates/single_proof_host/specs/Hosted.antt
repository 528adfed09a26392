-- What is said of a one-slot queue's words in a host's memory and of the functions that it calls on them (crate single_host).
-- The statements are over a definition of the face (`Hosting`) and of which words stand for a machine, so that they can be said of one with a slip.
use Rattle.std.specs.Prelude.{ℕ, ◌*◌, ◌%◌, ◌≡◌, Bool, true, false, cond, not, List, [], ◌∷◌, ◌++◌, eqb, ltb, length, take}
use Rattle.queue_entries.specs.Limits.{workers_most, in_limits}
use Rattle.queue_entries.specs.Entries.{entry_of}
use Rattle.queue_entries.specs.Schedules.{run_by}
use Rattle.queue_numbers.specs.Numbers.{on, first_of}
use Rattle.queue_schedules.specs.Reading.{Readable}
use Rattle.single_machine.specs.declared.Machine.{Machine}
use Rattle.single_machine.specs.Machine.{fresh_of}
use Rattle.single_machine.specs.Broken.{idle_from}
use Rattle.single_machine.specs.Contents.{count_in}
use Rattle.single_rows.specs.Rows.{Words, words_of, machine_in, shaped, stand}
use Rattle.single_host.specs.Host.{reply, broken_words, After, after, make_words, step_words_of, Ended, ended, run_words, Listed, listed, contents_words}
use Rattle.single_demands.specs.Notions.{source, machine_after, acts_of}
use Rattle.single_demands.specs.Stories.{story_of}
use Rattle.single_demands.specs.Demands.{PlainThroughout, entry_grounds, Demand2, Demand3}

-- What each function of the face answers, with the words and the buffer as they are then.
pub record Hosting : Type 0 where
  pub broken : Words → Bool
  pub make : Words → ℕ → After
  pub step : Words → ℕ → ℕ → After
  pub run : Words → List ℕ → Ended
  pub contents : Words → List ℕ → Listed

-- The promises that the functions of crate single_host make.
abbrev pub face : Hosting
face = record { broken = broken_words; make = make_words; step = step_words_of; run = run_words; contents = contents_words }

-- Words and machines are one to one.
pub record OneToOne (stands : Words → Bool) : Type 0 where
  -- what stands for a machine is read as it and written as it was
  pub written : (w : Words) → stands w ≡ true → words_of (machine_in w) ≡ w
  -- a machine of sixteen records is written as words that stand for it, and read as it was
  pub stand_for : (m : Machine) → length m.workers ≡ workers_most → stands (words_of m) ≡ true
  pub machine : (m : Machine) → machine_in (words_of m) ≡ m

-- Words that stand for no machine are refusal 6, whatever is asked, and no word changes.
pub record Malformed (d : Hosting) : Type 0 where
  pub broken : (w : Words) → stand w ≡ false → d.broken w ≡ true
  pub step : (w : Words) (first second : ℕ) → stand w ≡ false → d.step w first second ≡ after 6 w
  pub run : (w : Words) (s : List ℕ) → stand w ≡ false → d.run w s ≡ ended (reply 6 0) w
  pub contents : (w : Words) (buffer : List ℕ) → stand w ≡ false → d.contents w buffer ≡ listed (reply 6 0) buffer

-- Each number is given exactly when its ground holds and none before it, in document 01's order, of any words and anything handed in. Making asks only how many words there are; else words that stand
-- for nothing are broken (`Malformed`).
pub record HostedRefusedExactly (d : Hosting) : Type 0 where
  pub make : (w : Words) (workers : ℕ) → (d.make w workers).answer ≡ first_of (on 6 (not (shaped w)) ∷ on 2 (not (in_limits workers workers_most)) ∷ [])
  pub step : (w : Words) (first second : ℕ) → (d.step w first second).answer ≡ first_of (on 6 (d.broken w) ∷ entry_grounds (machine_in w) (entry_of first second))
  pub run : (w : Words) (s : List ℕ) → (d.broken w ≡ true → (d.run w s).answer.refusal ≡ 6) × (d.broken w ≡ false → length s % 2 ≡ 1 → (d.run w s).answer.refusal ≡ 11)
  pub contents : (w : Words) (buffer : List ℕ) → (d.contents w buffer).answer.refusal
      ≡ first_of (on 6 (d.broken w) ∷ on 4 (not (idle_from 0 (machine_in w).workers)) ∷ on 10 (ltb (length buffer) (count_in (machine_in w))) ∷ [])

-- A refused making and a refused step change no word; nor does a schedule of which no entry was run: the whole was refused, or its first entry, or one of its entries can't be read.
pub record RefusedWords (d : Hosting) : Type 0 where
  pub make : (w : Words) (workers : ℕ) → ((d.make w workers).answer ≡ 0 → ⊥) → (d.make w workers).words ≡ w
  pub step : (w : Words) (first second : ℕ) → ((d.step w first second).answer ≡ 0 → ⊥) → (d.step w first second).words ≡ w
  pub run : (w : Words) (s : List ℕ) → ((d.run w s).answer.refusal ≡ 0 → ⊥) → (d.run w s).answer.number ≡ 0 → (d.run w s).words ≡ w
  pub unread : (w : Words) (s : List ℕ) → (d.run w s).answer.refusal ≡ 9 → (d.run w s).words ≡ w

-- A schedule of whole entries that can be read is its entries one after another, each as a step, to the first refusal: so what is said of steps is said of schedules.
abbrev pub by_single_entries : Hosting → Words → List ℕ → Ended
by_single_entries d w s = run_by (λ (x : After). x.answer) (λ (x : After). x.words) d.step (λ (number place : ℕ) (z : Words). ended (reply number place) z) w 0 s

abbrev pub RunAsSteps : Hosting → Type 0
RunAsSteps d = (w : Words) (s : List ℕ) → d.broken w ≡ false → length s % 2 ≡ 0 → Readable entry_of s → d.run w s ≡ by_single_entries d w s

-- ---- what a host does with words that nobody else writes: steps, each on what the last one left; refused ones are passed over
unfoldable pub left_by : Hosting → Words → List ℕ → Words
left_by d w [] = w
left_by d w (first ∷ []) = w
left_by d w (first ∷ second ∷ rest) = left_by d (d.step w first second).words rest

unfoldable pub taken_by : Hosting → Words → List ℕ → List ℕ
taken_by d w [] = []
taken_by d w (first ∷ []) = []
taken_by d w (first ∷ second ∷ rest) =
    cond (eqb (d.step w first second).answer 0) (first ∷ second ∷ taken_by d (d.step w first second).words rest) (taken_by d (d.step w first second).words rest)

-- The machine m is where the entries s lead, each of them accepted, and what is said of every schedule holds of them: what an answer means, demands 2 and 3.
pub record Under (workers : ℕ) (m : Machine) (s : List ℕ) : Type 0 where
  pub accepted : (source.run (fresh_of workers) 0 s).refusal ≡ 0
  pub machine : machine_after source workers s ≡ m
  pub plain : PlainThroughout m (acts_of source workers s) (story_of source workers s)
  pub demand2 : Demand2 source workers m (acts_of source workers s)
  pub demand3 : Demand3 source m (acts_of source workers s)

-- A host that makes, and then steps.
abbrev pub HostedThroughout : Hosting → Type 0
HostedThroughout d =
    (w : Words) (workers : ℕ) → (d.make w workers).answer ≡ 0 → (entries : List ℕ)
    → Under workers (machine_in (left_by d (d.make w workers).words entries)) (taken_by d (d.make w workers).words entries)

-- ---- and runs schedules between them, in any mixture
pub data Doing : Type 0 where
  stepping : ℕ → ℕ → Doing
  running : List ℕ → Doing

abbrev pub done_by : Hosting → Words → Doing → Words
done_by d w (stepping first second) = (d.step w first second).words
done_by d w (running s) = (d.run w s).words

unfoldable pub left_by_all : Hosting → Words → List Doing → Words
left_by_all d w [] = w
left_by_all d w (x ∷ rest) = left_by_all d (done_by d w x) rest

-- what was run of a schedule: nothing where an entry can't be read, else the entries before the refused one, or all
abbrev pub ran_by : Ended → List ℕ → List ℕ
ran_by x s = cond (eqb x.answer.refusal 9) [] (take (2 * x.answer.number) s)

abbrev pub entries_of : Hosting → Words → Doing → List ℕ
entries_of d w (stepping first second) = first ∷ second ∷ []
entries_of d w (running s) = ran_by (d.run w s) s

unfoldable pub entries_by : Hosting → Words → List Doing → List ℕ
entries_by d w [] = []
entries_by d w (x ∷ rest) = entries_of d w x ++ entries_by d (done_by d w x) rest

abbrev pub HostedMixed : Hosting → Type 0
HostedMixed d =
    (w : Words) (workers : ℕ) → (d.make w workers).answer ≡ 0 → (doings : List Doing)
    → Under workers (machine_in (left_by_all d (d.make w workers).words doings)) (taken_by d (d.make w workers).words (entries_by d (d.make w workers).words doings))
