-- The host's face with a slip at one point, all else as it is; and words that are let pass.
use Rattle.std.specs.Prelude.{ℕ, ◌+◌, ◌*◌, ◌/◌, ◌%◌, Bool, true, cond, List, ◌≡◌, eqb, set, get_or}
use Rattle.bounded_rows.specs.Rows.{Words, words, stand, After, after}
use Rattle.bounded_slices.specs.Slices.{broken_words}
use Rattle.bounded_host.specs.Host.{make_words, run_words, Ended, ended, capacity_words, contents_words}
use Rattle.bounded_host_step.specs.Step.{step_words_of}
use Rattle.bounded_proof_host.specs.Hosted.{Hosting, face, OneToOne, Malformed, HostedRefusedExactly, RefusedWords, OnlyTheActingWords, AsHeldWords, HostedThroughout, HostedMixed}

abbrev pub none : ℕ
none = 0

-- a refused step moves the meter
abbrev pub refused_moves : ℕ
refused_moves = 1

-- a refused making writes the head's first word
abbrev pub refused_marks : ℕ
refused_marks = 2

-- a step writes the next record too
abbrev pub neighbour_written : ℕ
neighbour_written = 3

-- words are read whatever their layout number says
abbrev pub layout_passed : ℕ
layout_passed = 4

-- a schedule is told as run, and is not
abbrev pub not_run : ℕ
not_run = 5

-- a step whose worker is not the one that is asked for
abbrev pub other_worker : ℕ
other_worker = 6

-- a push that is begun is told as done at once
abbrev pub told_at_once : ℕ
told_at_once = 7

abbrev with_meter : Words → Words
with_meter w = words (set w.head 6 (get_or w.head 6 0 + 1)) w.slots w.records

abbrev with_mark : Words → Words
with_mark w = words (set w.head 0 (get_or w.head 0 0 + 1)) w.slots w.records

abbrev with_neighbour : Words → ℕ → Words
with_neighbour w first = words w.head w.slots (set w.records ((first / 16 + 1) * 5 + 3) 1)

abbrev with_pushed : Words → ℕ → Words
with_pushed w first = words w.head w.slots (set (set w.records (first / 16 * 5) 1) (first / 16 * 5 + 1) 0)

-- the words with the layout number that they should have
abbrev laid_out_rows : Words → Words
laid_out_rows w = words (set w.head 7 1) w.slots w.records

-- With slip number n: what a step leaves.
abbrev step_with : ℕ → Words → ℕ → ℕ → After
step_with n w first second =
    cond (eqb n refused_moves) (cond (eqb (step_words_of w first second).answer 0) (step_words_of w first second) (after (step_words_of w first second).answer (with_meter w)))
    (cond (eqb n neighbour_written) (after (step_words_of w first second).answer (with_neighbour (step_words_of w first second).words first))
    (cond (eqb n layout_passed) (step_words_of (laid_out_rows w) first second)
    (cond (eqb n other_worker) (step_words_of w (first + 16) second)
    (cond (eqb n told_at_once) (cond (eqb (first % 16) 0) (after (step_words_of w first second).answer (with_pushed (step_words_of w first second).words first)) (step_words_of w first second))
    (step_words_of w first second)))))

abbrev make_with : ℕ → Words → ℕ → ℕ → After
make_with n w capacity edition =
    cond (eqb n refused_marks) (cond (eqb (make_words w capacity edition).answer 0) (make_words w capacity edition) (after (make_words w capacity edition).answer (with_mark w)))
    (make_words w capacity edition)

abbrev run_with : ℕ → Words → List ℕ → Ended
run_with n w s = cond (eqb n not_run) (ended (run_words w s).answer w) (run_words w s)

abbrev pub hosting_with : ℕ → Hosting
hosting_with n = record { broken = broken_words; make = make_with n; step = step_with n; run = run_with n; capacity = capacity_words; contents = contents_words }

-- Every code is let pass, so that 99 is read as the last place.
abbrev pub every_code : Words → Bool
every_code w = true

-- ---- what stands

-- The slip that is planted: none. The must-fail edits of this crate plant one here.
abbrev pub planted : ℕ
planted = none

abbrev pub given : Hosting
given = hosting_with planted

abbrev pub Faithful : Type 0
Faithful = given ≡ face

abbrev pub Stands : Type 0
Stands = OneToOne stand × Malformed given × HostedRefusedExactly given × RefusedWords given × OnlyTheActingWords given × AsHeldWords given × HostedThroughout given × HostedMixed given

-- Which statement refuses which slip.
pub record Refuted : Type 0 where
  pub one_to_one : OneToOne every_code → ⊥
  pub malformed : Malformed (hosting_with layout_passed) → ⊥
  pub refused_exactly : HostedRefusedExactly (hosting_with layout_passed) → ⊥
  pub refused_step : RefusedWords (hosting_with refused_moves) → ⊥
  pub refused_make : RefusedWords (hosting_with refused_marks) → ⊥
  pub acting : OnlyTheActingWords (hosting_with neighbour_written) → ⊥
  pub as_held : AsHeldWords (hosting_with other_worker) → ⊥
  pub throughout : HostedThroughout (hosting_with not_run) → ⊥
  pub mixed : HostedMixed (hosting_with not_run) → ⊥
  pub told : HostedMixed (hosting_with told_at_once) → ⊥
