-- The host's face with a slip at one point, all else as it is; and words that are let pass.
use Rattle.std.specs.Prelude.{ℕ, ◌+◌, ◌*◌, ◌/◌, Bool, true, cond, List, ◌≡◌, eqb, set, get_or}
use Rattle.single_rows.specs.Rows.{Words, words, stand}
use Rattle.single_host.specs.Host.{broken_words, After, after, make_words, step_words_of, Ended, ended, run_words, contents_words}
use Rattle.single_proof_host.specs.Hosted.{Hosting, face, OneToOne, Malformed, HostedRefusedExactly, RefusedWords, RunAsSteps, HostedThroughout, HostedMixed}

abbrev pub none : ℕ
none = 0

-- a refused step moves the meter
abbrev pub refused_moves : ℕ
refused_moves = 1

-- a refused making writes the head's first word
abbrev pub refused_marks : ℕ
refused_marks = 2

-- words are read whatever their layout number says
abbrev pub layout_passed : ℕ
layout_passed = 3

-- a schedule is told as run, and is not
abbrev pub not_run : ℕ
not_run = 4

-- a push that is begun is told as done at once
abbrev pub told_at_once : ℕ
told_at_once = 5

-- a refused schedule moves the meter
abbrev pub refused_run_moves : ℕ
refused_run_moves = 6

abbrev with_meter : Words → Words
with_meter w = words (set w.head 3 (get_or w.head 3 0 + 1)) w.records

abbrev with_mark : Words → Words
with_mark w = words (set w.head 0 (get_or w.head 0 0 + 1)) w.records

abbrev with_pushed : Words → ℕ → Words
with_pushed w first = words w.head (set (set w.records (first / 16 * 3) 1) (first / 16 * 3 + 1) 0)

-- the words with the layout number that they should have
abbrev laid_out_rows : Words → Words
laid_out_rows w = words (set w.head 4 2) w.records

-- With slip number n: what a step leaves.
abbrev step_with : ℕ → Words → ℕ → ℕ → After
step_with n w first second =
    cond (eqb n refused_moves) (cond (eqb (step_words_of w first second).answer 0) (step_words_of w first second) (after (step_words_of w first second).answer (with_meter w)))
    (cond (eqb n layout_passed) (step_words_of (laid_out_rows w) first second)
    (cond (eqb n told_at_once) (after (step_words_of w first second).answer (with_pushed (step_words_of w first second).words first))
    (step_words_of w first second)))

abbrev make_with : ℕ → Words → ℕ → After
make_with n w workers =
    cond (eqb n refused_marks) (cond (eqb (make_words w workers).answer 0) (make_words w workers) (after (make_words w workers).answer (with_mark w))) (make_words w workers)

abbrev run_with : ℕ → Words → List ℕ → Ended
run_with n w s =
    cond (eqb n not_run) (ended (run_words w s).answer w)
    (cond (eqb n refused_run_moves) (cond (eqb (run_words w s).answer.refusal 0) (run_words w s) (ended (run_words w s).answer (with_meter (run_words w s).words))) (run_words w s))

abbrev pub hosting_with : ℕ → Hosting
hosting_with n = record { broken = broken_words; make = make_with n; step = step_with n; run = run_with n; contents = contents_words }

-- Every code is let pass, so that 99 is read as the last place.
abbrev pub every_code : Words → Bool
every_code w = true

-- ---- what stands

-- The slip that is planted: none. The must-fail edit of this crate plants one here.
abbrev pub planted : ℕ
planted = none

abbrev pub given : Hosting
given = hosting_with planted

abbrev pub Faithful : Type 0
Faithful = given ≡ face

abbrev pub Stands : Type 0
Stands = OneToOne stand × Malformed given × HostedRefusedExactly given × RefusedWords given × RunAsSteps given × HostedThroughout given × HostedMixed given

-- Which statement refuses which slip.
pub record Refuted : Type 0 where
  pub one_to_one : OneToOne every_code → ⊥
  pub malformed : Malformed (hosting_with layout_passed) → ⊥
  pub refused_exactly : HostedRefusedExactly (hosting_with layout_passed) → ⊥
  pub refused_step : RefusedWords (hosting_with refused_moves) → ⊥
  pub refused_make : RefusedWords (hosting_with refused_marks) → ⊥
  pub refused_run : RefusedWords (hosting_with refused_run_moves) → ⊥
  pub run_as_steps : RunAsSteps (hosting_with not_run) → ⊥
  pub throughout : HostedThroughout (hosting_with told_at_once) → ⊥
  pub mixed : HostedMixed (hosting_with not_run) → ⊥
