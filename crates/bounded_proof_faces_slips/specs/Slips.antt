-- The face of 64 bits with a slip at one point, all else as it is; and promises that leave the machine open.
use Rattle.std.specs.Prelude.{ℕ, ◌+◌, cond, List, ◌≡◌, eqb, Result, Ok}
use Rattle.bounded_machine.specs.declared.Machine.{Machine}
use Rattle.bounded_machine.specs.declared.Did.{Did}
use Rattle.bounded_machine.specs.declared.Ran.{Ran}
use Rattle.bounded_machine.specs.Machine.{machine_of, blank, fixed_on, ends_on}
use Rattle.bounded_machine.specs.Run.{ran, run_from, run_of}
use Rattle.bounded.specs.Bounded as bounded
use Rattle.bounded_demands.specs.Notions.{Face, sixty_four, Promises, promises_of}
use Rattle.queue_walks.specs.declared.Walked.{Walked}
use Rattle.bounded_demands.specs.Answers.{sized_values}

abbrev pub none : ℕ
none = 0

-- a refused step moves the meter
abbrev pub refused_moves : ℕ
refused_moves = 1

-- a schedule with half an entry at its end is refused by 12
abbrev pub odd_by_twelve : ℕ
odd_by_twelve = 2

-- a schedule is run up to the entry that can't be read
abbrev pub unsearched : ℕ
unsearched = 3

-- a step does not move the meter
abbrev pub meter_stays : ℕ
meter_stays = 4

-- a schedule is told as run, and is not
abbrev pub not_run : ℕ
not_run = 5

-- begin takes what act takes, too
abbrev pub begin_acts : ℕ
begin_acts = 6

-- an edition that there is not is refused by 2
abbrev pub edition_by_two : ℕ
edition_by_two = 7

-- a promise of a step that says nothing of the machine
abbrev pub machine_open : ℕ
machine_open = 8

-- every step is refused by 9
abbrev pub refuses_all : ℕ
refuses_all = 9

abbrev with_meter : ℕ → Machine → Machine
with_meter k m = machine_of (fixed_on m.ring) (ends_on m.ring) m.ring.slots m.workers m.count k

abbrev did : ℕ → Machine → Did
did k m = record { refusal = k; machine = m }

-- With slip number n.
abbrev make_with : ℕ → ℕ → ℕ → ℕ → Did
make_with n capacity workers edition =
    cond (eqb n edition_by_two) (cond (eqb (bounded.make_of capacity workers edition).refusal 18) (did 2 blank) (bounded.make_of capacity workers edition))
    (bounded.make_of capacity workers edition)

abbrev step_with : ℕ → Machine → ℕ → ℕ → Did
step_with n m first second =
    cond (eqb n refused_moves)
    (cond (eqb (bounded.step_of m first second).refusal 0) (bounded.step_of m first second) (did (bounded.step_of m first second).refusal (with_meter (m.meter + 1) m)))
    (cond (eqb n meter_stays) (did (bounded.step_of m first second).refusal (with_meter m.meter (bounded.step_of m first second).machine))
    (cond (eqb n refuses_all) (did 9 m)
    (bounded.step_of m first second)))

abbrev begin_with : ℕ → Machine → ℕ → ℕ → Did
begin_with n m first second = cond (eqb n begin_acts) (bounded.step_of m first second) (bounded.begin_step_of m first second)

abbrev run_with : ℕ → Machine → List ℕ → Ran
run_with n m s =
    cond (eqb n odd_by_twelve) (cond (eqb (run_of m s).refusal 11) (ran 12 0 m) (run_of m s))
    (cond (eqb n unsearched) (run_from m 0 s)
    (cond (eqb n not_run) (ran (run_of m s).refusal (run_of m s).place m)
    (run_of m s)))

abbrev pub face_with : ℕ → Face Machine Did Ran
face_with n =
    record {
      refusal = sixty_four.refusal;
      left = sixty_four.left;
      refusal_in = sixty_four.refusal_in;
      place_in = sixty_four.place_in;
      left_in = sixty_four.left_in;
      ran = ran;
      wide = sixty_four.wide;
      blank = blank;
      make = make_with n;
      step = step_with n;
      begin = begin_with n;
      act = bounded.act_step_of;
      run = run_with n;
      entries = sixty_four.entries;
    }

-- With slip number n: which answers of a step meet its promise.
abbrev met_by : ℕ → Did → Did → Type 0
met_by n x y = cond (eqb n machine_open) (x.refusal ≡ y.refusal) (x ≡ y)

abbrev pub promises_with : ℕ → Promises Machine Did Ran
promises_with n = record {
  make = (promises_of sixty_four).make;
  step = λ m first second x. met_by n x (bounded.step_of m first second);
  begin = (promises_of sixty_four).begin;
  act = (promises_of sixty_four).act;
  run = (promises_of sixty_four).run;
  contents = (promises_of sixty_four).contents;
  capacity = (promises_of sixty_four).capacity;
  broken = (promises_of sixty_four).broken;
}

-- Answers that are enums, their numbers and values, with a slip: a refusal has number 0; a refusal's number is taken for a value; a walk's bytes are given for its sequences.
abbrev pub unnumbered : Result ℕ ℕ → ℕ
unnumbered t = 0

abbrev pub never_refused : ℕ → ℕ → Result ℕ ℕ
never_refused number value = Ok value

abbrev pub bytes_twice : Result Walked ℕ → ℕ × ℕ
bytes_twice s = ((sized_values s).1, (sized_values s).1)

-- With none they are the face and its promises.
pub record Faithful : Type 1 where
  pub face : face_with none ≡ sixty_four
  pub promises : promises_with none ≡ promises_of sixty_four
