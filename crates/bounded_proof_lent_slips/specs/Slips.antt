-- The lent face with a slip at one point, all else as it is; and promises that leave the records open.
use Rattle.std.specs.Prelude.{ℕ, ◌+◌, ◌/◌, cond, List, ◌≡◌, eqb, length, set}
use Rattle.bounded_places.specs.declared.Worker.{Worker}
use Rattle.bounded_machine.specs.Machine.{machine_of, record_of_worker, idler, fresh_with, accepted, fixed_on, ends_on}
use Rattle.bounded_machine.specs.Turn.{turn_of}
use Rattle.bounded_orders.specs.declared.Metered.{Metered}
use Rattle.bounded_orders.specs.Orders.{report, Filled, filled}
use Rattle.bounded_lent.specs.Lent.{broken_lent, Lent, lent, lent_of, step_lent, Gone, gone, run_lent, make_lent, capacity_lent, contents_lent}
use Rattle.bounded_demands.specs.Lending.{Lending, item11, Promise, promised, refusal_of, step_by_step}
use Rattle.bounded_demands.specs.Demands.{AsHeld, OnlyTheActing, LentUnbroken, OnlyOneLent, LentThroughout, SixtyFourRecords, LentDemand1, LentEachNumber, LentMixed}

abbrev pub none : ℕ
none = 0

-- what a step leaves in the acting record is written to the next one too
abbrev pub neighbour_written : ℕ
neighbour_written = 1

-- the count is that of the making, of two records, and not the number lent
abbrev pub count_kept : ℕ
count_kept = 2

-- a refused step moves the meter
abbrev pub refused_moves : ℕ
refused_moves = 3

-- an act does not move the meter
abbrev pub meter_stays : ℕ
meter_stays = 4

-- 65 records are accepted
abbrev pub sixty_five : ℕ
sixty_five = 5

-- a refused making makes the first record idle
abbrev pub refused_idles : ℕ
refused_idles = 6

-- promises that say nothing of the records
abbrev pub records_open : ℕ
records_open = 7

-- a refused schedule is undone: it leaves all as it was
abbrev pub refused_undone : ℕ
refused_undone = 8

-- a schedule with half an entry at its end is refused by 12
abbrev pub odd_by_twelve : ℕ
odd_by_twelve = 9

-- a schedule is run up to the entry that can't be read
abbrev pub unsearched : ℕ
unsearched = 10

-- a schedule is told as run, and is not
abbrev pub not_run : ℕ
not_run = 11

-- refused contents write a 7 at the buffer's start
abbrev pub refused_writes : ℕ
refused_writes = 12

abbrev with_meter : ℕ → Lent → Lent
with_meter k x = lent x.answer (record { ring = x.ring.ring; meter = k }) x.records

abbrev with_records : List Worker → Lent → Lent
with_records ys x = lent x.answer x.ring ys

-- With slip number n: what a step leaves.
abbrev step_with : ℕ → Metered → List Worker → ℕ → ℕ → Lent
step_with n l ys first second =
    cond (eqb n neighbour_written)
    (with_records (set (step_lent l ys first second).records (first / 16 + 1) (record_of_worker (step_lent l ys first second).records (first / 16))) (step_lent l ys first second))
    (cond (eqb n count_kept)
    (cond (broken_lent l ys) (lent 6 l ys) (lent_of (turn_of (machine_of (fixed_on l.ring) (ends_on l.ring) l.ring.slots ys 2 l.meter) first second)))
    (cond (eqb n refused_moves) (cond (eqb (step_lent l ys first second).answer 0) (step_lent l ys first second) (with_meter (l.meter + 1) (step_lent l ys first second)))
    (cond (eqb n meter_stays) (with_meter l.meter (step_lent l ys first second))
    (step_lent l ys first second))))

-- With slip number n: what making leaves.
abbrev make_with : ℕ → List Worker → ℕ → ℕ → Lent
make_with n ys capacity edition =
    cond (eqb n sixty_five) (cond (eqb (length ys) 65) (lent_of (accepted (fresh_with (length ys) capacity (length ys) edition))) (make_lent ys capacity edition))
    (cond (eqb n refused_idles) (cond (eqb (make_lent ys capacity edition).answer 0) (make_lent ys capacity edition) (with_records (set ys 0 idler) (make_lent ys capacity edition)))
    (make_lent ys capacity edition))

-- With slip number n: what a schedule leaves.
abbrev run_with : ℕ → Metered → List Worker → List ℕ → Gone
run_with n l ys s =
    cond (eqb n meter_stays) (gone (run_lent l ys s).report (record { ring = (run_lent l ys s).ring.ring; meter = l.meter }) (run_lent l ys s).records)
    (cond (eqb n refused_undone) (cond (eqb (run_lent l ys s).report.refusal 0) (run_lent l ys s) (gone (run_lent l ys s).report l ys))
    (cond (eqb n odd_by_twelve) (cond (eqb (run_lent l ys s).report.refusal 11) (gone (report 12 0) l ys) (run_lent l ys s))
    (cond (eqb n unsearched) (step_by_step item11 l ys s)
    (cond (eqb n not_run) (gone (run_lent l ys s).report l ys)
    (run_lent l ys s)))))

-- With slip number n: what contents leave.
abbrev contents_with : ℕ → Metered → List Worker → List ℕ → Filled
contents_with n l ys buffer =
    cond (eqb n refused_writes)
    (cond (eqb (refusal_of (contents_lent l ys buffer).answer) 0) (contents_lent l ys buffer) (filled (contents_lent l ys buffer).answer (set buffer 0 7)))
    (contents_lent l ys buffer)

abbrev pub lending_with : ℕ → Lending
lending_with n = record { broken = broken_lent; make = make_with n; step = step_with n; run = run_with n; capacity = capacity_lent; contents = contents_with n }

-- With slip number n: which answers of a step meet its promise.
abbrev met_by : ℕ → Lent → Lent → Type 0
met_by n x y = cond (eqb n records_open) ((x.answer ≡ y.answer) × (x.ring ≡ y.ring)) (x ≡ y)

abbrev pub promise_with : ℕ → Promise
promise_with n = record {
  broken = (promised item11).broken;
  make = (promised item11).make;
  step = λ l ys first second x. met_by n x (step_lent l ys first second);
  run = (promised item11).run;
  capacity = (promised item11).capacity;
  contents = (promised item11).contents;
}

-- ---- what stands

-- The slip that is planted: none. The must-fail edits of this crate plant one here.
abbrev pub planted : ℕ
planted = none

abbrev pub given : Lending
given = lending_with planted

abbrev pub given_promise : Promise
given_promise = promise_with planted

-- It is item 11's, and so the statements stand.
pub record Faithful : Type 1 where
  pub lending : given ≡ item11
  pub promise : given_promise ≡ promised item11

abbrev pub Stands : Type 0
Stands = AsHeld given × OnlyTheActing given × LentUnbroken given × OnlyOneLent given_promise × LentThroughout given × SixtyFourRecords given × LentDemand1 given × LentEachNumber given × LentMixed given
