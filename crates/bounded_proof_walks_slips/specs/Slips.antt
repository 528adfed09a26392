-- The walk of item 10 with a slip at one point, all else as it is (crates/queue_walks/specs/Walks.antt); and what it answers and leaves in the buffer, with one.
use Rattle.std.specs.Prelude.{ℕ, zero, suc, ◌+◌, ◌-◌, Bool, cond, not, List, [], ◌∷◌, ◌++◌, ◌≡◌, eqb, length, drop, Result, Ok, Err}
use Rattle.queue_entries.specs.Told.{told}
use Rattle.queue_walks.specs.Walks.{choice_by}
use Rattle.queue_walks.specs.Listed.{bytes_of, walked}
use Rattle.bounded_machine.specs.declared.Machine.{Machine}
use Rattle.bounded_machine.specs.declared.Did.{Did}
use Rattle.bounded_machine.specs.Broken.{all_idle}
use Rattle.bounded_machine.specs.Turn.{turn_of}
use Rattle.bounded_sequences.specs.Sequences.{walk_of}
use Rattle.queue_walks.specs.declared.Walked.{Walked}
use Rattle.bounded_walks.specs.Walks.{all_busy, walk_refusal, walk_told, listed, size_of}
use Rattle.bounded_demands.specs.Walkings.{WalkFace, item10}
use Rattle.bounded_demands.specs.Demands.{WalksAll}

abbrev pub none : ℕ
none = 0

-- code 9 before code 8
abbrev pub nine_first : ℕ
nine_first = 1

-- worker 0 is passed over
abbrev pub one_skipped : ℕ
one_skipped = 2

-- a sequence is cut where some worker is idle, and not where all are
abbrev pub cut_when_one_idle : ℕ
cut_when_one_idle = 3

-- each worker's acts of code 8 are listed twice
abbrev pub listed_twice : ℕ
listed_twice = 4

-- With slip number n: so many workers, from this one on.
unfoldable pub turns_with : ℕ → (ℕ → ℕ → List (List ℕ)) → ℕ → ℕ → List (List ℕ)
turns_with n choice zero worker = []
turns_with n choice (suc more) worker =
    cond (eqb n nine_first) (choice worker 9 ++ (choice worker 8 ++ turns_with n choice more (worker + 1)))
    (cond (eqb n listed_twice) (choice worker 8 ++ (choice worker 8 ++ (choice worker 9 ++ turns_with n choice more (worker + 1))))
    (choice worker 8 ++ (choice worker 9 ++ turns_with n choice more (worker + 1))))

abbrev ends_with : ℕ → Machine → Bool
ends_with n m = cond (eqb n cut_when_one_idle) (not (all_busy m)) (all_idle m.workers)

abbrev pub choice_with : (Machine → List (List ℕ)) → Machine → ℕ → ℕ → List (List ℕ)
choice_with = choice_by (λ (d : Did). d.refusal) (λ (d : Did). d.machine) turn_of (λ (m : Machine). m.count) (λ (m : Machine). all_idle m.workers)

unfoldable pub walk_with : ℕ → ℕ → Machine → List (List ℕ)
walk_with n zero m = [] ∷ []
walk_with n (suc left) m =
    cond (ends_with n m) ([] ∷ [])
    (turns_with n (choice_with (walk_with n left) m) (cond (eqb n one_skipped) (m.count - 1) m.count) (cond (eqb n one_skipped) 1 0))

-- ---- what it answers

-- a buffer one byte short is accepted
abbrev pub one_short : ℕ
one_short = 5

-- a refused walk writes its list all the same
abbrev pub refused_writes : ℕ
refused_writes = 6

-- an idle worker is refused by 4
abbrev pub idle_by_four : ℕ
idle_by_four = 7

-- the size tells one byte less
abbrev pub sized_short : ℕ
sized_short = 8

-- a walk answers 0, whatever it listed
abbrev pub answers_none : ℕ
answers_none = 9

abbrev less_one : Result Walked ℕ → Result Walked ℕ
less_one (Ok found) = Ok (walked found.sequences (found.bytes - 1))
less_one (Err number) = Err number

-- With slip number n.
abbrev pub face_with : ℕ → WalkFace
face_with n =
    record {
      refusal =
          λ m depth room.
          cond (eqb n one_short) (walk_refusal m depth (room + 1))
          (cond (eqb n idle_by_four) (cond (eqb (walk_refusal m depth room) 20) 4 (walk_refusal m depth room))
          (walk_refusal m depth room));
      told = λ m depth buffer. cond (eqb n answers_none) (told (walk_refusal m depth (length buffer)) 0) (walk_told m depth buffer);
      listed = λ m depth buffer. cond (eqb n refused_writes) (bytes_of (walk_of depth m) ++ drop (length (bytes_of (walk_of depth m))) buffer) (listed m depth buffer);
      size = λ m depth. cond (eqb n sized_short) (less_one (size_of m depth)) (size_of m depth);
    }

-- With none they are item 10's, and so the statement stands.
abbrev pub Faithful : Type 0
Faithful = (walk_with none ≡ walk_of) × (face_with none ≡ item10)

abbrev pub Stands : Type 0
Stands = WalksAll (walk_with none)
