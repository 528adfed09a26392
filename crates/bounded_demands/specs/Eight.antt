-- "Eight runs on paper" of document 01, as one table: edition 1's, and case F in edition 2.
use Rattle.std.specs.Prelude.{ℕ, ◌+◌, ◌*◌, ◌≡◌, List, [], ◌∷◌, ◌++◌, map, get_or}
use Rattle.bounded_words.specs.Words.{stamp, mark_of, lap_of}
use Rattle.bounded_places.specs.declared.Place.{Place}
use Rattle.bounded_places.specs.declared.Place.TheVariants.{Idle, O1, O2}
use Rattle.bounded_places.specs.declared.Answer.TheVariants.{Pushed, Full, Closed, Displaced, Popped, PopClosed, Len, Yes, No}
use Rattle.bounded_machine.specs.declared.Ran.{Ran}
use Rattle.bounded_machine.specs.declared.Event.{Event}
use Rattle.bounded_machine.specs.Machine.{slot, fresh_of, record_of_worker, place_of}
use Rattle.bounded_machine.specs.Contents.{contents_of}
use Rattle.bounded_machine.specs.Run.{run_of}
use Rattle.bounded_machine.specs.History.{history_of, untallied, tally_of, stock_of}
use Rattle.bounded.specs.Bounded.{make_of}
use Rattle.bounded_demands.specs.Notions.{acts}

-- What the text says of a run.
pub data Fact : Type 0 where
  -- capacity, mark, lap
  constants : ℕ → ℕ → ℕ → Fact
  -- capacity, workers, edition, refusal
  made : ℕ → ℕ → ℕ → ℕ → Fact
  -- refusal and place of the report
  ended : ℕ → ℕ → Fact
  head : ℕ → Fact
  tail : ℕ → Fact
  meter : ℕ → Fact
  -- index, stamp
  stamped : ℕ → ℕ → Fact
  -- index, value
  valued : ℕ → ℕ → Fact
  -- worker, where it stands
  stands : ℕ → Place → Fact
  -- worker, its exchanges lost because the words differed and by the schedule
  lost : ℕ → ℕ → ℕ → Fact
  contents : List ℕ → Fact
  stock : ℕ → Fact

-- The same fact as the definitions have it, of a run's report and history.
unfoldable pub found : Ran → List Event → Fact → Fact
found r h (constants c m l) = constants c (mark_of c) (lap_of c)
found r h (made c w e n) = made c w e (make_of c w e).refusal
found r h (ended n k) = ended r.refusal r.place
found r h (head n) = head r.machine.ring.head.0
found r h (tail n) = tail r.machine.ring.tail.0
found r h (meter n) = meter r.machine.meter
found r h (stamped i n) = stamped i (get_or r.machine.ring.slots i (slot 0 0)).stamp.0
found r h (valued i n) = valued i (get_or r.machine.ring.slots i (slot 0 0)).value
found r h (stands w p) = stands w (place_of r.machine.workers w)
found r h (lost w d f) = lost w (record_of_worker r.machine.workers w).differed (record_of_worker r.machine.workers w).failed
found r h (contents l) = contents (contents_of r.machine)
found r h (stock n) = stock (stock_of (tally_of h untallied))

-- A run: edition, capacity, workers, the schedule from the fresh machine, and what the text says of it.
pub record Row : Type 0 where
  pub edition : ℕ
  pub capacity : ℕ
  pub workers : ℕ
  pub schedule : List ℕ
  pub facts : List Fact

abbrev pub row_in : ℕ → ℕ → ℕ → List ℕ → List Fact → Row
row_in e c w s l = record { edition = e; capacity = c; workers = w; schedule = s; facts = l }

abbrev pub row : ℕ → ℕ → List ℕ → List Fact → Row
row = row_in 1

unfoldable pub found_in : Row → List Fact
found_in r =
    map
    (found (run_of (fresh_of r.capacity r.workers r.edition) r.schedule)
    (history_of (fresh_of r.capacity r.workers r.edition) r.schedule))
    r.facts

abbrev entry : ℕ → ℕ → ℕ → List ℕ
entry worker code item = (16 * worker + code) ∷ item ∷ []

abbrev push : ℕ → ℕ → List ℕ
push item n = entry 0 0 item ++ acts 0 n

abbrev pop : ℕ → List ℕ
pop n = entry 0 2 0 ++ acts 0 n

-- B: capacity 2, push 5. C: then push 6; pop; push 7; push 8.
abbrev run_b : List ℕ
run_b = push 5 5

abbrev runC₁ : List ℕ
runC₁ = run_b ++ push 6 5

abbrev runC₂ : List ℕ
runC₂ = runC₁ ++ pop 5

abbrev runC₃ : List ℕ
runC₃ = runC₂ ++ push 7 5

abbrev run_c : List ℕ
run_c = runC₃ ++ push 8 3

-- D: C, then force_push 8. E: D, then close; push; pops.
abbrev run_d : List ℕ
run_d = run_c ++ (entry 0 1 8 ++ acts 0 6)

abbrev runE₁ : List ℕ
runE₁ = run_d ++ (entry 0 6 0 ++ acts 0 1)

abbrev runE₂ : List ℕ
runE₂ = runE₁ ++ push 9 1

abbrev runE₃ : List ℕ
runE₃ = runE₂ ++ pop 5

abbrev runE₄ : List ℕ
runE₄ = runE₃ ++ pop 5

abbrev run_e : List ℕ
run_e = runE₄ ++ pop 3

-- F: capacity 1, holding 7. Worker 0 does P1, P2 of force_push 8; worker 1 closes; worker 0 ends.
abbrev runF₁ : List ℕ
runF₁ = push 7 5

abbrev pub past_load : List ℕ
past_load = runF₁ ++ (entry 0 1 8 ++ acts 0 2)

abbrev pub closed_f : List ℕ
closed_f = past_load ++ (entry 1 6 0 ++ acts 1 1)

abbrev pub case_f : List ℕ
case_f = closed_f ++ acts 0 4

abbrev run_f : List ℕ
run_f = case_f ++ (entry 1 7 0 ++ acts 1 1)

-- G: as F without close, stopped before F7. (Stock by document 02, item 4.)
abbrev run_g : List ℕ
run_g = past_load ++ acts 0 1

-- Row by row: A to H.
unfoldable pub table : List Row
table =
    row 1 1 [] (constants 1 2 4 ∷ constants 2 4 8 ∷ constants 3 4 8 ∷ constants 4 8 16 ∷ constants 255 256 512 ∷ constants 256 512 1024 ∷ constants 1024 2048 4096 ∷ [])
    ∷ row 2 1 run_b (ended 0 6 ∷ head 0 ∷ tail 1 ∷ stamped 0 1 ∷ valued 0 5 ∷ stamped 1 1 ∷ valued 1 0 ∷ meter 5 ∷ stands 0 (Idle Pushed) ∷ lost 0 0 0 ∷ contents (5 ∷ []) ∷ [])
    ∷ row 2 1 runC₁ (tail 8 ∷ stamped 1 2 ∷ [])
    ∷ row 2 1 runC₂ (stands 0 (Idle (Popped 5)) ∷ head 1 ∷ stamped 0 8 ∷ [])
    ∷ row 2 1 runC₃ (tail 9 ∷ stamped 0 9 ∷ [])
    ∷ row 2 1 run_c (stands 0 (Idle (Full 8)) ∷ meter (5 + 5 + 5 + 5 + 3) ∷ [])
    ∷ row 2 1 run_d (stands 0 (Idle (Displaced 6)) ∷ head 8 ∷ tail 16 ∷ stamped 1 10 ∷ contents (7 ∷ 8 ∷ []) ∷ meter (5 + 5 + 5 + 5 + 3 + 6) ∷ [])
    ∷ row 2 1 runE₁ (stands 0 (Idle Yes) ∷ tail 20 ∷ [])
    ∷ row 2 1 runE₂ (stands 0 (Idle (Closed 9)) ∷ [])
    ∷ row 2 1 runE₃ (stands 0 (Idle (Popped 7)) ∷ [])
    ∷ row 2 1 runE₄ (stands 0 (Idle (Popped 8)) ∷ [])
    ∷ row 2 1 run_e (stands 0 (Idle PopClosed) ∷ head 16 ∷ stamped 0 16 ∷ stamped 1 17 ∷ [])
    ∷ row 1 2 runF₁ (tail 4 ∷ stamped 0 1 ∷ contents (7 ∷ []) ∷ [])
    ∷ row 1 2 closed_f (stands 1 (Idle Yes) ∷ tail 6 ∷ [])
    ∷ row 1 2 case_f (stands 0 (Idle (Displaced 7)) ∷ head 4 ∷ tail 8 ∷ stamped 0 5 ∷ [])
    ∷ row 1 2 run_f (stands 1 (Idle No) ∷ [])
    ∷ row_in 2 1 2 closed_f (stands 1 (Idle Yes) ∷ tail 6 ∷ [])
    ∷ row_in 2 1 2 case_f (stands 0 (Idle (Displaced 7)) ∷ head 4 ∷ tail 10 ∷ stamped 0 5 ∷ contents (8 ∷ []) ∷ [])
    ∷ row_in 2 1 2 run_f (stands 1 (Idle Yes) ∷ [])
    ∷ row 1 2 run_g (head 4 ∷ tail 4 ∷ stock 1 ∷ [])
    ∷ row 1 2 (run_g ++ (entry 1 3 0 ++ acts 1 3)) (stands 1 (Idle (Len 0)) ∷ [])
    ∷ row 1 2 (run_g ++ (entry 1 4 0 ++ acts 1 2)) (stands 1 (Idle Yes) ∷ [])
    ∷ row 1 2 (run_g ++ entry 1 2 0) (stands 1 O1 ∷ [])
    ∷ row 1 2 (run_g ++ (entry 1 2 0 ++ acts 1 1)) (stands 1 (O2 (stamp 4)) ∷ [])
    ∷ row 1 2 (run_g ++ (entry 1 2 0 ++ acts 1 2)) (stands 1 O1 ∷ [])
    ∷ row 1 1 [] (made 0 1 1 1 ∷ made 1025 1 1 1 ∷ made 1 1 1 0 ∷ made 1024 1 1 0 ∷ made 1 0 1 2 ∷ made 1 17 1 2 ∷ made 1 1 1 0 ∷ made 1 16 1 0 ∷ [])
    -- 18, after 1 and 2: any edition but 1 or 2
    ∷ row 1 1 [] (made 1 1 0 18 ∷ made 1 1 3 18 ∷ made 1 1 2 0 ∷ made 0 1 3 1 ∷ made 1 17 3 2 ∷ [])
    ∷ []

-- The definitions give them.
abbrev pub EightRuns : Type 0
EightRuns = map found_in table ≡ map (λ (r : Row). r.facts) table
