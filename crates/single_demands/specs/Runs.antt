-- Runs of the one-slot queue, as one table: push, pop, push, Full, force_push Displaced, close, Closed; what the source does and a plain
-- queue does not; what is foretold and then answered; makings.
use Rattle.std.specs.Prelude.{ℕ, ◌+◌, ◌*◌, Bool, true, false, ◌≡◌, List, [], ◌∷◌, ◌++◌, map, Result, Ok}
use Rattle.queue_schedules.specs.Alone.{acts}
use Rattle.single_words.specs.Words.{state}
use Rattle.single_places.specs.declared.Place.{Place}
use Rattle.single_places.specs.declared.Place.TheVariants.{Idle, A2, B1, B2, B4, B5, C1, C2, C3}
use Rattle.single_places.specs.declared.Answer.{Answer}
use Rattle.single_places.specs.declared.Answer.TheVariants.{Pushed, Full, Closed, Displaced, Popped, Empty, PopClosed, Len, Yes, No}
use Rattle.single_machine.specs.declared.Ran.{Ran}
use Rattle.single_machine.specs.declared.Event.{Event}
use Rattle.single_machine.specs.Machine.{fresh_of, place_of}
use Rattle.single_machine.specs.Contents.{contents_of, capacity_of}
use Rattle.single_machine.specs.Run.{run_of}
use Rattle.single_machine.specs.History.{history_of}
use Rattle.single.specs.Single.{make_of}
use Rattle.single_demands.specs.Notions.{waiting, closed_by}
use Rattle.single_demands.specs.Foretold.{foretold}

-- What the text says of a run.
pub data Fact : Type 0 where
  -- workers, refusal
  made : ℕ → ℕ → Fact
  -- refusal and place of the report
  ended : ℕ → ℕ → Fact
  word : ℕ → Fact
  value : ℕ → Fact
  meter : ℕ → Fact
  -- worker, where it stands
  stands : ℕ → Place → Fact
  -- worker, the answer foretold
  foretells : ℕ → Answer → Fact
  contents : List ℕ → Fact
  capacity : Result ℕ ℕ → Fact
  -- of the history: the item that waits, and whether a close was made
  waits : List ℕ → Fact
  shut : Bool → Fact

-- The same fact as the definitions have it, of a run's report and history.
unfoldable pub found : Ran → List Event → Fact → Fact
found r h (made w n) = made w (make_of w).refusal
found r h (ended n k) = ended r.refusal r.place
found r h (word n) = word r.machine.single.state.0
found r h (value n) = value r.machine.single.value
found r h (meter n) = meter r.machine.meter
found r h (stands w p) = stands w (place_of r.machine.workers w)
found r h (foretells w a) = foretells w (foretold r.machine w)
found r h (contents l) = contents (contents_of r.machine)
found r h (capacity t) = capacity (capacity_of r.machine)
found r h (waits l) = waits (waiting h)
found r h (shut b) = shut (closed_by h)

-- A run: the schedule from a fresh machine with three workers, and what the text says of it.
pub record Row : Type 0 where
  pub schedule : List ℕ
  pub facts : List Fact

abbrev pub row : List ℕ → List Fact → Row
row s l = record { schedule = s; facts = l }

unfoldable pub found_in : Row → List Fact
found_in r = map (found (run_of (fresh_of 3) r.schedule) (history_of (fresh_of 3) r.schedule)) r.facts

-- Worker w begins the call of this code and item, and does so many acts of it.
abbrev does : ℕ → ℕ → ℕ → ℕ → List ℕ
does w code item n = (16 * w + code) ∷ item ∷ acts w n

-- ---- one worker: push 5; pop; push 6; push 7; force_push 8; close; push 9; force_push 9; pop; pop
abbrev run₁ : List ℕ
run₁ = does 0 0 5 3

abbrev run₂ : List ℕ
run₂ = run₁ ++ does 0 2 0 3

abbrev run₃ : List ℕ
run₃ = run₂ ++ does 0 0 6 3

abbrev run₄ : List ℕ
run₄ = run₃ ++ does 0 0 7 1

abbrev run₅ : List ℕ
run₅ = run₄ ++ does 0 1 8 4

abbrev run₆ : List ℕ
run₆ = run₅ ++ does 0 6 0 1

abbrev run₇ : List ℕ
run₇ = run₆ ++ does 0 0 9 1

abbrev run₈ : List ℕ
run₈ = run₇ ++ does 0 1 9 1

abbrev run₉ : List ℕ
run₉ = run₈ ++ does 0 2 0 4

abbrev run₁₀ : List ℕ
run₁₀ = run₉ ++ does 0 2 0 1

-- ---- worker 0's pop has taken 5 and not let go
abbrev popping : List ℕ
popping = does 0 0 5 3 ++ does 0 2 0 1

-- ---- worker 0's push has the slot and has not let go
abbrev pushing : List ℕ
pushing = does 0 0 5 1

unfoldable pub table : List Row
table =
    row [] (ended 0 0 ∷ word 0 ∷ value 0 ∷ meter 0 ∷ contents [] ∷ capacity (Ok 1) ∷ waits [] ∷ shut false ∷ [])
    ∷ row run₁ (ended 0 4 ∷ stands 0 (Idle Pushed) ∷ word 2 ∷ value 5 ∷ meter 3 ∷ contents (5 ∷ []) ∷ waits (5 ∷ []) ∷ [])
    ∷ row run₂ (stands 0 (Idle (Popped 5)) ∷ word 0 ∷ value 5 ∷ meter 6 ∷ contents [] ∷ waits [] ∷ [])
    ∷ row run₃ (stands 0 (Idle Pushed) ∷ word 2 ∷ contents (6 ∷ []) ∷ [])
    ∷ row run₄ (stands 0 (Idle (Full 7)) ∷ word 2 ∷ meter 10 ∷ contents (6 ∷ []) ∷ [])
    ∷ row run₅ (stands 0 (Idle (Displaced 6)) ∷ word 2 ∷ value 8 ∷ meter 14 ∷ contents (8 ∷ []) ∷ waits (8 ∷ []) ∷ shut false ∷ [])
    ∷ row run₆ (stands 0 (Idle Yes) ∷ word 6 ∷ contents (8 ∷ []) ∷ shut true ∷ [])
    ∷ row run₇ (stands 0 (Idle (Closed 9)) ∷ word 6 ∷ [])
    ∷ row run₈ (stands 0 (Idle (Closed 9)) ∷ word 6 ∷ [])
    ∷ row run₉ (stands 0 (Idle (Popped 8)) ∷ word 4 ∷ meter 21 ∷ contents [] ∷ waits [] ∷ [])
    ∷ row run₁₀ (ended 0 (10 + 22) ∷ stands 0 (Idle PopClosed) ∷ word 4 ∷ meter 22 ∷ [])
    -- force_push act by act: on an empty queue; on one that holds an item, where its first word is out of date
    ∷ row (does 0 1 8 1) (stands 0 (B2 8) ∷ word 3 ∷ waits (8 ∷ []) ∷ [])
    ∷ row (does 0 0 5 3 ++ does 1 1 8 1) (stands 1 (B1 (state 2) 8) ∷ word 2 ∷ waits (5 ∷ []) ∷ [])
    ∷ row (does 0 0 5 3 ++ does 1 1 8 2) (stands 1 (B4 8) ∷ word 3 ∷ value 5 ∷ waits (8 ∷ []) ∷ [])
    ∷ row (does 0 0 5 3 ++ does 1 1 8 3) (stands 1 (B5 5) ∷ word 3 ∷ value 8 ∷ [])
    -- pop act by act
    ∷ row popping (stands 0 C2 ∷ word 1 ∷ value 5 ∷ waits [] ∷ [])
    ∷ row (popping ++ acts 0 1) (stands 0 (C3 5) ∷ word 1 ∷ [])
    -- a pop that finds a closed queue with an item tries again
    ∷ row (does 0 0 5 3 ++ does 1 6 0 1 ++ does 0 2 0 1) (stands 0 (C1 (state 6)) ∷ word 6 ∷ [])
    ∷ row (does 0 0 5 3 ++ does 1 6 0 1 ++ does 0 2 0 2) (stands 0 C2 ∷ word 5 ∷ [])
    -- kept: pop answers Empty while another's pop is in progress, and Closed once closed, although that reader has not let go
    ∷ row (popping ++ does 1 2 0 1) (stands 0 C2 ∷ stands 1 (Idle Empty) ∷ word 1 ∷ [])
    ∷ row (popping ++ does 2 6 0 1 ++ does 1 2 0 1) (stands 0 C2 ∷ stands 2 (Idle Yes) ∷ stands 1 (Idle PopClosed) ∷ word 5 ∷ [])
    -- kept: push answers Full while a pop is in progress, although nothing waits
    ∷ row (popping ++ does 1 0 6 1) (stands 0 C2 ∷ stands 1 (Idle (Full 6)) ∷ waits [] ∷ [])
    -- beside them: len counts an item that is yet to be written; pop and force_push wait for the writer
    ∷ row (pushing ++ does 1 3 0 1) (stands 0 (A2 5) ∷ stands 1 (Idle (Len 1)) ∷ value 0 ∷ waits (5 ∷ []) ∷ [])
    ∷ row (pushing ++ does 1 2 0 2) (stands 0 (A2 5) ∷ stands 1 (C1 (state 2)) ∷ word 3 ∷ [])
    ∷ row (pushing ++ does 1 1 8 2) (stands 0 (A2 5) ∷ stands 1 (B1 (state 2) 8) ∷ word 3 ∷ [])
    -- and a close in the midst of them holds
    ∷ row (pushing ++ does 1 6 0 1 ++ acts 0 2) (stands 0 (Idle Pushed) ∷ stands 1 (Idle Yes) ∷ word 6 ∷ contents (5 ∷ []) ∷ shut true ∷ [])
    -- what is foretold of a call is what it then answers: a word that is out of date counts for nothing
    ∷ row (does 0 0 5 0) (foretells 0 Pushed ∷ [])
    ∷ row (run₃ ++ does 0 0 7 0) (foretells 0 (Full 7) ∷ [])
    ∷ row (run₆ ++ does 0 0 9 0) (foretells 0 (Closed 9) ∷ [])
    ∷ row (run₄ ++ does 0 1 8 0) (foretells 0 (Displaced 6) ∷ [])
    ∷ row (run₄ ++ does 0 1 8 2) (foretells 0 (Displaced 6) ∷ [])
    ∷ row (run₆ ++ does 0 1 9 0) (foretells 0 (Closed 9) ∷ [])
    ∷ row (run₈ ++ does 0 2 0 0) (foretells 0 (Popped 8) ∷ [])
    ∷ row (run₈ ++ does 0 2 0 2) (foretells 0 (Popped 8) ∷ [])
    ∷ row (run₉ ++ does 0 2 0 0) (foretells 0 PopClosed ∷ [])
    ∷ row (does 0 2 0 0) (foretells 0 Empty ∷ [])
    ∷ row (run₁ ++ does 0 3 0 0) (foretells 0 (Len 1) ∷ [])
    ∷ row (run₁ ++ does 0 4 0 0) (foretells 0 No ∷ [])
    ∷ row (run₁ ++ does 0 5 0 0) (foretells 0 Yes ∷ [])
    ∷ row (run₁ ++ does 0 6 0 0) (foretells 0 Yes ∷ [])
    ∷ row (run₁ ++ does 0 7 0 0) (foretells 0 No ∷ [])
    -- code 9 is always refusal 8 where a worker is busy; makings
    ∷ row (does 0 2 0 0 ++ 9 ∷ 0 ∷ []) (ended 8 1 ∷ stands 0 (C1 (state 2)) ∷ meter 0 ∷ [])
    ∷ row [] (made 0 2 ∷ made 1 0 ∷ made 16 0 ∷ made 17 2 ∷ [])
    ∷ []

-- The definitions give them.
abbrev pub RunsHold : Type 0
RunsHold = map found_in table ≡ map (λ (r : Row). r.facts) table
