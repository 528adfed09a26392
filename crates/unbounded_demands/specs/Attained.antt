-- The table of the most acts that a push and a pop need alone: for each place a schedule after which worker 0 stands there, worker 1 is idle and worker 2 has only begun is_full, and the call
-- needs exactly `push_most` or `pop_most` acts more. What is said of it: `AttainedBy` of Demands.antt, proved in crate unbounded_proof_attained. (Worker 2 waits for nobody and nobody for it;
-- with a worker busy no act asks for `Drop`'s walk, which would be long to compute.)
use Rattle.std.specs.Prelude.{ℕ, zero, suc, ◌+◌, ◌*◌, Bool, true, cond, not, List, [], ◌∷◌, ◌++◌}
use Rattle.unbounded_words.specs.declared.Pointer.TheVariants.{None, To}
use Rattle.unbounded_words.specs.Words.{sizes, index}
use Rattle.unbounded_places.specs.declared.Answer.TheVariants.{Pushed}
use Rattle.unbounded_places.specs.declared.Place.{Place}
use Rattle.unbounded_places.specs.declared.Place.TheVariants.{U1, U2, U3, U4, U5, U6, U7, U8, U9, U10, U11, U12, U13, U14, V1, V2, V3, V4, V5, V6, V7, V8, V9, V10, V11, V12, V13, V14, V15}
use Rattle.unbounded_places.specs.Places.{view_of}
use Rattle.unbounded_machine.specs.declared.Machine.{Machine}
use Rattle.unbounded_machine.specs.Machine.{fresh_of, place_of}
use Rattle.unbounded_machine.specs.Turn.{Table, turn_with}
use Rattle.unbounded_machine.specs.Run.{run_with}
use Rattle.unbounded_demands.specs.Notions.{acts}
use Rattle.unbounded_demands.specs.Waiting.{pop_most, push_most}

-- Acts of worker 0 alone, code 8, until it is idle, by a table of what an act does at each place; no more than so many are tried.
unfoldable pub needed : Table → ℕ → Machine → ℕ
needed table zero m = 0
needed table (suc more) m = cond (view_of sizes (place_of m.workers 0)).busy (1 + needed table more (turn_with sizes table m 8 0).machine) 0

-- Where the schedule leaves worker 0, the most acts from there, those that the call then needs, and whether worker 1 is idle.
pub record Sight : Type 0 where
  pub place : Place
  pub most : ℕ
  pub acts_needed : ℕ
  pub alone : Bool

unfoldable pub sight_of : Table → Machine → Sight
sight_of table m =
    record {
      place = place_of m.workers 0;
      most = pop_most (place_of m.workers 0) + push_most (place_of m.workers 0);
      acts_needed = needed table 50 m;
      alone = not (view_of sizes (place_of m.workers 1)).busy;
    }

abbrev pub exactly : Place → ℕ → Sight
exactly p n = record { place = p; most = n; acts_needed = n; alone = true }

-- A schedule for three workers, after the third has begun is_full; the place and the number.
pub record Case : Type 0 where
  pub schedule : List ℕ
  pub place : Place
  pub number : ℕ

abbrev needs : List ℕ → Place → ℕ → Case
needs s p n = record { schedule = s; place = p; number = n }

-- (Code 5 of worker 2.)
abbrev pub seen_by : Table → Case → Sight
seen_by table c = sight_of table (run_with (turn_with sizes table) (fresh_of sizes 3) 0 (37 ∷ 0 ∷ c.schedule)).machine

-- Worker w begins the call of this code and item, and does so many acts of it; worker 0 does of its call.
abbrev does : ℕ → ℕ → ℕ → ℕ → List ℕ
does w code item n = (16 * w + code) ∷ item ∷ acts w n

abbrev its : ℕ → ℕ → List ℕ
its code n = does 0 code 0 n

-- Worker 1 pushes so many times, in a block that has room; pops so many times; and worker w pops so many times where head is marked.
unfoldable pub pushes : ℕ → List ℕ
pushes zero = []
pushes (suc n) = does 1 0 5 5 ++ pushes n

unfoldable pub pops : ℕ → List ℕ
pops zero = []
pops (suc n) = does 1 2 0 7 ++ pops n

unfoldable pub marked_pops : ℕ → ℕ → List ℕ
marked_pops w zero = []
marked_pops w (suc n) = does w 2 0 6 ++ marked_pops w n

-- Worker 1 pushes once, which makes the first block, and so many times; its push of a block's last slot; all slots but the last pushed and popped, and all of those but one popped.
abbrev pushed : ℕ → List ℕ
pushed n = does 1 0 5 8 ++ pushes n

abbrev last_pushed : List ℕ
last_pushed = does 1 0 6 9

abbrev emptied : List ℕ
emptied = pushed 29 ++ pops 30

abbrev almost_emptied : List ℕ
almost_emptied = pushed 29 ++ pops 29

-- Pops that have claimed nothing, with a word that is old; in the block's last slot; at its end. Pushes likewise.
unfoldable pub old_pops : List Case
old_pops =
    needs (emptied ++ last_pushed ++ its 2 0) V1 41
    ∷ needs ((almost_emptied ++ its 2 1) ++ (pops 1 ++ last_pushed)) (V2 (index 58)) 43
    ∷ needs ((almost_emptied ++ its 2 2) ++ (pops 1 ++ last_pushed)) (V3 (index 58) (To 0)) 42
    ∷ needs ((almost_emptied ++ its 2 3) ++ (pops 1 ++ last_pushed)) (V4 (index 58) (To 0) (index 60)) 41
    ∷ needs ((pushed 29 ++ pops 28 ++ its 2 3) ++ (pops 1 ++ acts 0 1 ++ pops 1 ++ last_pushed)) (V5 (index 58)) 43
    ∷ []

unfoldable pub crossing_pops : List Case
crossing_pops =
    needs (emptied ++ last_pushed ++ its 2 4) (V6 (index 60) (To 0) (index 63)) 37
    ∷ needs (emptied ++ last_pushed ++ its 2 5) (V7 (index 60) (To 0) (index 63) (To 1)) 36
    ∷ needs (emptied ++ last_pushed ++ its 2 6) (V8 (index 60) (To 0) (To 1) (index 64)) 35
    ∷ needs (emptied ++ last_pushed ++ its 2 7) (V9 (index 60) (To 0) (index 64)) 34
    ∷ needs (emptied ++ last_pushed ++ its 2 8) (V10 (index 60) (To 0)) 33
    ∷ needs (emptied ++ last_pushed ++ its 2 9) (V11 (index 60) (To 0)) 32
    ∷ []

unfoldable pub ending_pops : List Case
ending_pops =
    needs ((pushed 29 ++ last_pushed ++ its 2 6) ++ (marked_pops 1 29 ++ does 1 2 0 11)) (V12 (index 0) (To 0) 5) 31
    ∷ needs (emptied ++ last_pushed ++ its 2 10) (V13 (To 0) 0 6) 31
    ∷ needs ((pushed 29 ++ last_pushed ++ does 1 2 0 6) ++ (marked_pops 0 29 ++ its 2 10 ++ acts 1 1)) (V14 (To 0) 0 6) 31
    ∷ needs (emptied ++ last_pushed ++ its 2 40) (V15 (To 0) 6) 1
    ∷ []

unfoldable pub beginning_pushes : List Case
beginning_pushes =
    needs (pushed 29 ++ its 0 0) (U1 None 0) 9
    ∷ needs ((pushed 28 ++ its 0 1) ++ pushes 1) (U2 None (index 58) 0) 10
    ∷ needs ((pushed 29 ++ its 0 2) ++ (last_pushed ++ pushes 30)) (U3 (index 60) (To 0) 0) 9
    ∷ needs (its 0 2 ++ pushed 29) (U4 None (index 0) 0) 10
    ∷ needs (its 0 3 ++ pushed 29) (U5 None (index 0) (To 0) 0) 9
    ∷ []

unfoldable pub going_pushes : List Case
going_pushes =
    needs (its 0 4 ++ pushes 30) (U6 None (index 0) (To 0) 0) 10
    ∷ needs ((pushed 28 ++ its 0 2) ++ pushes 1) (U7 None (index 58) (To 0) 0) 9
    ∷ needs ((pushed 27 ++ its 0 2) ++ (pushes 1 ++ acts 0 1 ++ pushes 1)) (U8 None (index 58) 0) 10
    ∷ needs (pushed 29 ++ its 0 4) (U9 (To 1) (index 60) (To 0) 0) 5
    ∷ needs (pushed 29 ++ its 0 5) (U10 (To 1) (index 60) (To 0) 0) 4
    ∷ []

unfoldable pub ending_pushes : List Case
ending_pushes =
    needs (pushed 29 ++ its 0 6) (U11 (To 1) (index 60) (To 0) 0) 3
    ∷ needs ((pushed 29 ++ its 0 3) ++ (last_pushed ++ acts 0 3)) (U12 (To 1) (index 64) (To 2) 0) 3
    ∷ needs ((pushed 29 ++ its 0 3) ++ (last_pushed ++ acts 0 4)) (U13 (To 1) (index 64) (To 2)) 2
    ∷ needs ((pushed 29 ++ its 0 3) ++ (last_pushed ++ acts 0 5)) (U14 (To 1) Pushed) 1
    ∷ []
