-- The table of demand 3's numbers: for each place a schedule after which worker 0 stands there, every other worker is idle, and
-- the call needs exactly `most_of` acts more. What is said of it: `Attained` of Demands.antt, proved in proofs/Attained.antt.
use Rattle.std.specs.Prelude.{ℕ, zero, suc, ◌+◌, ◌*◌, Bool, true, cond, not, List, [], ◌∷◌, ◌++◌, eqb}
use Rattle.queue_entries.specs.Limits.{workers_most, all}
use Rattle.queue_schedules.specs.Alone.{acts}
use Rattle.single_words.specs.Words.{state}
use Rattle.single_places.specs.declared.Place.{Place}
use Rattle.single_places.specs.declared.Place.TheVariants.{A1, A2, A3, B1, B2, B3, B4, B5, C1, C2, C3, Len1, Empty1, Full1, Close1, IsClosed1}
use Rattle.single_places.specs.Places.{view_of}
use Rattle.single_machine.specs.declared.Machine.{Machine}
use Rattle.single_machine.specs.Machine.{fresh_of, place_of}
use Rattle.single_machine.specs.Turn.{turn_of}
use Rattle.single_machine.specs.Run.{run_of}
use Rattle.single_demands.specs.Notions.{most_of}

-- Acts of worker w alone, code 8, until it is idle; no more than so many are tried.
unfoldable pub needed : ℕ → Machine → ℕ → ℕ
needed zero m w = 0
needed (suc more) m w = cond (view_of (place_of m.workers w)).busy (1 + needed more (turn_of m (16 * w + 8) 0).machine w) 0

unfoldable pub others_idle : Machine → ℕ → Bool
others_idle m w = all workers_most 0 (λ (i : ℕ). cond (eqb i w) true (not (view_of (place_of m.workers i)).busy))

-- The refusal of the schedule, where it leaves worker 0, the most acts from there, the acts that this call then needs, and
-- whether all others are idle.
pub record Sight : Type 0 where
  pub refusal : ℕ
  pub place : Place
  pub most : ℕ
  pub acts_needed : ℕ
  pub alone : Bool

unfoldable pub sight_of : ℕ → Machine → Sight
sight_of refusal m =
    record {
      refusal = refusal;
      place = place_of m.workers 0;
      most = most_of (place_of m.workers 0);
      acts_needed = needed 9 m 0;
      alone = others_idle m 0;
    }

abbrev pub exactly : Place → ℕ → Sight
exactly p n = record { refusal = 0; place = p; most = n; acts_needed = n; alone = true }

-- The schedule from a fresh machine with two workers, the place and the number.
pub record Case : Type 0 where
  pub schedule : List ℕ
  pub place : Place
  pub number : ℕ

abbrev needs : List ℕ → Place → ℕ → Case
needs s p n = record { schedule = s; place = p; number = n }

unfoldable pub seen_in : Case → Sight
seen_in r = sight_of (run_of (fresh_of 2) r.schedule).refusal (run_of (fresh_of 2) r.schedule).machine

-- Worker 0 begins the call of a code and does so many acts of it.
abbrev its : ℕ → ℕ → List ℕ
its code n = code ∷ 0 ∷ acts 0 n

-- Worker 1 pushes 7, or closes, from beginning to end.
abbrev pushes : List ℕ
pushes = 16 ∷ 7 ∷ acts 1 3

abbrev closes : List ℕ
closes = 22 ∷ 0 ∷ acts 1 1

-- By call, in the codes' order: push at most 3, force_push 4, pop 4, the lookers 1.
unfoldable pub attained : List Case
attained =
    needs (its 0 0) (A1 0) 3
    ∷ needs (its 0 1) (A2 0) 2
    ∷ needs (its 0 2) A3 1
    ∷ needs (pushes ++ its 1 0) (B1 (state 0) 0) 4
    ∷ needs (its 1 1) (B2 0) 2
    ∷ needs (its 1 2) B3 1
    ∷ needs (pushes ++ its 1 2) (B4 0) 2
    ∷ needs (pushes ++ its 1 3) (B5 7) 1
    ∷ needs (pushes ++ closes ++ its 2 0) (C1 (state 2)) 4
    ∷ needs (pushes ++ its 2 1) C2 2
    ∷ needs (pushes ++ its 2 2) (C3 7) 1
    ∷ needs (its 3 0) Len1 1
    ∷ needs (its 4 0) Empty1 1
    ∷ needs (its 5 0) Full1 1
    ∷ needs (its 6 0) Close1 1
    ∷ needs (its 7 0) IsClosed1 1
    ∷ []
