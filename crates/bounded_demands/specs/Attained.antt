-- The table of demand 3's numbers: for each place a schedule after which worker 0 stands there, every other worker is idle, and
-- the call needs exactly `most_of` acts more. What is said of it: `Attained` and `AttainedBy` of Demands.antt, proved in proofs/Attained.antt.
use Rattle.std.specs.Prelude.{ℕ, zero, suc, ◌+◌, ◌*◌, Bool, true, false, cond, not, List, [], ◌∷◌, ◌++◌, eqb}
use Rattle.queue_entries.specs.Limits.{workers_most, all}
use Rattle.bounded_words.specs.declared.Width.TheVariants.{SixtyFour}
use Rattle.bounded_words.specs.Words.{stamp}
use Rattle.bounded_places.specs.declared.Kind.TheVariants.{Push, Force}
use Rattle.bounded_places.specs.declared.Place.{Place}
use Rattle.bounded_places.specs.declared.Place.TheVariants.{P1, P2, P3, P4, P5, P6, F6, F7, F8, F9, O1, O2, O3, O4, O5, O6, Len1, Len2, Len3, Empty1, Empty2, Full1, Full2, Close1, IsClosed1}
use Rattle.bounded_places.specs.Places.{view_of}
use Rattle.bounded_acts.specs.Acts.{act_of}
use Rattle.bounded_machine.specs.declared.Machine.{Machine}
use Rattle.bounded_machine.specs.Machine.{fresh_of, place_of}
use Rattle.bounded_machine.specs.Turn.{Table, turn_of_by}
use Rattle.bounded_machine.specs.Run.{run_of_by}
use Rattle.bounded_demands.specs.Notions.{acts, most_of, most_beside}

-- Acts of worker w alone, code 8, until it is idle, by a table of what an act does at each place; no more than so many are tried.
unfoldable pub needed : Table → ℕ → Machine → ℕ → ℕ
needed table zero m w = 0
needed table (suc more) m w = cond (view_of (place_of m.workers w)).busy (1 + needed table more (turn_of_by table m (16 * w + 8) 0).machine w) 0

unfoldable pub others_idle : Machine → ℕ → Bool
others_idle m w = all workers_most 0 (λ (i : ℕ). cond (eqb i w) true (not (view_of (place_of m.workers i)).busy))

-- The refusal of the schedule, where it leaves worker 0, the most acts from there, the acts that this call then needs, and
-- whether all others are idle.
pub record Sight : Type 0 where
  pub refusal : ℕ
  pub place : Place
  pub most : ℕ
  pub acts_needed : ℕ
  pub alone : Bool

unfoldable pub sight_of : Table → ℕ → Machine → Sight
sight_of table refusal m =
    record {
      refusal = refusal;
      place = place_of m.workers 0;
      most = most_of (place_of m.workers 0);
      acts_needed = needed table 9 m 0;
      alone = others_idle m 0;
    }

abbrev pub exactly : Place → ℕ → Sight
exactly p n = record { refusal = 0; place = p; most = n; acts_needed = n; alone = true }

-- Capacity, the schedule from a fresh machine with two workers, the place and the number.
pub record Case : Type 0 where
  pub capacity : ℕ
  pub schedule : List ℕ
  pub place : Place
  pub number : ℕ

abbrev needs : ℕ → List ℕ → Place → ℕ → Case
needs c s p n = record { capacity = c; schedule = s; place = p; number = n }

-- By this table, in this edition; and by document 01's, in its edition.
unfoldable pub seen_by : Table → ℕ → Case → Sight
seen_by table edition r =
    sight_of table (run_of_by table (fresh_of r.capacity 2 edition) r.schedule).refusal (run_of_by table (fresh_of r.capacity 2 edition) r.schedule).machine

abbrev pub seen_in : Case → Sight
seen_in = seen_by (act_of SixtyFour) 1

-- Worker 0 begins the call of a code and does so many acts of it.
abbrev its : ℕ → ℕ → List ℕ
its code n = code ∷ 0 ∷ acts 0 n

-- Worker 1 pushes, or pops, from beginning to end.
abbrev pushes : List ℕ
pushes = 16 ∷ 7 ∷ acts 1 5

abbrev pops : List ℕ
pops = 18 ∷ 0 ∷ acts 1 5

-- By call, in document 01's order: push at most 6, force_push 7, pop 6, len 5, is_empty 2, is_full 2, close 1, is_closed 1.
unfoldable pub attained : List Case
attained =
    needs 2 (its 0 0) (P1 Push 0) 5
    ∷ needs 2 (its 0 1 ++ pushes) (P2 Push (stamp 0) 0) 6
    ∷ needs 2 (its 0 2 ++ pushes) (P3 Push (stamp 0) 0) 5
    ∷ needs 2 (its 0 3) (P4 (stamp 0) 0) 2
    ∷ needs 2 (its 0 4) (P5 (stamp 0)) 1
    ∷ needs 1 (pushes ++ its 0 2 ++ pops) (P6 (stamp 4) 0) 6
    ∷ needs 1 (pushes ++ its 1 0) (P1 Force 0) 6
    ∷ needs 1 (its 1 1 ++ pushes) (P2 Force (stamp 0) 0) 7
    ∷ needs 1 (its 1 2 ++ pushes) (P3 Force (stamp 0) 0) 6
    ∷ needs 1 (pushes ++ its 1 2 ++ pops ++ pushes) (F6 (stamp 4) 0) 7
    ∷ needs 1 (pushes ++ its 1 3) (F7 (stamp 4) 0) 3
    ∷ needs 1 (pushes ++ its 1 4) (F8 (stamp 4) 0) 2
    ∷ needs 1 (pushes ++ its 1 5) (F9 (stamp 4) 7) 1
    ∷ needs 2 (pushes ++ its 2 0) O1 5
    ∷ needs 2 (pushes ++ its 2 1 ++ pops ++ pushes) (O2 (stamp 0)) 6
    ∷ needs 2 (pushes ++ its 2 2 ++ pops ++ pushes) (O3 (stamp 0)) 5
    ∷ needs 2 (pushes ++ its 2 3) (O4 (stamp 0)) 2
    ∷ needs 2 (pushes ++ its 2 4) (O5 (stamp 0) 7) 1
    ∷ needs 2 (its 2 2 ++ pushes) (O6 (stamp 0)) 6
    ∷ needs 2 (its 3 0) Len1 3
    ∷ needs 2 (its 3 1 ++ pushes) (Len2 (stamp 0)) 5
    ∷ needs 2 (its 3 2 ++ pushes) (Len3 (stamp 0) (stamp 0)) 4
    ∷ needs 2 (its 4 0) Empty1 2
    ∷ needs 2 (its 4 1) (Empty2 (stamp 0)) 1
    ∷ needs 2 (its 5 0) Full1 2
    ∷ needs 2 (its 5 1) (Full2 (stamp 0)) 1
    ∷ needs 2 (its 6 0) Close1 1
    ∷ needs 2 (its 7 0) IsClosed1 1
    ∷ []

-- Beside another's hand: the same of three workers, by the numbers of `most_beside`, with worker 1 under way.
unfoldable pub seen_beside : Table → ℕ → Case → Sight
seen_beside table edition r =
    record {
      refusal = (run_of_by table (fresh_of r.capacity 3 edition) r.schedule).refusal;
      place = place_of (run_of_by table (fresh_of r.capacity 3 edition) r.schedule).machine.workers 0;
      most = most_beside (place_of (run_of_by table (fresh_of r.capacity 3 edition) r.schedule).machine.workers 0);
      acts_needed = needed table 9 (run_of_by table (fresh_of r.capacity 3 edition) r.schedule).machine 0;
      alone = others_idle (run_of_by table (fresh_of r.capacity 3 edition) r.schedule).machine 0;
    }

abbrev pub exactly_beside : Place → ℕ → Sight
exactly_beside p n = record { refusal = 0; place = p; most = n; acts_needed = n; alone = false }

-- Worker 1 displaces and stops at F8, the slot in its hand.
abbrev displacing : List ℕ
displacing = 17 ∷ 9 ∷ acts 1 4

-- Worker 2 pops, from beginning to end.
abbrev popped : List ℕ
popped = 34 ∷ 0 ∷ acts 2 5

-- Worker 0 has loaded tail; then worker 1's F7 moves it, with slot 0 in hand, whose stamp still says that it is full a lap behind the old word. Tail points to slot 1: free for the push, full
-- for the force_push.
unfoldable pub attained_beside : List Case
attained_beside =
    needs 2 (pushes ++ pushes ++ its 0 1 ++ displacing ++ popped) (P2 Push (stamp 8) 0) 7
    ∷ needs 2 (pushes ++ pushes ++ its 1 1 ++ displacing) (P2 Force (stamp 8) 0) 8
    ∷ []
