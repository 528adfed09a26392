-- The table of causes: for each a schedule after which a call goes back for it alone. What is said of it: `EachNeeded` of Demands.antt, proved in
-- proofs/Retries.antt.
use Rattle.std.specs.Prelude.{ℕ, ◌+◌, ◌*◌, Bool, true, false, List, [], ◌∷◌, ◌++◌}
use Rattle.bounded_machine.specs.declared.Event.{Event}
use Rattle.bounded_machine.specs.Machine.{fresh_of}
use Rattle.bounded_machine.specs.History.{history_of}
use Rattle.bounded_causes.specs.declared.Causes.{Causes}
use Rattle.bounded_demands.specs.Notions.{acts, goes_back_at}

abbrev pub no_cause : Causes
no_cause = record { schedule = false; own = false; other = false; hand = false }

abbrev pub only_schedule : Causes
only_schedule = record { schedule = true; own = false; other = false; hand = false }

abbrev pub only_own : Causes
only_own = record { schedule = false; own = true; other = false; hand = false }

abbrev pub only_other : Causes
only_other = record { schedule = false; own = false; other = true; hand = false }

abbrev pub only_hand : Causes
only_hand = record { schedule = false; own = false; other = false; hand = true }

-- Capacity, the schedule from a fresh machine with two workers, and the causes at its last act.
pub record Retry : Type 0 where
  pub capacity : ℕ
  pub schedule : List ℕ
  pub causes : Causes

abbrev retry : ℕ → List ℕ → Causes → Retry
retry c s k = record { capacity = c; schedule = s; causes = k }

-- Whether the last act goes back, and its causes.
pub record Last : Type 0 where
  pub back : Bool
  pub causes : Causes

abbrev pub back_by : Causes → Last
back_by k = record { back = true; causes = k }

unfoldable pub last_of : (List Event → Event → Causes) → List Event → List Event → Last
last_of name past [] = record { back = false; causes = no_cause }
last_of name past (e ∷ []) = record { back = goes_back_at e; causes = name past e }
last_of name past (e ∷ next ∷ h) = last_of name (past ++ e ∷ []) (next ∷ h)

unfoldable pub last_in : (List Event → Event → Causes) → ℕ → Retry → Last
last_in name edition r = last_of name [] (history_of (fresh_of r.capacity 2 edition) r.schedule)

-- Worker w begins the call of this code and item, and does so many acts of it.
abbrev pub does : ℕ → ℕ → ℕ → ℕ → List ℕ
does w code item n = (16 * w + code) ∷ item ∷ acts w n

-- worker 0's exchange fails
abbrev pub fails : List ℕ
fails = 9 ∷ 0 ∷ []

-- a push loses its P3 to the schedule
abbrev pub failed_push : Retry
failed_push = retry 1 (does 0 0 5 2 ++ fails) only_schedule

-- a push finds at P2 the stamp of a lap that another's push has begun
abbrev pub late_push : Retry
late_push = retry 2 (does 0 0 5 1 ++ does 1 0 6 5 ++ acts 0 1) only_own

-- a push finds the ring full at its stamp load, and another's pop comes before its load of head
abbrev pub emptied_push : Retry
emptied_push = retry 1 (does 1 0 6 5 ++ does 0 0 5 2 ++ does 1 2 0 5 ++ acts 0 1) only_other

-- a pop finds at its stamp load an empty slot that another's push has claimed and not written
abbrev pub early_pop : Retry
early_pop = retry 1 (does 1 0 6 3 ++ does 0 2 0 3) only_hand

-- The first four, and: the push of `late_push`, begun before another's, whose exchange then fails; a push that finds the stamp of a slot in another's hand, which lets go before
-- the load of head; a len of a worker whose last stamp load was beside another's hand, and a close; a pop that loses its exchange to another's, and a force_push to a pop; a pop
-- that finds the stamp of a slot in a force_push's hand (case G).
abbrev pub failed_late_push : Retry
failed_late_push = retry 2 (does 0 0 5 1 ++ does 1 0 6 5 ++ acts 0 3 ++ fails) only_schedule

abbrev pub beside_apop : Retry
beside_apop = retry 1 (does 1 0 6 5 ++ does 1 2 0 3 ++ does 0 0 5 2 ++ acts 1 2 ++ acts 0 1) only_hand

abbrev pub closed_len : Retry
closed_len = retry 2 (does 1 0 6 3 ++ does 0 0 5 5 ++ acts 1 2 ++ does 0 3 0 2 ++ does 1 6 0 1 ++ acts 0 1) only_own

abbrev pub lost_pop : Retry
lost_pop = retry 1 (does 1 0 6 5 ++ does 0 2 0 2 ++ does 1 2 0 5 ++ acts 0 1) only_own

abbrev pub lost_force : Retry
lost_force = retry 1 (does 1 0 6 5 ++ does 0 1 5 2 ++ does 1 2 0 5 ++ acts 0 1) only_other

abbrev pub beside_aforce : Retry
beside_aforce = retry 1 (does 1 0 6 5 ++ does 1 1 7 3 ++ does 0 2 0 2) only_hand

unfoldable pub retries : List Retry
retries = failed_push ∷ late_push ∷ emptied_push ∷ early_pop ∷ failed_late_push ∷ beside_apop ∷ closed_len ∷ lost_pop ∷ lost_force ∷ beside_aforce ∷ []
