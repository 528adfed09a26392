-- "Schedules" of document 01, over any queue's machine: entries one after another, stopping at the first refusal; and the search of item 7
-- of document 02, which comes before the first entry.
use Rattle.std.specs.Prelude.{ℕ, ◌+◌, ◌%◌, Bool, cond, List, [], ◌∷◌, ◌++◌, eqb, length, Option, Some, None}
use Rattle.queue_entries.specs.declared.Entry.{Entry}
use Rattle.queue_entries.specs.declared.Entry.TheVariants.{Unreadable, Asks}
use Rattle.queue_entries.specs.Entries.{entry_of}

-- Where a search stops: at an entry that can't be read.
abbrev pub stops_at : ℕ → Entry → Option ℕ → Option ℕ
stops_at place Unreadable later = Some place
stops_at place (Asks worker order) later = later

-- The search for refusal 9, by a queue's reading of two words: the first such place, the first of these entries being at this place.
unfoldable pub search_by : (ℕ → ℕ → Entry) → ℕ → List ℕ → Option ℕ
search_by reading place [] = None
search_by reading place (first ∷ []) = None
search_by reading place (first ∷ second ∷ rest) = stops_at place (reading first second) (search_by reading (place + 1) rest)

-- A machine M; what an entry gives, D, with its refusal (0 is none) and the machine after it; what an entry of two words makes of a machine.
module _ {M D : Type 0} (refusal : D → ℕ) (machine : D → M) (turn : M → ℕ → ℕ → D) where
  -- R is what a schedule reports, of refusal, place and machine.
  module _ {R : Type 0} (ran : ℕ → ℕ → M → R) where
    -- The entries of so many words, the first of them at this place. One run to its end reports 0 and the count of its entries.
    unfoldable pub run_by : M → ℕ → List ℕ → R
    run_by m place [] = ran 0 place m
    run_by m place (first ∷ []) = ran 0 place m
    run_by m place (first ∷ second ∷ rest) =
        cond (eqb (refusal (turn m first second)) 0)
        (run_by (machine (turn m first second)) (place + 1) rest)
        (ran (refusal (turn m first second)) place m)

    -- If the search finds one, nothing is run.
    abbrev pub searched : M → List ℕ → Option ℕ → R
    searched m s None = run_by m 0 s
    searched m s (Some place) = ran 9 place m

    -- Order: schedule 6, 11, 9, then entry by entry (6 and 11 of the whole: place 0).
    unfoldable pub schedule_by : (M → Bool) → (ℕ → ℕ → Entry) → M → List ℕ → R
    schedule_by broken reading m s =
        cond (broken m) (ran 6 0 m) (cond (eqb (length s % 2) 1) (ran 11 0 m) (searched m s (search_by reading 0 s)))

  -- E is an act of a history. The acts of a schedule's entries, up to the first that is refused.
  module _ {E : Type 0} (acts : M → Entry → M → List E) where
    unfoldable pub history_by : M → List ℕ → List E
    history_by m [] = []
    history_by m (first ∷ []) = []
    history_by m (first ∷ second ∷ rest) =
        cond (eqb (refusal (turn m first second)) 0)
        (acts m (entry_of first second) (machine (turn m first second)) ++ history_by (machine (turn m first second)) rest)
        []
