-- One entry: begin or act, with the refusals in document 01's order (begin 6, 9, 3, 4; act 6, 9, 3, 5, 7, 8).
use Rattle.std.specs.Prelude.{ℕ, ◌+◌, false, cond, ltb, set}
use Rattle.queue_entries.specs.declared.Order.{Order}
use Rattle.queue_entries.specs.declared.Entry.{Entry}
use Rattle.queue_entries.specs.declared.Entry.TheVariants.{Unreadable, Asks}
use Rattle.queue_entries.specs.Entries.{entry_of, verdict_for}
use Rattle.queue_entries.specs.declared.Verdict.{Verdict}
use Rattle.queue_entries.specs.declared.Verdict.TheVariants.{Refuse, Start, Move}
use Rattle.single_places.specs.declared.Single.{Single}
use Rattle.single_places.specs.declared.Place.{Place}
use Rattle.single_places.specs.Places.{view_of, begin_of}
use Rattle.single_acts.specs.declared.Acted.{Acted}
use Rattle.single_acts.specs.Acts.{act_of}
use Rattle.single_machine.specs.declared.Machine.{Machine}
use Rattle.single_machine.specs.declared.Did.{Did}
use Rattle.single_machine.specs.Machine.{machine_of, place_of, refused, accepted}

-- What becomes of a worker at this place. No exchange is weak: code 9 is always refusal 8.
abbrev pub verdict_of : ℕ → Place → Order → Verdict
verdict_of meter p o = verdict_for meter (view_of p).busy false o

-- Worker w begins at the place q: no act.
unfoldable pub begun : Machine → ℕ → Place → Machine
begun m w q = machine_of m.single (set m.workers w (record { place = q })) m.count m.meter

-- What an act leaves is stored back. The meter rises by one with each accepted act.
unfoldable pub stored : Machine → ℕ → Acted → Machine
stored m w a = machine_of a.single (set m.workers w (record { place = a.place })) m.count (m.meter + 1)

-- What an act does at each place. The source's is `act_of`; crate single_slips has some with a slip.
abbrev pub Table : Type 0
Table = Single → Place → Acted

unfoldable pub acted_by : Table → Machine → ℕ → Place → Machine
acted_by table m w p = stored m w (table m.single p)

abbrev pub carried_by : Table → Machine → ℕ → Place → Verdict → Did
carried_by table m w p (Refuse number) = refused number m
carried_by table m w p (Start c) = accepted (begun m w (begin_of c))
carried_by table m w p (Move lose) = accepted (acted_by table m w p)

-- 9: an entry that can't be read. 3: worker number not below the count.
abbrev pub turn_by : Table → Machine → Entry → Did
turn_by table m Unreadable = refused 9 m
turn_by table m (Asks w o) =
    cond (ltb w m.count)
    (carried_by table m w (place_of m.workers w) (verdict_of m.meter (place_of m.workers w) o))
    (refused 3 m)

abbrev pub acted : Machine → ℕ → Place → Machine
acted = acted_by act_of

abbrev pub carried : Machine → ℕ → Place → Verdict → Did
carried = carried_by act_of

abbrev pub turn : Machine → Entry → Did
turn = turn_by act_of

-- The entry of two words, on a machine that is not broken.
unfoldable pub turn_of_by : Table → Machine → ℕ → ℕ → Did
turn_of_by table m first second = turn_by table m (entry_of first second)

abbrev pub turn_of : Machine → ℕ → ℕ → Did
turn_of = turn_of_by act_of
