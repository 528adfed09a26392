-- The history of a run: its acts, oldest first, and what is counted from it.
use Rattle.std.specs.Prelude.{ℕ, List, [], ◌∷◌}
use Rattle.queue_entries.specs.declared.Order.TheVariants.{Begin, Act}
use Rattle.queue_entries.specs.declared.Entry.{Entry}
use Rattle.queue_entries.specs.declared.Entry.TheVariants.{Unreadable, Asks}
use Rattle.queue_entries.specs.Schedules.{history_by}
use Rattle.unbounded_words.specs.Words.{Sizes}
use Rattle.unbounded_places.specs.declared.Place.{Place}
use Rattle.unbounded_machine.specs.declared.Machine.{Machine}
use Rattle.unbounded_machine.specs.declared.Did.{Did}
use Rattle.unbounded_machine.specs.declared.Event.{Event}
use Rattle.unbounded_machine.specs.Machine.{place_of}
use Rattle.unbounded_machine.specs.Turn.{turn_of}

-- An act: who acted, from which place, to which. Beginning a call is no act.
abbrev pub event : ℕ → Place → Place → Event
event w before after = record { worker = w; before = before; after = after }

abbrev pub events_of : Machine → Entry → Machine → List Event
events_of m Unreadable next = []
events_of m (Asks w (Begin c)) next = []
events_of m (Asks w (Act lose)) next = event w (place_of m.workers w) (place_of next.workers w) ∷ []

-- The acts of a schedule's entries, up to the first that is refused, each entry by what it makes of a machine.
abbrev pub history_with : (Machine → ℕ → ℕ → Did) → Machine → List ℕ → List Event
history_with turn = history_by (λ (d : Did). d.refusal) (λ (d : Did). d.machine) turn events_of

abbrev pub history_of : Sizes → Machine → List ℕ → List Event
history_of z = history_with (turn_of z)
