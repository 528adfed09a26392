-- The history of a run: its acts, oldest first, and what is counted from it.
use Rattle.std.specs.Prelude.{ℕ, ◌+◌, ◌-◌, Bool, cond, List, [], ◌∷◌}
use Rattle.queue_entries.specs.declared.Order.TheVariants.{Begin, Act}
use Rattle.queue_entries.specs.declared.Entry.{Entry}
use Rattle.queue_entries.specs.declared.Entry.TheVariants.{Unreadable, Asks}
use Rattle.queue_entries.specs.Schedules.{history_by}
use Rattle.bounded_words.specs.declared.Width.{Width}
use Rattle.bounded_words.specs.declared.Width.TheVariants.{SixtyFour}
use Rattle.bounded_words.specs.Words.{claim}
use Rattle.bounded_places.specs.declared.Loss.{Loss}
use Rattle.bounded_places.specs.declared.Place.{Place}
use Rattle.bounded_places.specs.declared.Moved.{Moved}
use Rattle.bounded_places.specs.declared.Moved.TheVariants.{Neither, Tail, Head}
use Rattle.bounded_places.specs.Places.{view_of}
use Rattle.bounded_acts.specs.Acts.{act_of}
use Rattle.bounded_machine.specs.declared.Machine.{Machine}
use Rattle.bounded_machine.specs.declared.Did.{Did}
use Rattle.bounded_machine.specs.declared.Event.{Event}
use Rattle.bounded_machine.specs.declared.Tally.{Tally}
use Rattle.bounded_machine.specs.Machine.{place_of}
use Rattle.bounded_machine.specs.Turn.{act_at, turn_at}

-- An act: who acted, from which place, to which, and what it lost. Beginning a call is no act.
abbrev pub event : ℕ → Place → Place → Loss → Event
event w before after l = record { worker = w; before = before; after = after; loss = l }

-- What w's next act loses, by the tables of this width.
abbrev pub loss_at : Width → Machine → ℕ → Bool → Loss
loss_at bits m w lose = (act_at (act_of bits) m (place_of m.workers w) lose).loss

abbrev pub events_of : Width → Machine → Entry → Machine → List Event
events_of bits m Unreadable next = []
events_of bits m (Asks w (Begin c)) next = []
events_of bits m (Asks w (Act lose)) next = event w (place_of m.workers w) (place_of next.workers w) (loss_at bits m w lose) ∷ []

-- The acts of a schedule's entries, up to the first that is refused, each entry by what it makes of a machine.
abbrev pub history_with : Width → (Machine → ℕ → ℕ → Did) → Machine → List ℕ → List Event
history_with bits turn = history_by (λ (d : Did). d.refusal) (λ (d : Did). d.machine) turn (events_of bits)

abbrev pub history_at : Width → Machine → List ℕ → List Event
history_at bits = history_with bits (turn_at bits)

abbrev pub history_of : Machine → List ℕ → List Event
history_of = history_at SixtyFour

-- Tail claims are won P3 and F7; head claims are won O3 and F6: the end that the act that led to this place moved.
abbrev pub moved_of : Place → Moved
moved_of p = (view_of p).moved

-- A value is read out at O4 and at F8.
abbrev pub reads_at : Place → Bool
reads_at p = (view_of p).reads

-- Claim number k is the k-th move of tail (or head) since the machine was made.
abbrev pub counted : Moved → Tally → Tally
counted Neither t = t
counted Tail t = record { tail = claim (t.tail.0 + 1); head = t.head; reads = t.reads }
counted Head t = record { tail = t.tail; head = claim (t.head.0 + 1); reads = t.reads }

abbrev pub read_on : Bool → Tally → Tally
read_on reads t = cond reads (record { tail = t.tail; head = t.head; reads = t.reads + 1 }) t

abbrev pub untallied : Tally
untallied = record { tail = claim 0; head = claim 0; reads = 0 }

unfoldable pub tally_of : List Event → Tally → Tally
tally_of [] t = t
tally_of (e ∷ rest) t = tally_of rest (read_on (reads_at e.before) (counted (moved_of e.after) t))

-- An item is in stock from its tail claim until its value is read out (document 02, item 4).
unfoldable pub stock_of : Tally → ℕ
stock_of t = t.tail.0 - t.reads

-- Tail claims less head claims: the claims that are not yet taken, which is what `len` counts. Document 01 took these for the stock.
unfoldable pub untaken_of : Tally → ℕ
untaken_of t = t.tail.0 - t.head.0
