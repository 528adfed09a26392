-- One entry on what it touches alone: its worker's record, and the slot that its act goes to. Put back where they were taken out, they are what `turn_at` of crate bounded_machine leaves.
use Rattle.std.specs.Prelude.{ℕ, ◌+◌, ◌/◌, cond, ltb}
use Rattle.queue_entries.specs.declared.Entry.{Entry}
use Rattle.queue_entries.specs.declared.Entry.TheVariants.{Unreadable, Asks}
use Rattle.queue_entries.specs.declared.Verdict.{Verdict}
use Rattle.queue_entries.specs.declared.Verdict.TheVariants.{Refuse, Start, Move}
use Rattle.queue_entries.specs.Entries.{entry_of}
use Rattle.bounded_words.specs.declared.Fixed.{Fixed}
use Rattle.bounded_words.specs.declared.Width.{Width}
use Rattle.bounded_places.specs.declared.Ends.{Ends}
use Rattle.bounded_places.specs.declared.Slot.{Slot}
use Rattle.bounded_places.specs.declared.Worker.{Worker}
use Rattle.bounded_places.specs.Places.{view_of, begin_of}
use Rattle.bounded_acts.specs.declared.Acted.{Acted}
use Rattle.bounded_acts.specs.Acts.{act_of}
use Rattle.bounded_machine.specs.Turn.{verdict_of, spot_of, beginner, record_after}
use Rattle.bounded_step_record.specs.declared.Turned.{Turned}

-- The number of the record that an entry asks for; 0 where there is none with that number.
unfoldable pub worker_of : ℕ → ℕ → ℕ
worker_of first count = cond (ltb (first / 16) count) (first / 16) 0

-- The slot that an act of this record goes to; 0 where it is idle.
abbrev pub slot_of_ring : Fixed → Worker → ℕ
slot_of_ring f r = cond (view_of r.place).busy (spot_of f (view_of r.place).held) 0

unfoldable pub with : ℕ → Ends → Slot → Worker → ℕ → Turned
with k e s r m = record { refusal = k; ends = e; slot = s; worker = r; meter = m }

-- what an act leaves
unfoldable pub moved : Worker → ℕ → Acted → Turned
moved r m a = record { refusal = 0; ends = a.ends; slot = a.slot; worker = record_after r a.place a.loss; meter = m + 1 }

abbrev pub carried_on : Width → Fixed → Ends → Slot → Worker → ℕ → Verdict → Turned
carried_on bits f e s r m (Refuse k) = with k e s r m
carried_on bits f e s r m (Start c) = with 0 e s (beginner (begin_of c)) m
carried_on bits f e s r m (Move lose) = moved r m (act_of bits f e s r.place lose)

abbrev pub turned_on : Width → Fixed → Ends → Slot → Worker → ℕ → ℕ → Entry → Turned
turned_on bits f e s r m count Unreadable = with 9 e s r m
turned_on bits f e s r m count (Asks w o) = cond (ltb w count) (carried_on bits f e s r m (verdict_of m r.place o)) (with 3 e s r m)

unfoldable pub turned_of : Width → Fixed → Ends → Slot → Worker → ℕ → ℕ → ℕ → ℕ → Turned
turned_of bits f e s r m count first second = turned_on bits f e s r m count (entry_of first second)
