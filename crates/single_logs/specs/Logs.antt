-- What a log of the one-slot queue never shows.
use Rattle.std.specs.Prelude.{ℕ, true, List, []}
use Rattle.queue_plain.specs.Plain.{Reply}
use Rattle.queue_logs.specs.Logs.{Log, log_of, Seen, NeverShown}
use Rattle.single_places.specs.declared.Place.{Place}
use Rattle.single_places.specs.declared.Place.TheVariants.{Idle, A1, A2, A3, B1, B2, B3, B4, B5, C1, C2, C3, Len1, Empty1, Full1, Close1, IsClosed1}
use Rattle.single_machine.specs.declared.Event.{Event}
use Rattle.single_demands.specs.Notions.{Definition, Allowed}
use Rattle.single_demands.specs.Stories.{story_of, change_of, actor, reply_of}

-- What an act answers that leads here: none but at a call's end.
abbrev pub said_at : Place → List Reply
said_at (Idle a) = reply_of a
said_at (A1 x) = []
said_at (A2 x) = []
said_at A3 = []
said_at (B1 e x) = []
said_at (B2 x) = []
said_at B3 = []
said_at (B4 x) = []
said_at (B5 old) = []
said_at (C1 e) = []
said_at C2 = []
said_at (C3 v) = []
said_at Len1 = []
said_at Empty1 = []
said_at Full1 = []
said_at Close1 = []
said_at IsClosed1 = []

abbrev pub said : Event → List Reply
said e = said_at e.after

-- The log of a schedule.
abbrev pub single_log : Definition → ℕ → List ℕ → Log
single_log d workers s = log_of actor change_of said 1 (story_of d workers s)

-- Every log seen of this schedule shows none of the rows; of capacity 1, and closed stays closed. (A push that answers Full beside a pop under way shows no row: that pop has not answered.)
abbrev pub ShowsNoneOf : Definition → ℕ → List ℕ → Type 0
ShowsNoneOf d workers s = (seen : Log) → Seen (single_log d workers s) seen → NeverShown 1 true true seen

-- Every number of workers, every schedule.
abbrev pub ShowsNone : Definition → Type 0
ShowsNone d = (workers : ℕ) → Allowed workers → (s : List ℕ) → ShowsNoneOf d workers s
