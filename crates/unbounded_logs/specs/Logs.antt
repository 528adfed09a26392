-- What a log of the unbounded queue never shows.
use Rattle.std.specs.Prelude.{ℕ, ◌<◌, true, false, List, []}
use Rattle.queue_plain.specs.Plain.{Reply}
use Rattle.queue_logs.specs.Logs.{Log, log_of, Seen, NeverShown}
use Rattle.unbounded_machine.specs.declared.Event.{Event}
use Rattle.unbounded_demands.specs.Notions.{Definition, Allowed}
use Rattle.unbounded_demands.specs.Stories.{Task, Rests, Starts, Tries, Given, Enters, Entered, Frees, Takes, LoadsHead, Counts, LooksAtTail, task_of, story_of, change_of, actor, reply_of}

-- What an act answers that leads here: none but at a call's end.
abbrev pub said_at : Task → List Reply
said_at (Rests a) = reply_of a
said_at (Starts c) = []
said_at (Tries x) = []
said_at (Given t x) = []
said_at (Enters x) = []
said_at Entered = []
said_at (Frees a) = []
said_at Takes = []
said_at (LoadsHead t) = []
said_at (Counts t h) = []
said_at (LooksAtTail h) = []

abbrev pub said : Event → List Reply
said e = said_at (task_of e.after)

-- The log of a schedule.
abbrev pub unbounded_log : Definition → ℕ → List ℕ → Log
unbounded_log d workers s = log_of actor change_of said 0 (story_of d workers s)

-- Every number of workers, every schedule, every log seen of it; closed stays closed. No capacity is any that is larger than the log: so none that is Full, or is_full, is shown. A no of is_empty is
-- not read: it may be one at a block's end (`AtBlocksEnd`).
abbrev pub ShowsNone : Definition → Type 0
ShowsNone d =
    (workers : ℕ) → Allowed workers → (s : List ℕ) (seen : Log) → Seen (unbounded_log d workers s) seen → (capacity : ℕ) → seen.size < capacity → NeverShown capacity true false seen
