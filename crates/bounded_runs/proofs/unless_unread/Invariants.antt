use Prim.Native.Nat.{◌*◌, ◌/◌}
use mathlib.Core.Path.{◌≡◌}
use lib.ListN.{length, drop}
use Rattle.queue_entries.specs.Entries.{entry_of}
use Rattle.queue_entries.specs.Schedules.{search_by}
use Rattle.bounded_runs.proofs.unless_unread.Given as goal

abbrev pub invariant-loop-i : goal.invariant-loop-i
invariant-loop-i l = (l.n ≡ length l.schedule / 2) × (search_by entry_of l.i (drop (2 * l.i) l.schedule) ≡ search_by entry_of 0 l.schedule)
