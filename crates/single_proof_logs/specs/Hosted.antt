-- What no log of the one-slot queue's words in a host's memory shows.
use Rattle.std.specs.Prelude.{ℕ, List, ◌≡◌}
use Rattle.single_rows.specs.Rows.{Words, machine_in}
use Rattle.single_demands.specs.Notions.{source}
use Rattle.single_proof_host.specs.Hosted.{Hosting, Doing, Under, left_by_all, taken_by, entries_by}
use Rattle.single_logs.specs.Logs.{ShowsNoneOf}

-- A host that makes, and then steps and runs in any mixture, refusals passed over: its calls are one schedule of the entries that were accepted. Refused ones are in no log.
abbrev pub HostedShowsNone : Hosting → Type 0
HostedShowsNone d =
    (w : Words) (workers : ℕ) → (d.make w workers).answer ≡ 0 → (doings : List Doing)
    → Under workers (machine_in (left_by_all d (d.make w workers).words doings)) (taken_by d (d.make w workers).words (entries_by d (d.make w workers).words doings))
    × ShowsNoneOf source workers (taken_by d (d.make w workers).words (entries_by d (d.make w workers).words doings))
