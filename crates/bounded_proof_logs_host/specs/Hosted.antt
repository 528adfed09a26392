-- What no log of words in a host's memory shows.
use Rattle.std.specs.Prelude.{ℕ, List, ◌≡◌, length}
use Rattle.bounded_words.specs.declared.Width.TheVariants.{SixtyFour}
use Rattle.bounded_rows.specs.Rows.{Words, records_in}
use Rattle.bounded_demands.specs.Notions.{with_records}
use Rattle.bounded_demands.specs.Lending.{Doing}
use Rattle.bounded_demands.specs.Demands.{AsOneSchedule}
use Rattle.bounded_proof_host.specs.Hosted.{Hosting, held_words, left_by, all_taken_words}
use Rattle.bounded_logs.specs.Logs.{ShowsNoneOf}

-- A host that makes, and then steps and runs in any mixture, refusals passed over: its calls are one schedule of the entries that were accepted. Refused ones are in no log.
abbrev pub HostedShowsNone : Hosting → Type 0
HostedShowsNone d =
    (w : Words) (capacity edition : ℕ) → (d.make w capacity edition).answer ≡ 0 → (doings : List Doing)
    → AsOneSchedule (with_records (length (records_in w.records)) SixtyFour) capacity (length (records_in w.records)) edition (held_words (left_by d (d.make w capacity edition).words doings))
    (all_taken_words d (d.make w capacity edition).words doings)
    × ShowsNoneOf (with_records (length (records_in w.records)) SixtyFour) capacity (length (records_in w.records)) edition (all_taken_words d (d.make w capacity edition).words doings)
