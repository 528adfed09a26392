-- The machine that holds its records, lent records, and words in a host's memory: their calls in any mixture are one schedule, so that its log is theirs.
use lib.ListN.{length}
use Rattle.queue_entries.specs.Limits.{workers_most}
use Rattle.bounded_words.specs.declared.Width.TheVariants.{Sixteen, SixtyFour}
use Rattle.bounded.specs.Bounded.{make_of}
use Rattle.bounded_sixteen_bits.specs.SixteenBits.{narrowed}
use Rattle.bounded_demands.specs.Notions.{sixty_four, sixteen, document01, of_width, taken_by_all}
use Rattle.bounded_proof_all_demands.proofs.Mixed.{as_one, sixty_four_keeps, sixteen_keeps}
use Rattle.bounded_lent.specs.Lent.{make_lent}
use Rattle.bounded_rows.specs.Rows.{records_in}
use Rattle.bounded_host.specs.Host.{make_words}
use Rattle.bounded_demands.specs.Lending.{item11, all_taken_lent}
use Rattle.bounded_logs.specs.Logs.{MixedShowsNone, MixedShowsNoneInWindow, LentShowsNone}
use Rattle.bounded_proof_lent.proofs.Throughout.{allowed}
use Rattle.bounded_proof_lent.proofs.Mixed.{lent_mixed}
use Rattle.bounded_proof_host.specs.Hosted.{face, all_taken_words}
use Rattle.bounded_proof_host.proofs.Hosted.{fresh}
use Rattle.bounded_proof_host.proofs.Mixed.{hosted_mixed}
use Rattle.bounded_proof_logs.proofs.Ring.{shows_none, shows_none_in_window}
use Rattle.bounded_proof_logs_host.specs.Hosted.{HostedShowsNone}

pub mixed_shows_none : MixedShowsNone sixty_four document01
mixed_shows_none capacity workers edition made askings =
    let o = as_one SixtyFour sixty_four sixty_four_keeps capacity workers edition made askings in
    (o.1, shows_none workers_most capacity workers edition o.0 (taken_by_all sixty_four (make_of capacity workers edition).machine askings))

pub mixed_shows_none_in_window : MixedShowsNoneInWindow sixteen (of_width Sixteen)
mixed_shows_none_in_window capacity workers edition made askings =
    let o = as_one Sixteen sixteen sixteen_keeps capacity workers edition made askings in
    (o.1, shows_none_in_window Sixteen workers_most capacity workers edition o.0 (taken_by_all sixteen (narrowed (make_of capacity workers edition).machine) askings))

pub lent_shows_none : LentShowsNone item11
lent_shows_none ys capacity edition made doings = (
  (lent_mixed ys capacity edition made doings).0,
  shows_none (length ys) capacity (length ys) edition (allowed ys capacity edition made) (all_taken_lent item11 (make_lent ys capacity edition) doings),
)

pub hosted_shows_none : HostedShowsNone face
hosted_shows_none w capacity edition made doings =
    let ys = records_in w.records in (
      (hosted_mixed w capacity edition made doings).0,
      shows_none (length ys) capacity (length ys) edition (allowed ys capacity edition (fresh w capacity edition made).accepted_too) (all_taken_words face (make_words w capacity edition).words doings),
    )
