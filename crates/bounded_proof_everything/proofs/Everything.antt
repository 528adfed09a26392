-- All that is said of the ring, and of each statement what it is false of, under one crate: `rt check` of it proves this file and everything that it rests on. The demands themselves are gathered in
-- crates/bounded_proof_all_demands/proofs/Headlines.antt.
use Rattle.bounded_words.specs.declared.Width.TheVariants.{Sixteen, SixtyFour}
use Rattle.bounded_orders.specs.Orders.{records_most}
use Rattle.bounded_demands.specs.Notions.{document01, of_width, with_records, sixty_four, sixteen}
use Rattle.bounded_demands.specs.Lending.{item11}
use Rattle.bounded_demands.specs.Demands.{OneStepUnderEverySchedule, OneStepUnderEveryInWindow, LooksNotOneStep, MomentsKept, MomentsKeptInWindow, MomentsKeptOf, Mixed, MixedInWindow, LentMixed}
use Rattle.bounded_logs.specs.Logs.{ShowsNone, MixedShowsNone, MixedShowsNoneInWindow, LentShowsNone}
use Rattle.bounded_proof_all_demands.proofs.Headlines.{one_step_always, moments_named, in_any_mixture, lent_in_any_mixture}
use Rattle.bounded_proof_logs.proofs.Ring.{shows_none}
use Rattle.bounded_proof_logs_host.specs.Hosted.{HostedShowsNone}
use Rattle.bounded_proof_logs_host.proofs.Hosted.{mixed_shows_none, mixed_shows_none_in_window, lent_shows_none, hosted_shows_none}
use Rattle.bounded_proof_logs_slips.specs.Shown.{RowsShown, RefutedLogs}
use Rattle.bounded_proof_logs_slips.proofs.Shown.{rows_shown, refuted_logs}
use Rattle.bounded_proof_host.specs.Hosted.{face}
use Rattle.bounded_proof_host.specs.Slips as hosts
use Rattle.bounded_proof_host.proofs.Refuted as hosts_proved
use Rattle.bounded_proof_promises.specs.Own.{OnlyOneOwn}
use Rattle.bounded_proof_promises.proofs.OnlyOne.{only_one_own}
use Rattle.bounded_slips.specs.Slips as tables
use Rattle.bounded_slips.specs.Refuted as tables_refuted
use Rattle.bounded_slips.specs.RefutedPlain.{RefutedPlain, RefutedOneStep}
use Rattle.bounded_slips.specs.RefutedCounts.{RefutedCounts}
use Rattle.bounded_slips.specs.Clauses.{TheClauses, RefutedClauses}
use Rattle.bounded_slips.proofs.Faithful.{stands}
use Rattle.bounded_slips.proofs.Refuted.{refuted}
use Rattle.bounded_slips.proofs.RefutedPlain.{refuted_plain}
use Rattle.bounded_slips.proofs.OneByOne.{refuted_one_step}
use Rattle.bounded_slips.proofs.RefutedCounts.{refuted_counts}
use Rattle.bounded_slips.proofs.Clauses.{the_clauses, refuted_clauses}
use Rattle.bounded_proof_causes_slips.specs.Refuted as causes
use Rattle.bounded_proof_causes_slips.proofs.Refuted as causes_proved
use Rattle.bounded_proof_lent_slips.specs.Refuted as lending
use Rattle.bounded_proof_lent_slips.proofs.Refuted as lending_proved
use Rattle.bounded_proof_faces_slips.specs.Refuted as faces
use Rattle.bounded_proof_faces_slips.proofs.Refuted as faces_proved
use Rattle.bounded_proof_walks_slips.specs.Refuted as walks
use Rattle.bounded_proof_walks_slips.proofs.Refuted as walks_proved

-- One step a call under every schedule; and the moments that the program names.
pub one_step_lem : OneStepUnderEverySchedule document01 × OneStepUnderEverySchedule (with_records records_most SixtyFour) × OneStepUnderEveryInWindow (of_width Sixteen) × LooksNotOneStep document01
one_step_lem = one_step_always

pub moments : MomentsKept document01 × MomentsKeptInWindow (of_width Sixteen) × MomentsKeptOf records_most (with_records records_most SixtyFour)
moments = moments_named

-- Calls in any mixture: held, lent, and words in a host's memory (`HostedMixed` is among what stands of these, with the rest that is said of them).
pub mixtures : Mixed sixty_four document01 × MixedInWindow sixteen (of_width Sixteen) × LentMixed item11 × hosts.Stands
mixtures = (in_any_mixture.0, in_any_mixture.1, lent_in_any_mixture, hosts_proved.stands)

-- What a log never shows.
pub logs : ShowsNone (with_records records_most SixtyFour) × MixedShowsNone sixty_four document01 × MixedShowsNoneInWindow sixteen (of_width Sixteen) × LentShowsNone item11 × HostedShowsNone face
logs = (shows_none records_most, mixed_shows_none, mixed_shows_none_in_window, lent_shows_none, hosted_shows_none)

-- Only one answer meets each function's own promise.
pub promises : OnlyOneOwn
promises = only_one_own

-- The slips: of each wrong table, face, list or lending the statement that is false of it; and with none planted all stands.
pub slips :
    tables.Stands × tables_refuted.Refuted × RefutedPlain × RefutedOneStep × RefutedCounts × TheClauses × RefutedClauses × causes.Refuted × lending.Refuted × faces.Refuted × walks.Refuted
    × hosts.Refuted × RowsShown × RefutedLogs
slips = (
  stands,
  refuted,
  refuted_plain,
  refuted_one_step,
  refuted_counts,
  the_clauses,
  refuted_clauses,
  causes_proved.refuted,
  lending_proved.refuted,
  faces_proved.refuted,
  walks_proved.refuted,
  hosts_proved.refuted,
  rows_shown,
  refuted_logs,
)
