-- A host's calls are one schedule, so that its log is theirs.
use Rattle.single_host.specs.Host.{make_words}
use Rattle.single_proof_host.specs.Hosted.{face, taken_by, entries_by}
use Rattle.single_proof_host.proofs.Hosted.{allowed}
use Rattle.single_proof_host.proofs.Mixed.{hosted_mixed}
use Rattle.single_proof_logs.specs.Hosted.{HostedShowsNone}
use Rattle.single_proof_logs.proofs.Slot.{shows_none}

pub hosted_shows_none : HostedShowsNone face
hosted_shows_none w workers made doings =
    let w₀ = (make_words w workers).words in
    (hosted_mixed w workers made doings, shows_none workers (allowed w workers made) (taken_by face w₀ (entries_by face w₀ doings)))
