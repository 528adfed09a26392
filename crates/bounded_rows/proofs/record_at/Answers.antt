use Rattle.bounded_rows.proofs.Words.{record_read}
use Rattle.bounded_rows.proofs.record_at.Goals as goal

pub returns : goal.returns
returns c = record_read _ _ _ c.place_in-place.ensures
