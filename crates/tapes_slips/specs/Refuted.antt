-- Which statement refuses which slip.
use Rattle.tapes.specs.declared.Writing.{Writing}
use Rattle.tapes.specs.declared.Reading.{Reading}
use Rattle.tapes.specs.Written as writer
use Rattle.tapes.specs.Heard as reader
use Rattle.tapes_demands.specs.Demands.{FirstFault, EnumsBothWays, RefusedUnchangedBy, NumberedBy, LengthBy, ReadingWhatWasWrittenBy, WritingWhatWasReadBy}
use Rattle.tapes_demands.specs.Demands.{DifferentTapesBy, WriterOrderBy, EveryTapeReadBy}
use Rattle.tapes_demands.specs.Recording.{RecordsAsWrittenBy, RefusesBy}
use Rattle.tapes_slips.specs.Slips.{codes_last, after_its_tag, end_is_enough, room_first, read_with, refused_writes, odd_by_twelve, one_more_act, workers_first, teamless, refuses_all, face_with}
use Rattle.tapes_slips.specs.Slips.{unbegun, placeless, endless, uncounted, words_first, broken_by_twelve, recorder_with}

pub record Refuted : Type 0 where
  pub later : FirstFault (read_with codes_last) → ⊥
  pub first : FirstFault (read_with after_its_tag) → ⊥
  pub past : FirstFault (read_with end_is_enough) → ⊥
  pub short : FirstFault (read_with room_first) → ⊥
  -- a refusal has the number of none
  pub both_ways_written : EnumsBothWays (λ (a : Writing). 0) reader.number_in → ⊥
  pub both_ways_read : EnumsBothWays writer.number_in (λ (a : Reading). 0) → ⊥
  -- writing and reading
  pub unchanged : RefusedUnchangedBy (face_with refused_writes) → ⊥
  pub numbered : NumberedBy (face_with odd_by_twelve) → ⊥
  pub length_told : LengthBy (face_with one_more_act) → ⊥
  pub reading_written : ReadingWhatWasWrittenBy (face_with workers_first) → ⊥
  pub writing_read : WritingWhatWasReadBy (face_with workers_first) → ⊥
  pub different : DifferentTapesBy (face_with teamless) → ⊥
  -- it writes nothing, and reads nothing; 12 for 11
  pub writer_order : WriterOrderBy (face_with refuses_all) → ⊥
  pub writer_odd : WriterOrderBy (face_with odd_by_twelve) → ⊥
  pub every_tape : EveryTapeReadBy (face_with refuses_all) → ⊥
  -- a recorder: its begin, its entries, its end, and the whole
  pub begins : RecordsAsWrittenBy (recorder_with unbegun) → ⊥
  pub appends : RecordsAsWrittenBy (recorder_with placeless) → ⊥
  pub ends : RecordsAsWrittenBy (recorder_with endless) → ⊥
  pub whole : RecordsAsWrittenBy (recorder_with uncounted) → ⊥
  pub begin_refused : RefusesBy (recorder_with words_first) → ⊥
  pub end_refused : RefusesBy (recorder_with broken_by_twelve) → ⊥
