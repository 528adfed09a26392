-- What item 5 asks of tapes, proved. What it says is crates/tapes_demands/specs/Demands.antt; the worked example and a table of cases
-- are Cases.antt beside it.
use Rattle.tapes_numbers.specs.declared.Variant.{Variant}
use Rattle.tapes_demands.specs.Demands.{RefusedUnchanged, Numbered, OnlyOne, EnumsBothWays, FirstFault, Length, ReadingWhatWasWritten, WritingWhatWasRead}
use Rattle.tapes_demands.specs.Demands.{DifferentTapes, WriterOrder, EveryTapeRead, WrittenByPieces, ReadingByPieces}
use Rattle.tapes.specs.Written as writer
use Rattle.tapes.specs.Heard as reader
use Rattle.tapes.specs.Heard.{read_of}
use Rattle.tapes_demands.specs.Recording.{RecordsAsWritten, Refuses}
use Rattle.tapes_demands.specs.Cases.{Example, Cases}
use Rattle.tapes_demands.proofs.Refusals.{refused_unchanged, numbered, only_one, enums_both_ways}
use Rattle.tapes_demands.proofs.Computed.{example, cases}
use Rattle.tapes_proof_round_trip.proofs.Back.{lengths, reading_written, writing_read, different_tapes}
use Rattle.tapes_proof_round_trip.proofs.Faults.{first_fault}
use Rattle.tapes_proof_round_trip.proofs.Order.{writer_order, every_tape_read}
use Rattle.tapes_proof_round_trip.proofs.Pieces.{written_by_pieces, reading_by_pieces}
use Rattle.tapes_proof_round_trip.proofs.Recording.{records_as_written, refuses}

-- Anything handed in gets an answer or a numbered refusal (`write` and `read` have no `requires`); a refusal changes nothing; only one
-- answer and one buffer meet a promise; an answer is known by its number and values.
pub answers : RefusedUnchanged × Numbered × OnlyOne × EnumsBothWays writer.number_in reader.number_in
answers = (refused_unchanged, numbered, only_one, enums_both_ways)

-- The reader goes left to right and gives the first fault.
pub left_to_right : FirstFault read_of
left_to_right = first_fault

-- Reading what was written gives the same, and writing what was read; different schedules have different tapes; the length.
pub tapes : ReadingWhatWasWritten × WritingWhatWasRead × DifferentTapes × Length
tapes = (reading_written, writing_read, different_tapes, lengths)

-- The writer checks 11, 17, 16 in that order and writes the rest; every tape of what can be carried is read.
pub everything : WriterOrder × EveryTapeRead
everything = (writer_order, every_tape_read)

-- Piece by piece, as the programs go, is the same as the whole.
pub pieces : WrittenByPieces × ReadingByPieces
pieces = (written_by_pieces, reading_by_pieces)

-- Entry by entry into a lent buffer, as a host records: what the writer makes of the whole, and every refusal as the writer's.
pub recording : RecordsAsWritten × Refuses
recording = (records_as_written, refuses)

-- On paper.
pub on_paper : ((v : Variant) → Example v) × Cases
on_paper = (example, cases)
