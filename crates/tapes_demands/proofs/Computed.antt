-- The worked example and the table, by computing.
use mathlib.Core.Path.{refl}
use Rattle.queue_entries.specs.Entries.{stray_of, order_of, entry_of}
use Rattle.tapes_numbers.specs.declared.Variant.{Variant}
use Rattle.tapes_numbers.specs.declared.Variant.TheVariants.{BigEndian, LittleEndian}
use Rattle.tapes_numbers.specs.Numbers.{in_order, digits_of, value_of, bytes_of, number_of}
use Rattle.tapes_fields.specs.Fields.{opening_of, field_of, head_of, swapped, tag_for, item_long, body_of, entry_field_of, end_of, over, size_of}
use Rattle.tapes_fields.specs.Judged.{opens, allowed, head_by, head_in, entry_by, field_in, carried_by, carried}
use Rattle.tapes.specs.Written.{entries_of, tape_of, load_from, fitted, write_of, accepted, written_of}
use Rattle.tapes.specs.Heard.{joined, long_of, heard_by, hear_from, hear_in, count_in, words_in, read_by, read_after, read_of, taken, read_into}
use Rattle.tapes_demands.specs.Cases.{Example, Cases, found, table}

pub example : (v : Variant) → Example v
unfolding in_order digits_of value_of bytes_of number_of opening_of field_of head_of swapped tag_for item_long body_of entry_field_of end_of over size_of opens allowed head_by
    head_in entry_by field_in carried_by carried stray_of order_of entry_of entries_of tape_of load_from fitted write_of accepted written_of joined long_of heard_by hear_from
    hear_in count_in words_in read_by read_after read_of taken read_into
example BigEndian = record { answer = refl; written = refl; read = refl; words = refl }
example LittleEndian = record { answer = refl; written = refl; read = refl; words = refl }

pub cases : Cases
unfolding in_order digits_of value_of bytes_of number_of opening_of field_of head_of swapped tag_for item_long body_of entry_field_of end_of over size_of opens allowed head_by
    head_in entry_by field_in carried_by carried stray_of order_of entry_of entries_of tape_of load_from fitted write_of joined long_of heard_by hear_from hear_in count_in
    words_in read_by read_after read_of found table
cases = refl
