-- Item 5: the fields of a tape as they are read, and what a tape can't carry.
use Rattle.std.specs.Prelude.{ℕ, ◌+◌, ◌/◌, ◌-◌, Bool, false, cond, List, ltb, eqb, length, get_or, take, drop}
use Rattle.queue_entries.specs.declared.Entry.{Entry}
use Rattle.queue_entries.specs.declared.Entry.TheVariants.{Unreadable, Asks}
use Rattle.queue_entries.specs.Entries.{entry_of}
use Rattle.tapes_numbers.specs.declared.Variant.{Variant}
use Rattle.tapes_numbers.specs.declared.Variant.TheVariants.{BigEndian, LittleEndian}
use Rattle.tapes_numbers.specs.Numbers.{tag_of, number_of}
use Rattle.tapes_fields.specs.declared.Head.{Head}
use Rattle.tapes_fields.specs.declared.Head.TheVariants as head
use Rattle.tapes_fields.specs.declared.Field.{Field}
use Rattle.tapes_fields.specs.declared.Field.TheVariants as field
use Rattle.tapes_fields.specs.Fields.{swapped, tag_for}

-- Bytes that open with this tag, of this variant, and this length.
unfoldable pub opens : Variant → ℕ → ℕ → List ℕ → Bool
opens v tag long s = cond (eqb (get_or s 0 0) (tag_of v tag)) (eqb (number_of v (take 2 (drop 1 s))) long) false

-- "code not allowed under its tag"
unfoldable pub allowed : ℕ → ℕ → Bool
allowed tag code = cond (ltb code 10) (eqb tag (tag_for code)) false

-- "In one field, 12 precedes 13 only if tag or length bytes are missing, else 13, then 12, then 14": `head_in` and `field_in` have the 12 of
-- a missing tag or length and the 13; `head_by` and `entry_by`, of a field that is opened well, the 12 of a missing body and the 14.
unfoldable pub head_by : Variant → List ℕ → Head
head_by v s = cond (ltb (length s) 7) (head.Fault 12) (head.Makes v (number_of v (take 2 (drop 3 s))) (number_of v (take 2 (drop 5 s))))

-- The first field of a tape, which sets its variant.
unfoldable pub head_in : List ℕ → Head
head_in s =
    cond (ltb (length s) 3) (head.Fault 12)
    (cond (opens BigEndian 1 4 s) (head_by BigEndian s)
    (cond (opens LittleEndian 1 4 s) (head_by LittleEndian s)
    (head.Fault 13)))

unfoldable pub entry_by : Variant → ℕ → ℕ → List ℕ → Field
entry_by v tag long s =
    cond (ltb (length s) (3 + long)) (field.Fault 12)
    (cond (allowed tag (get_or s 3 0 / 16)) (field.Entry (swapped (get_or s 3 0)) (number_of v (take (long - 1) (drop 4 s))))
    (field.Fault 14))

-- A later field of a tape of this variant.
unfoldable pub field_in : Variant → List ℕ → Field
field_in v s =
    cond (ltb (length s) 3) (field.Fault 12)
    (cond (opens v 2 9 s) (entry_by v 2 9 s)
    (cond (opens v 3 1 s) (entry_by v 3 1 s)
    (cond (opens v 4 0 s) field.End
    (field.Fault 13))))

-- "an entry the tape can't carry (refusal 9's conditions, a worker above 15 ..)"
unfoldable pub carried_by : Entry → Bool
carried_by Unreadable = false
carried_by (Asks worker order) = ltb worker 16

unfoldable pub carried : ℕ → ℕ → Bool
carried first item = carried_by (entry_of first item)
