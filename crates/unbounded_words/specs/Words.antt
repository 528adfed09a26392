-- The constants of src/unbounded.rs, index words and pointers, in the source's order.
use Rattle.std.specs.Prelude.{ℕ, ◌+◌, ◌-◌, ◌*◌, ◌/◌, ◌%◌, ◌^◌, Bool, true, false, cond, ◌==◌}
use Rattle.unbounded_words.specs.declared.Index.{Index}
use Rattle.unbounded_words.specs.declared.Pointer.{Pointer}
use Rattle.unbounded_words.specs.declared.Pointer.TheVariants.{None, To}

-- LAP, BLOCK_CAP and how many blocks the pool has. A parameter of the definitions, so that a slip can be computed on short blocks.
pub record Sizes : Type 0 where
  pub lap : ℕ
  pub slots : ℕ
  pub blocks : ℕ

-- a pool of 64 blocks of 31 slots
abbrev pub sizes : Sizes
sizes = record { lap = 32; slots = 31; blocks = 64 }

-- how many words there are: sums wrap
abbrev pub wide : ℕ
wide = 2 ^ 64

abbrev pub index : ℕ → Index
index n = record { 0 = n }

-- (w >> SHIFT) % LAP
abbrev pub offset_of : Sizes → Index → ℕ
offset_of z w = w.0 / 2 % z.lap

-- offset == BLOCK_CAP
unfoldable pub past_slots : Sizes → Index → Bool
past_slots z w = offset_of z w == z.slots

-- offset + 1 == BLOCK_CAP
unfoldable pub last_slot : Sizes → Index → Bool
last_slot z w = offset_of z w + 1 == z.slots

-- w & MARK_BIT != 0
unfoldable pub marked_of : Index → Bool
marked_of w = w.0 % 2 == 1

-- w & !MARK_BIT
unfoldable pub unmarked_of : Index → Index
unmarked_of w = index (w.0 - w.0 % 2)

-- w | MARK_BIT
unfoldable pub with_mark : Index → Index
with_mark w = index (w.0 - w.0 % 2 + 1)

-- w + (1 << SHIFT)
unfoldable pub later : Index → Index
later w = index ((w.0 + 2) % wide)

unfoldable pub same : Index → Index → Bool
same a b = a.0 == b.0

-- a >> SHIFT == b >> SHIFT
unfoldable pub same_position : Index → Index → Bool
same_position a b = a.0 / 2 == b.0 / 2

-- (a >> SHIFT) / LAP == (b >> SHIFT) / LAP
unfoldable pub same_block : Sizes → Index → Index → Bool
same_block z a b = a.0 / 2 / z.lap == b.0 / 2 / z.lap

-- a.wrapping_sub(b)
unfoldable pub minus : ℕ → ℕ → ℕ
minus a b = (a + (wide - b)) % wide

-- "Erase the lower bits.", "Fix up indices if they fall onto block ends."
unfoldable pub settled : Sizes → Index → Index
settled z w = cond (past_slots z (unmarked_of w)) (later (unmarked_of w)) (unmarked_of w)

-- tail - head - tail / LAP
unfoldable pub behind : Sizes → ℕ → ℕ → ℕ
behind z t h = minus (minus t h) (t / z.lap)

-- "Rotate indices so that head falls into the first block.", "Remove the lower bits.", "Return the difference minus the number of
-- blocks between tail and head."
unfoldable pub count_of : Sizes → Index → Index → ℕ
count_of z t h =
    behind z (minus (settled z t).0 ((settled z h).0 / 2 / z.lap * z.lap * 2) / 2)
    (minus (settled z h).0 ((settled z h).0 / 2 / z.lap * z.lap * 2) / 2)

-- is_null()
abbrev pub none_of : Pointer → Bool
none_of None = true
none_of (To k) = false

-- The block's number; that of no block for none.
abbrev pub number_of : Sizes → Pointer → ℕ
number_of z None = z.blocks
number_of z (To k) = k
