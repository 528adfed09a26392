use borrow.Author.Rules.{rules}
use Prim.Native.Nat.{ℕ}
use lib.ListN.{length-set}
use native.Mathlib.Omega.{arith}
use Rattle.tapes_fields.specs.Fields.{size_of}
use Rattle.tapes_fields.proofs.Writing.{entered, swapped_fits}
use Rattle.tapes_fields.proofs.put_entry.Goals as goal

pub put_opening-requires : goal.put_opening-requires
unfolding size_of
put_opening-requires c = (search rules, omega arith)

pub overflow_cast-buffer : goal.overflow_cast-buffer
overflow_cast-buffer c = record { fits = omega (arith, c.swapped.ensures, swapped_fits c.args.first (omega arith)) }

pub bounds-buffer-3 : goal.bounds-buffer-3
unfolding size_of
bounds-buffer-3 c = omega (arith, c.put_opening.auto.buffer)

pub slice_bounds-put_number-end : goal.slice_bounds-put_number-end
unfolding size_of
slice_bounds-put_number-end c = omega (arith, c.put_opening.auto.buffer, length-set {A = ℕ}, c.item_long-n.ensures.0)

pub returns : goal.returns
returns c = entered _ _ _ _ _ _ c.requires.1 c.item_long-n.ensures.0 _ c.tag_for.ensures.0 c.put_opening.ensures _ _ c.swapped.ensures
    c.put_number.ensures
