-- The record of an entry and the slot that its act goes to are among those there are.
use Prim.Native.Nat.{ℕ, ◌/◌, ◌<◌}
use mathlib.Core.Path.{◌≡◌, refl}
use mathlib.Core.Bool.{Bool, true, false, cond}
use native.Mathlib.Omega.{arith}
use lib.Dec.{ltb}
use borrow.Author.Tests.{ltb-true}
use Rattle.bounded_words.specs.declared.Fixed.{Fixed}
use Rattle.bounded_words.specs.Limits.{slots_most}
use Rattle.bounded_words.proofs.Marks.{Ruled}
use Rattle.bounded_places.specs.declared.Worker.{Worker}
use Rattle.bounded_places.specs.declared.Held.{Held}
use Rattle.bounded_places.specs.declared.Held.TheVariants as held
use Rattle.bounded_places.specs.Places.{view_of, fits_of}
use Rattle.bounded_machine.specs.Broken.{record_fits}
use Rattle.bounded_machine.specs.Turn.{spot_of}
use Rattle.bounded_machine.proofs.Kept.{of_record, fits_plain, either}
use Rattle.bounded_step_record.specs.Entries.{worker_of, slot_of_ring}

-- the slot of a record that fits
module _ (f : Fixed) (ruled : Ruled f) (meter : ℕ) (r : Worker) (h : record_fits f meter r true ≡ true) where
  spot_below : (d : Held) → fits_of f d ≡ true → spot_of f d < slots_most
  spot_below held.Nothing k = omega arith
  spot_below (held.End t) k = omega (arith, (fits_plain f t k).low, ruled.most)
  spot_below (held.Tail t) k = omega arith
  spot_below (held.Both t d) k = omega arith

  pub slot_below : slot_of_ring f r < slots_most
  slot_below =
      either (λ (k : ℕ). k < slots_most) (view_of r.place).busy (spot_of f (view_of r.place).held) 0 (λ e. spot_below (view_of r.place).held (of_record f meter r true h e)) (λ e. omega arith)

-- the record of an entry, of so many
pick_below : (t : Bool) (w n : ℕ) → ltb w n ≡ t → 0 < n → cond t w 0 < n
pick_below true w n e l = ltb-true w n e
pick_below false w n e l = l

pub worker_below : (first n : ℕ) → 0 < n → worker_of first n < n
unfolding worker_of
worker_below first n l = pick_below (ltb (first / 16) n) (first / 16) n refl l
