-- Whether a lent ring fits, test by test.
use Prim.Native.Nat.{ℕ}
use mathlib.Core.Path.{◌≡◌, refl}
use mathlib.Core.Bool.{Bool, true, false}
use Rattle.queue_entries.specs.Limits.{in_limits}
use Rattle.queue_entries.proofs.Pick.{yes, no}
use Rattle.bounded_words.specs.declared.Fixed.{Fixed}
use Rattle.bounded_places.specs.declared.Ends.{Ends}
use Rattle.bounded_machine.specs.Broken.{ring_fits}
use Rattle.bounded_orders.specs.Orders.{records_most, ring_fits_lent}

module _ (f : Fixed) (e : Ends) (n : ℕ) (c : Bool) (ec : c ≡ in_limits n records_most) where
  pub no_count : c ≡ false → false ≡ ring_fits_lent f e n
  unfolding ring_fits_lent
  no_count h = no _ c _ _ _ ec h refl

  pub by_ring : (r : Bool) → c ≡ true → r ≡ ring_fits f e → r ≡ ring_fits_lent f e n
  unfolding ring_fits_lent
  by_ring r h q = yes _ c _ _ _ ec h q
