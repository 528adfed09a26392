-- What the contents of lent records are, as the code finds them out.
use Prim.Native.Nat.{ℕ}
use mathlib.Core.Path.{◌≡◌, refl, sym, ap, ◌∙◌}
use mathlib.Core.Bool.{Bool, true, false, cond, not}
use mathlib.Core.List.{List}
use native.Mathlib.Omega.{arith}
use lib.ListN.{length}
use borrow.Author.Tests.{le-ltb}
use Rattle.std.specs.Prelude.{Err}
use Rattle.queue_entries.specs.Told.{told}
use Rattle.bounded_words.specs.declared.Fixed.{Fixed}
use Rattle.bounded_places.specs.declared.Worker.{Worker}
use Rattle.bounded_places.specs.Places.{view_of, fits_of}
use Rattle.bounded_machine.specs.Machine.{record_of_worker, idler, fixed_on}
use Rattle.bounded_machine.specs.Broken.{place_fits, record_fits, all_idle}
use Rattle.bounded_machine.proofs.Kept.{UnbrokenWith, ring_in, few_differed, few_failed}
use Rattle.bounded_orders.specs.declared.Metered.{Metered}
use Rattle.bounded_orders.specs.Orders.{filled, contents_by, contents_on}
use Rattle.bounded_lent.specs.Lent.{held, broken_lent, each_fits, contents_lent}
use Rattle.bounded_lent.proofs.Turning.{all_same, unbroken_lent, record_fits_lem}

-- an idle record fits
pub idle_fits : (f : Fixed) (meter : ℕ) (r : Worker) (b : Bool) → r ≡ idler → record_fits f meter r b ≡ true
unfolding record_fits place_fits
idle_fits f meter r b e = rw (e, le-ltb meter 0 (omega arith))

-- of records that fit, those that would past the count are the idle ones
past_count : (f : Fixed) (meter : ℕ) (r : Worker) → record_fits f meter r true ≡ true → record_fits f meter r false ≡ not (view_of r.place).busy
unfolding record_fits place_fits
past_count f meter r h = rw (le-ltb meter r.differed (few_differed f meter r true h), le-ltb meter r.failed (few_failed f meter r true h)) (go (view_of r.place).busy)
  where
    go : (b : Bool) → cond b (cond false (fits_of f (view_of r.place).held) false) true ≡ not b
    go true = refl
    go false = refl

module _ (l : Metered) (ys : List Worker) where
  pub six_first : (ws : List ℕ) → broken_lent l ys ≡ true → filled (Err 6) ws ≡ contents_lent l ys ws
  unfolding contents_lent contents_by told
  six_first ws h = rw h refl

  module _ (sound : broken_lent l ys ≡ false) where
    abbrev u : UnbrokenWith (length ys) (held l ys)
    u = unbroken_lent l ys sound

    idle_is : each_fits (fixed_on l.ring) l.meter false ys ≡ all_idle ys
    unfolding each_fits all_idle
    idle_is = all_same (length ys) 0 _ _ (λ k low g. past_count (fixed_on l.ring) l.meter (record_of_worker ys k) (record_fits_lem l ys u k (omega arith)))

    pub listed : (ws : List ℕ) → contents_on (each_fits (fixed_on l.ring) l.meter false ys) l.ring ws ≡ contents_lent l ys ws
    unfolding contents_on contents_lent
    listed ws = (λ i. contents_by (not (ring_in (held l ys) u i)) (idle_is i) l.ring ws) ∙ ap (λ (b : Bool). contents_by b (all_idle ys) l.ring ws) (sym sound)
