-- What the machine's functions rest on.
use Prim.Native.Nat.{◌<◌, ◌≤◌}
use mathlib.Core.Path.{◌≡◌, refl, ap}
use mathlib.Core.Bool.{Bool, true, false, not}
use lib.Dec.{leb}
use borrow.Author.Tests.{le-leb, lt-leb}
use Rattle.queue_entries.specs.Limits.{workers_most, in_limits}
use Rattle.queue_entries.proofs.Pick.{yes, no, on, off}
use Rattle.single_words.specs.Words.{state_most}
use Rattle.single_places.specs.declared.Place.{Place}
use Rattle.single_places.specs.declared.View.{View}
use Rattle.single_places.specs.Places.{view_of}
use Rattle.single_machine.specs.declared.Machine.{Machine}
use Rattle.single_machine.specs.Broken.{record_fits, idle_from, broken_of}

-- what is read off a place
module _ (p : Place) (v : View) (e : v ≡ view_of p) (among : Bool) where
  pub idle_fits : v.busy ≡ false → true ≡ record_fits p among
  unfolding record_fits
  idle_fits h = rw (← e) (off v.busy _ _ _ h refl)

  pub busy_fits : v.busy ≡ true → among ≡ record_fits p among
  unfolding record_fits
  busy_fits h = rw (← e) (on v.busy _ _ _ h refl)

-- broken, by the first test that fails, or unbroken
module _ (m : Machine) where
  pub broken_state : state_most < m.single.state.0 → true ≡ broken_of m
  unfolding broken_of
  broken_state h = off (leb m.single.state.0 state_most) _ _ _ (lt-leb _ _ h) refl

  module _ (h : m.single.state.0 ≤ state_most) (b : Bool) (e : b ≡ in_limits m.count workers_most) where
    pub broken_count : b ≡ false → true ≡ broken_of m
    unfolding broken_of
    broken_count q = on (leb m.single.state.0 state_most) _ _ _ (le-leb _ _ h) (no _ b _ _ _ e q refl)

    module _ (q : b ≡ true) (d : Bool) (g : d ≡ idle_from m.count m.workers) where
      pub broken_records : not d ≡ broken_of m
      unfolding broken_of
      broken_records = on (leb m.single.state.0 state_most) _ _ _ (le-leb _ _ h) (yes _ b _ _ _ e q (ap not g))
