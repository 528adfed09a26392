-- A function of an enum, at a case that is known.
use mathlib.Core.Path.{◌≡◌}
use Rattle.queue_entries.proofs.Pick.{along}
use Rattle.queue_entries.specs.declared.Call.{Call}
use Rattle.single_places.specs.declared.Place.{Place}
use Rattle.single_places.specs.declared.View.{View}
use Rattle.single_places.specs.Places.{view_of, begin_of}

pub along_view : (p q : Place) (r : View) → p ≡ q → r ≡ view_of q → r ≡ view_of p
along_view = along view_of

pub along_begin : (p q : Call) (r : Place) → p ≡ q → r ≡ begin_of q → r ≡ begin_of p
along_begin = along begin_of
