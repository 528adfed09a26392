-- A function of an enum, at a case that is known.
use Prim.Native.Nat.{ℕ}
use mathlib.Core.Path.{◌≡◌, ap, ◌∙◌}
use Rattle.queue_entries.proofs.Pick.{along}
use Rattle.queue_entries.specs.declared.Call.{Call}
use Rattle.unbounded_words.specs.declared.Index.{Index}
use Rattle.unbounded_words.specs.declared.Pointer.{Pointer}
use Rattle.unbounded_words.specs.Words.{sizes, offset_of}
use Rattle.unbounded_places.specs.declared.Place.{Place}
use Rattle.unbounded_places.specs.declared.View.{View}
use Rattle.unbounded_places.specs.Places.{on_slot, on_indexed, view_of, begin_of}

pub along_view : (p q : Place) (r : View) → p ≡ q → r ≡ view_of sizes q → r ≡ view_of sizes p
along_view = along (view_of sizes)

pub along_begin : (p q : Call) (r : Place) → p ≡ q → r ≡ begin_of q → r ≡ begin_of p
along_begin = along begin_of

pub indexed_is : (b : Pointer) (w : Index) (i : ℕ) (r : View) → i ≡ offset_of sizes w → r ≡ on_slot sizes b i → r ≡ on_indexed sizes b w
indexed_is b w i r e h = h ∙ ap (on_slot sizes b) e
