-- Inside, by the index that was computed.
use Prim.Native.Nat.{ℕ}
use mathlib.Core.Path.{◌≡◌, ap}
use lib.Dec.{ltb}
use Rattle.bounded_words.specs.declared.Stamp.{Stamp}
use Rattle.bounded_words.specs.declared.Fixed.{Fixed}
use Rattle.bounded_words.specs.Words.{Indexed}
use Rattle.bounded_places.specs.Places.{inside}

pub inside_is : (f : Fixed) (w : Stamp) (i : ℕ) → Indexed f w i → ltb i f.capacity ≡ inside f w
unfolding inside
inside_is f w i x = ap (λ (n : ℕ). ltb n f.capacity) x.is
