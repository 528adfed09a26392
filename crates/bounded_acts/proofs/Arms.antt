-- What a won exchange leaves.
use Rattle.std.proofs.Common.{◌≡◌, refl}
use Rattle.bounded_words.specs.declared.Stamp.{Stamp}
use Rattle.bounded_words.specs.declared.Fixed.{Fixed}
use Rattle.bounded_words.specs.declared.Width.{Width}
use Rattle.bounded_words.specs.Words.{next_of}
use Rattle.bounded_places.specs.declared.Slot.{Slot}
use Rattle.bounded_places.specs.declared.Ends.{Ends}
use Rattle.bounded_places.specs.declared.Exchange.TheVariants.{Won}
use Rattle.bounded_places.specs.declared.Place.TheVariants.{O4}
use Rattle.bounded_acts.specs.Acts.{goes, head_to, end_o3}

-- O3, won, loses nothing
pub o3_won : (bits : Width) (f : Fixed) (e : Ends) (s : Slot) (h : Stamp) → end_o3 bits f e s h Won ≡ goes (head_to e (next_of bits f h)) s (O4 h)
o3_won bits f e s h = refl
