-- What a row of the tables asks.
use mathlib.Core.Path.{◌≡◌, subst}
use mathlib.Core.Bool.{true, false, cond}
use borrow.Author.Tests.{ltb-true}
use Rattle.queue_entries.proofs.Pick.{both_left, both_right}
use Rattle.bounded_words.specs.declared.Stamp.{Stamp}
use Rattle.bounded_words.specs.declared.Fixed.{Fixed}
use Rattle.bounded_words.specs.Words.{index_of}
use Rattle.bounded_places.specs.declared.Place.{Place}
use Rattle.bounded_places.specs.declared.Place.TheVariants.{Len3}
use Rattle.bounded_places.specs.Places.{inside, fits_of, view_of}
use Rattle.bounded_acts.specs.Acts.{Fits, Within}

-- what `count` asks of the words that len holds
pub within : (f : Fixed) (p : Place) (t h : Stamp) → Fits f p → p ≡ Len3 t h → Within f t h
unfolding inside
within f p t h x e = go (subst (λ (q : Place). fits_of f (view_of q).held ≡ true) e x.held)
  where
    go : cond (inside f t) (inside f h) false ≡ true → Within f t h
    go k = record {
      fair = x.fair;
      low = ltb-true (index_of f h) f.capacity (both_right (inside f t) (inside f h) k);
      high = ltb-true (index_of f t) f.capacity (both_left (inside f t) (inside f h) k);
    }
