-- A place's words are read back as the place.
use mathlib.Core.Path.{◌≡◌, refl}
use Rattle.single_places.specs.declared.Answer.TheVariants as answer
use Rattle.single_places.specs.declared.Place.{Place}
use Rattle.single_places.specs.declared.Place.TheVariants as place
use Rattle.single_codes.specs.declared.Coded.{Coded}
use Rattle.single_codes.specs.Codes.{triple, code_of, place_in}

abbrev pub read_back_from : Coded → Place
read_back_from c = place_in c.code c.first c.second

pub read_back : (p : Place) → read_back_from (code_of p) ≡ p
unfolding triple place_in
read_back (place.Idle answer.Nothing) = refl
read_back (place.Idle answer.Pushed) = refl
read_back (place.Idle (answer.Full x)) = refl
read_back (place.Idle (answer.Closed x)) = refl
read_back (place.Idle (answer.Displaced x)) = refl
read_back (place.Idle (answer.Popped x)) = refl
read_back (place.Idle answer.Empty) = refl
read_back (place.Idle answer.PopClosed) = refl
read_back (place.Idle (answer.Len x)) = refl
read_back (place.Idle answer.Yes) = refl
read_back (place.Idle answer.No) = refl
read_back (place.A1 x) = refl
read_back (place.A2 x) = refl
read_back place.A3 = refl
read_back (place.B1 e x) = refl
read_back (place.B2 x) = refl
read_back place.B3 = refl
read_back (place.B4 x) = refl
read_back (place.B5 x) = refl
read_back (place.C1 e) = refl
read_back place.C2 = refl
read_back (place.C3 x) = refl
read_back place.Len1 = refl
read_back place.Empty1 = refl
read_back place.Full1 = refl
read_back place.Close1 = refl
read_back place.IsClosed1 = refl
