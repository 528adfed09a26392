-- A place as three words, its code and the two words that it holds, and back.
use Rattle.std.specs.Prelude.{ℕ, ◌-◌, Bool, false, cond, List, [], ◌∷◌, ltb, eqb, get_or}
use Rattle.single_words.specs.Words.{state}
use Rattle.single_places.specs.declared.Answer.{Answer}
use Rattle.single_places.specs.declared.Answer.TheVariants as answer
use Rattle.single_places.specs.declared.Place.{Place}
use Rattle.single_places.specs.declared.Place.TheVariants as place
use Rattle.single_codes.specs.declared.Coded.{Coded}

unfoldable pub triple : ℕ → ℕ → ℕ → Coded
triple c a b = record { code = c; first = a; second = b }

-- Codes are sorted by what a place holds: 0 to 10 idle with its last answer, as in the ring, of which 6 to 10 have a value; 11 to 26 busy. The first word is held from 6 to 18, the second
-- by 18 alone, and 0 where it is not.
abbrev pub answer_code : Answer → Coded
answer_code answer.Nothing = triple 0 0 0
answer_code answer.Pushed = triple 1 0 0
answer_code (answer.Full x) = triple 6 x 0
answer_code (answer.Closed x) = triple 7 x 0
answer_code (answer.Displaced x) = triple 8 x 0
answer_code (answer.Popped x) = triple 9 x 0
answer_code answer.Empty = triple 2 0 0
answer_code answer.PopClosed = triple 3 0 0
answer_code (answer.Len x) = triple 10 x 0
answer_code answer.Yes = triple 4 0 0
answer_code answer.No = triple 5 0 0

-- e before the item
abbrev pub code_of : Place → Coded
code_of (place.Idle a) = answer_code a
code_of (place.A1 x) = triple 11 x 0
code_of (place.A2 x) = triple 12 x 0
code_of place.A3 = triple 19 0 0
code_of (place.B1 e x) = triple 18 e.0 x
code_of (place.B2 x) = triple 13 x 0
code_of place.B3 = triple 20 0 0
code_of (place.B4 x) = triple 14 x 0
code_of (place.B5 x) = triple 15 x 0
code_of (place.C1 e) = triple 16 e.0 0
code_of place.C2 = triple 21 0 0
code_of (place.C3 x) = triple 17 x 0
code_of place.Len1 = triple 22 0 0
code_of place.Empty1 = triple 23 0 0
code_of place.Full1 = triple 24 0 0
code_of place.Close1 = triple 25 0 0
code_of place.IsClosed1 = triple 26 0 0

-- ---- and back
abbrev pub answers : ℕ → List Answer
answers x = answer.Nothing ∷ answer.Pushed ∷ answer.Empty ∷ answer.PopClosed ∷ answer.Yes ∷ answer.No ∷ answer.Full x ∷ answer.Closed x ∷ answer.Displaced x ∷ answer.Popped x ∷ answer.Len x ∷ []

abbrev pub answer_in : ℕ → ℕ → Answer
answer_in c x = get_or (answers x) c (answer.Len x)

abbrev pub places : ℕ → ℕ → List Place
places a b =
    place.A1 a
    ∷ place.A2 a
    ∷ place.B2 a
    ∷ place.B4 a
    ∷ place.B5 a
    ∷ place.C1 (state a)
    ∷ place.C3 a
    ∷ place.B1 (state a) b
    ∷ place.A3
    ∷ place.B3
    ∷ place.C2
    ∷ place.Len1
    ∷ place.Empty1
    ∷ place.Full1
    ∷ place.Close1
    ∷ place.IsClosed1
    ∷ []

abbrev pub held_in : ℕ → ℕ → ℕ → Place
held_in c a b = get_or (places a b) c place.IsClosed1

unfoldable pub place_in : ℕ → ℕ → ℕ → Place
place_in c a b = cond (ltb c 11) (place.Idle (answer_in c a)) (held_in (c - 11) a b)

abbrev pub same_as : Coded → ℕ → ℕ → ℕ → Bool
same_as x c a b = cond (eqb x.code c) (cond (eqb x.first a) (eqb x.second b) false) false

-- Words stand for a place if the place that they are read as has these words: no code but a place's, 0 in every word that it does not hold.
unfoldable pub stands_for : ℕ → ℕ → ℕ → Bool
stands_for c a b = same_as (code_of (place_in c a b)) c a b
