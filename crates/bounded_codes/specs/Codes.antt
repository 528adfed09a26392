-- A place as three words, its code and the two words that it holds, and back. One table of codes for whoever writes a place as numbers.
use Rattle.std.specs.Prelude.{ℕ, ◌-◌, Bool, true, false, cond, List, [], ◌∷◌, ltb, leb, eqb, get_or}
use Rattle.bounded_words.specs.Words.{stamp}
use Rattle.bounded_places.specs.declared.Answer.{Answer}
use Rattle.bounded_places.specs.declared.Answer.TheVariants as answer
use Rattle.bounded_places.specs.declared.Kind.{Kind}
use Rattle.bounded_places.specs.declared.Kind.TheVariants as kind
use Rattle.bounded_places.specs.declared.Place.{Place}
use Rattle.bounded_places.specs.declared.Place.TheVariants as place
use Rattle.bounded_codes.specs.declared.Coded.{Coded}

unfoldable pub triple : ℕ → ℕ → ℕ → Coded
triple c a b = record { code = c; first = a; second = b }

-- Codes are sorted by what a place holds: 0 to 10 idle with its last answer, of which 6 to 10 have a value; 11 to 38 busy. The first word is held from 6 to 32, the second from 21 to 32, and 0 where it is not.
abbrev pub answer_code : Answer → Coded
answer_code answer.Nothing = triple 0 0 0
answer_code answer.Pushed = triple 1 0 0
answer_code (answer.Full x) = triple 6 x 0
answer_code (answer.Closed x) = triple 7 x 0
answer_code (answer.Displaced x) = triple 8 x 0
answer_code (answer.Popped x) = triple 9 x 0
answer_code answer.Empty = triple 2 0 0
answer_code answer.PopClosed = triple 3 0 0
answer_code (answer.Len x) = triple 10 x 0
answer_code answer.Yes = triple 4 0 0
answer_code answer.No = triple 5 0 0

abbrev pub kind_code : Kind → ℕ → ℕ → ℕ
kind_code kind.Push a b = a
kind_code kind.Force a b = b

-- t or h before the item or the value
abbrev pub code_of : Place → Coded
code_of (place.Idle a) = answer_code a
code_of (place.P1 k a) = triple (kind_code k 11 12) a 0
code_of (place.P2 k a b) = triple (kind_code k 22 23) a.0 b
code_of (place.P3 k a b) = triple (kind_code k 24 25) a.0 b
code_of (place.P4 a b) = triple 26 a.0 b
code_of (place.P5 a) = triple 15 a.0 0
code_of (place.P6 a b) = triple 27 a.0 b
code_of (place.F6 a b) = triple 28 a.0 b
code_of (place.F7 a b) = triple 29 a.0 b
code_of (place.F8 a b) = triple 30 a.0 b
code_of (place.F9 a b) = triple 31 a.0 b
code_of place.O1 = triple 33 0 0
code_of (place.O2 a) = triple 16 a.0 0
code_of (place.O3 a) = triple 17 a.0 0
code_of (place.O4 a) = triple 18 a.0 0
code_of (place.O5 a b) = triple 32 a.0 b
code_of (place.O6 a) = triple 19 a.0 0
code_of place.Len1 = triple 34 0 0
code_of (place.Len2 a) = triple 20 a.0 0
code_of (place.Len3 a b) = triple 21 a.0 b.0
code_of place.Empty1 = triple 35 0 0
code_of (place.Empty2 a) = triple 13 a.0 0
code_of place.Full1 = triple 36 0 0
code_of (place.Full2 a) = triple 14 a.0 0
code_of place.Close1 = triple 37 0 0
code_of place.IsClosed1 = triple 38 0 0

-- ---- and back
abbrev pub answers : ℕ → List Answer
answers x = answer.Nothing ∷ answer.Pushed ∷ answer.Empty ∷ answer.PopClosed ∷ answer.Yes ∷ answer.No ∷ answer.Full x ∷ answer.Closed x ∷ answer.Displaced x ∷ answer.Popped x ∷ answer.Len x ∷ []

abbrev pub answer_in : ℕ → ℕ → Answer
answer_in c x = get_or (answers x) c (answer.Len x)

abbrev pub places : ℕ → ℕ → List Place
places a b =
    place.P1 kind.Push a
    ∷ place.P1 kind.Force a
    ∷ place.Empty2 (stamp a)
    ∷ place.Full2 (stamp a)
    ∷ place.P5 (stamp a)
    ∷ place.O2 (stamp a)
    ∷ place.O3 (stamp a)
    ∷ place.O4 (stamp a)
    ∷ place.O6 (stamp a)
    ∷ place.Len2 (stamp a)
    ∷ place.Len3 (stamp a) (stamp b)
    ∷ place.P2 kind.Push (stamp a) b
    ∷ place.P2 kind.Force (stamp a) b
    ∷ place.P3 kind.Push (stamp a) b
    ∷ place.P3 kind.Force (stamp a) b
    ∷ place.P4 (stamp a) b
    ∷ place.P6 (stamp a) b
    ∷ place.F6 (stamp a) b
    ∷ place.F7 (stamp a) b
    ∷ place.F8 (stamp a) b
    ∷ place.F9 (stamp a) b
    ∷ place.O5 (stamp a) b
    ∷ place.O1
    ∷ place.Len1
    ∷ place.Empty1
    ∷ place.Full1
    ∷ place.Close1
    ∷ place.IsClosed1
    ∷ []

abbrev pub held_in : ℕ → ℕ → ℕ → Place
held_in c a b = get_or (places a b) c place.IsClosed1

unfoldable pub place_in : ℕ → ℕ → ℕ → Place
place_in c a b = cond (ltb c 11) (place.Idle (answer_in c a)) (held_in (c - 11) a b)

abbrev pub same_as : Coded → ℕ → ℕ → ℕ → Bool
same_as x c a b = cond (eqb x.code c) (cond (eqb x.first a) (eqb x.second b) false) false

-- Words stand for a place if the place that they are read as has these words: no code but a place's, 0 in every word that it does not hold.
unfoldable pub stands_for : ℕ → ℕ → ℕ → Bool
stands_for c a b = same_as (code_of (place_in c a b)) c a b

-- how the code finds it out (`stands`): a number in a range, and a word that is 0 where it is not held
unfoldable pub within : ℕ → ℕ → ℕ → Bool
within c from to = cond (leb from c) (ltb c to) false

unfoldable pub may_be : ℕ → Bool → Bool
may_be w held = cond held true (eqb w 0)
