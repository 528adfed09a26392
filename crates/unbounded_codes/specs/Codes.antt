-- A place as five words, its code and the four words that it holds, and back. One table of codes for whoever writes a place as numbers.
use Rattle.std.specs.Prelude.{ℕ, ◌-◌, Bool, false, cond, List, [], ◌∷◌, ◌≡◌, ltb, eqb, get_or}
use Rattle.unbounded_words.specs.declared.Pointer.{Pointer}
use Rattle.unbounded_words.specs.declared.Pointer.TheVariants.{None, To}
use Rattle.unbounded_words.specs.Words.{sizes, index, number_of}
use Rattle.unbounded_places.specs.declared.Answer.{Answer}
use Rattle.unbounded_places.specs.declared.Answer.TheVariants as answer
use Rattle.unbounded_places.specs.declared.Place.{Place}
use Rattle.unbounded_places.specs.declared.Place.TheVariants as place
use Rattle.unbounded_codes.specs.declared.Coded.{Coded}

unfoldable pub five : ℕ → ℕ → ℕ → ℕ → ℕ → Coded
five n a b c d = record { code = n; first = a; second = b; third = c; fourth = d }

-- A block among the words is its number, that of no block (64) for none.
abbrev pub first_block : ℕ → Pointer → ℕ → ℕ → ℕ → Coded
first_block n a b c d = five n (number_of sizes a) b c d

abbrev pub second_block : ℕ → ℕ → Pointer → ℕ → ℕ → Coded
second_block n a b c d = five n a (number_of sizes b) c d

abbrev pub aside : ℕ → Pointer → ℕ → Pointer → ℕ → Coded
aside n a b c d = five n (number_of sizes a) b (number_of sizes c) d

abbrev pub two_blocks : ℕ → Pointer → Pointer → ℕ → ℕ → Coded
two_blocks n a b c d = five n (number_of sizes a) (number_of sizes b) c d

abbrev pub next_last : ℕ → ℕ → Pointer → ℕ → Pointer → Coded
next_last n a b c d = five n a (number_of sizes b) c (number_of sizes d)

abbrev pub next_third : ℕ → ℕ → Pointer → Pointer → ℕ → Coded
next_third n a b c d = five n a (number_of sizes b) (number_of sizes c) d

-- Codes are in the order of request 12's table: 0 to 10 idle with its last answer, as in the ring (6 and 8, which are Full and Displaced there, are no code here); 11 to 48 busy. Words are in
-- the table's order, and 0 where there is no other.
abbrev pub answer_code : Answer → Coded
answer_code answer.Nothing = five 0 0 0 0 0
answer_code answer.Pushed = five 1 0 0 0 0
answer_code (answer.Closed x) = five 7 x 0 0 0
answer_code (answer.Popped x) = five 9 x 0 0 0
answer_code answer.Empty = five 2 0 0 0 0
answer_code answer.PopClosed = five 3 0 0 0 0
answer_code (answer.Len x) = five 10 x 0 0 0
answer_code answer.Yes = five 4 0 0 0 0
answer_code answer.No = five 5 0 0 0 0

-- U14: the block, then the answer's code and its value
abbrev pub with_answer : ℕ → Pointer → Coded → Coded
with_answer n p x = first_block n p x.code x.first 0

abbrev pub code_of : Place → Coded
code_of (place.Idle a) = answer_code a
code_of (place.U1 a b) = first_block 11 a b 0 0
code_of (place.U2 a b c) = first_block 12 a b.0 c 0
code_of (place.U3 a b c) = second_block 13 a.0 b c 0
code_of (place.U4 a b c) = first_block 14 a b.0 c 0
code_of (place.U5 a b c d) = aside 15 a b.0 c d
code_of (place.U6 a b c d) = aside 16 a b.0 c d
code_of (place.U7 a b c d) = aside 17 a b.0 c d
code_of (place.U8 a b c) = first_block 18 a b.0 c 0
code_of (place.U9 a b c d) = aside 19 a b.0 c d
code_of (place.U10 a b c d) = aside 20 a b.0 c d
code_of (place.U11 a b c d) = aside 21 a b.0 c d
code_of (place.U12 a b c d) = aside 22 a b.0 c d
code_of (place.U13 a b c) = aside 23 a b.0 c 0
code_of (place.U14 p a) = with_answer 24 p (answer_code a)
code_of (place.U15 a b c) = two_blocks 25 a b c 0
code_of place.V1 = five 26 0 0 0 0
code_of (place.V2 a) = five 27 a.0 0 0 0
code_of (place.V3 a b) = second_block 28 a.0 b 0 0
code_of (place.V4 a b c) = second_block 29 a.0 b c.0 0
code_of (place.V5 a) = five 30 a.0 0 0 0
code_of (place.V6 a b c) = second_block 31 a.0 b c.0 0
code_of (place.V7 a b c d) = next_last 32 a.0 b c.0 d
code_of (place.V8 a b c d) = next_third 33 a.0 b c d.0
code_of (place.V9 a b c) = second_block 34 a.0 b c.0 0
code_of (place.V10 a b) = second_block 35 a.0 b 0 0
code_of (place.V11 a b) = second_block 36 a.0 b 0 0
code_of (place.V12 a b c) = second_block 37 a.0 b c 0
code_of (place.V13 a b c) = first_block 38 a b c 0
code_of (place.V14 a b c) = first_block 39 a b c 0
code_of (place.V15 a b) = first_block 40 a b 0 0
code_of place.Len1 = five 41 0 0 0 0
code_of (place.Len2 a) = five 42 a.0 0 0 0
code_of (place.Len3 a b) = five 43 a.0 b.0 0 0
code_of place.Empty1 = five 44 0 0 0 0
code_of (place.Empty2 a) = five 45 a.0 0 0 0
code_of place.Full1 = five 46 0 0 0 0
code_of place.Close1 = five 47 0 0 0 0
code_of place.IsClosed1 = five 48 0 0 0 0

-- ---- and back
unfoldable pub pointer_in : ℕ → Pointer
pointer_in n = cond (eqb n 64) None (To n)

abbrev pub answers : ℕ → List Answer
answers x = answer.Nothing ∷ answer.Pushed ∷ answer.Empty ∷ answer.PopClosed ∷ answer.Yes ∷ answer.No ∷ answer.Nothing ∷ answer.Closed x ∷ answer.Nothing ∷ answer.Popped x ∷ answer.Len x ∷ []

abbrev pub answer_in : ℕ → ℕ → Answer
answer_in n x = get_or (answers x) n (answer.Len x)

-- pa to pd are the words as blocks, w the second and the third as an answer
abbrev pub pushes : ℕ → ℕ → ℕ → ℕ → Pointer → Pointer → Pointer → Answer → List Place
pushes a b c d pa pb pc w =
    place.U1 pa b
    ∷ place.U2 pa (index b) c
    ∷ place.U3 (index a) pb c
    ∷ place.U4 pa (index b) c
    ∷ place.U5 pa (index b) pc d
    ∷ place.U6 pa (index b) pc d
    ∷ place.U7 pa (index b) pc d
    ∷ place.U8 pa (index b) c
    ∷ place.U9 pa (index b) pc d
    ∷ place.U10 pa (index b) pc d
    ∷ place.U11 pa (index b) pc d
    ∷ place.U12 pa (index b) pc d
    ∷ place.U13 pa (index b) pc
    ∷ place.U14 pa w
    ∷ place.U15 pa pb c
    ∷ []

abbrev pub push_in : ℕ → ℕ → ℕ → ℕ → ℕ → Pointer → Pointer → Pointer → Answer → Place
push_in n a b c d pa pb pc w = get_or (pushes a b c d pa pb pc w) n (place.U15 pa pb c)

abbrev pub pops : ℕ → ℕ → ℕ → ℕ → Pointer → Pointer → Pointer → Pointer → List Place
pops a b c d pa pb pc pd =
    place.V1
    ∷ place.V2 (index a)
    ∷ place.V3 (index a) pb
    ∷ place.V4 (index a) pb (index c)
    ∷ place.V5 (index a)
    ∷ place.V6 (index a) pb (index c)
    ∷ place.V7 (index a) pb (index c) pd
    ∷ place.V8 (index a) pb pc (index d)
    ∷ place.V9 (index a) pb (index c)
    ∷ place.V10 (index a) pb
    ∷ place.V11 (index a) pb
    ∷ place.V12 (index a) pb c
    ∷ place.V13 pa b c
    ∷ place.V14 pa b c
    ∷ place.V15 pa b
    ∷ []

abbrev pub pop_in : ℕ → ℕ → ℕ → ℕ → ℕ → Pointer → Pointer → Pointer → Pointer → Place
pop_in n a b c d pa pb pc pd = get_or (pops a b c d pa pb pc pd) n (place.V15 pa b)

abbrev pub looks : ℕ → ℕ → List Place
looks a b =
    place.Len1
    ∷ place.Len2 (index a)
    ∷ place.Len3 (index a) (index b)
    ∷ place.Empty1
    ∷ place.Empty2 (index a)
    ∷ place.Full1
    ∷ place.Close1
    ∷ place.IsClosed1
    ∷ []

abbrev pub look_in : ℕ → ℕ → ℕ → Place
look_in n a b = get_or (looks a b) n place.IsClosed1

unfoldable pub place_in : ℕ → ℕ → ℕ → ℕ → ℕ → Place
place_in n a b c d =
    cond (ltb n 11) (place.Idle (answer_in n a))
    (cond (ltb n 41)
    (cond (ltb n 26)
    (push_in (n - 11) a b c d (pointer_in a) (pointer_in b) (pointer_in c) (answer_in b c))
    (pop_in (n - 26) a b c d (pointer_in a) (pointer_in b) (pointer_in c) (pointer_in d)))
    (look_in (n - 41) a b))

abbrev pub same_as : Coded → ℕ → ℕ → ℕ → ℕ → ℕ → Bool
same_as x n a b c d =
    cond (eqb x.code n)
    (cond (eqb x.first a) (cond (eqb x.second b) (cond (eqb x.third c) (eqb x.fourth d) false) false) false)
    false

-- Words stand for a place if the place that they are read as has these words: no code but a place's, 0 in every word that it does not hold.
unfoldable pub stands_for : ℕ → ℕ → ℕ → ℕ → ℕ → Bool
stands_for n a b c d = same_as (code_of (place_in n a b c d)) n a b c d

-- ---- which places have words
-- A word says none or a block by its number; it does not say a block numbered as none is.
abbrev pub Said : Pointer → Type 0
Said None = Unit
Said (To k) = k ≡ 64 → ⊥

-- the pointers that a place holds, two at most; none where there is no other
abbrev pub one_pointer : Place → Pointer
one_pointer (place.Idle a) = None
one_pointer (place.U1 a b) = a
one_pointer (place.U2 a b c) = a
one_pointer (place.U3 a b c) = b
one_pointer (place.U4 a b c) = a
one_pointer (place.U5 a b c d) = a
one_pointer (place.U6 a b c d) = a
one_pointer (place.U7 a b c d) = a
one_pointer (place.U8 a b c) = a
one_pointer (place.U9 a b c d) = a
one_pointer (place.U10 a b c d) = a
one_pointer (place.U11 a b c d) = a
one_pointer (place.U12 a b c d) = a
one_pointer (place.U13 a b c) = a
one_pointer (place.U14 a b) = a
one_pointer (place.U15 a b c) = a
one_pointer place.V1 = None
one_pointer (place.V2 a) = None
one_pointer (place.V3 a b) = b
one_pointer (place.V4 a b c) = b
one_pointer (place.V5 a) = None
one_pointer (place.V6 a b c) = b
one_pointer (place.V7 a b c d) = b
one_pointer (place.V8 a b c d) = b
one_pointer (place.V9 a b c) = b
one_pointer (place.V10 a b) = b
one_pointer (place.V11 a b) = b
one_pointer (place.V12 a b c) = b
one_pointer (place.V13 a b c) = a
one_pointer (place.V14 a b c) = a
one_pointer (place.V15 a b) = a
one_pointer place.Len1 = None
one_pointer (place.Len2 a) = None
one_pointer (place.Len3 a b) = None
one_pointer place.Empty1 = None
one_pointer (place.Empty2 a) = None
one_pointer place.Full1 = None
one_pointer place.Close1 = None
one_pointer place.IsClosed1 = None

abbrev pub other_pointer : Place → Pointer
other_pointer (place.Idle a) = None
other_pointer (place.U1 a b) = None
other_pointer (place.U2 a b c) = None
other_pointer (place.U3 a b c) = None
other_pointer (place.U4 a b c) = None
other_pointer (place.U5 a b c d) = c
other_pointer (place.U6 a b c d) = c
other_pointer (place.U7 a b c d) = c
other_pointer (place.U8 a b c) = None
other_pointer (place.U9 a b c d) = c
other_pointer (place.U10 a b c d) = c
other_pointer (place.U11 a b c d) = c
other_pointer (place.U12 a b c d) = c
other_pointer (place.U13 a b c) = c
other_pointer (place.U14 a b) = None
other_pointer (place.U15 a b c) = b
other_pointer place.V1 = None
other_pointer (place.V2 a) = None
other_pointer (place.V3 a b) = None
other_pointer (place.V4 a b c) = None
other_pointer (place.V5 a) = None
other_pointer (place.V6 a b c) = None
other_pointer (place.V7 a b c d) = d
other_pointer (place.V8 a b c d) = c
other_pointer (place.V9 a b c) = None
other_pointer (place.V10 a b) = None
other_pointer (place.V11 a b) = None
other_pointer (place.V12 a b c) = None
other_pointer (place.V13 a b c) = None
other_pointer (place.V14 a b c) = None
other_pointer (place.V15 a b) = None
other_pointer place.Len1 = None
other_pointer (place.Len2 a) = None
other_pointer (place.Len3 a b) = None
other_pointer place.Empty1 = None
other_pointer (place.Empty2 a) = None
other_pointer place.Full1 = None
other_pointer place.Close1 = None
other_pointer place.IsClosed1 = None

abbrev pub SaidOf : Place → Type 0
SaidOf p = Said (one_pointer p) × Said (other_pointer p)
