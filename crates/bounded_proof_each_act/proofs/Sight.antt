-- Where a worker stands, in claims: of each place the word it holds and what the number of that word stands for.
use mathlib.Core.Path.{◌≡◌, ap}
use mathlib.Core.Logic.{◌≢◌}
use mathlib.Core.Bool.{Bool, true, false}
use Prim.Native.Nat.{ℕ, ◌+◌, ◌*◌, ◌%◌, ◌≤◌, ◌<◌}
use native.Mathlib.Omega.{arith}
use Rattle.bounded_words.specs.declared.Stamp.{Stamp}
use Rattle.bounded_places.specs.declared.Slot.{Slot}
use Rattle.bounded_places.specs.declared.Ends.{Ends}
use Rattle.bounded_places.specs.declared.Answer.{Answer}
use Rattle.bounded_places.specs.declared.Answer.TheVariants.{Nothing, Pushed, Full, Closed, Displaced, Popped, Empty, PopClosed, Len, Yes, No}
use Rattle.bounded_places.specs.declared.Place.{Place}
use Rattle.bounded_places.specs.declared.Place.TheVariants.{Idle, P1, P2, P3, P4, P5, P6, F6, F7, F8, F9, O1, O2, O3, O4, O5, O6, Len1, Len2, Len3, Empty1, Empty2, Full1, Full2, Close1, IsClosed1}
use Rattle.bounded_demands.specs.Notions.{Holding, NoWord, NewWord, OldWord}
use Rattle.bounded_proof_invariant.proofs.Ring.{Fill, Filled, Take, Grab, Swap, Swapped, taking, Cell, Await, Hold, Hand, number, Shared, View, Tail, Head}
use Rattle.bounded_proof_invariant.proofs.Ring.{Awaits, Holds, Forces, Rests, Owns, Keeps, ViewOk, CellOk, Inv}
use Rattle.bounded_proof_invariant.proofs.Effects.{Effect, Still, Tailed, Taken, Grabbed, Forced, Fills, Swaps, Frees, Gives, Course, view_course, tail_course}
use Rattle.bounded_proof_each_act.proofs.Stamps.{W, tail_word, slot_word}

pub data Look : Type 0 where
  -- no word; idle, with its answer
  Calm : Answer → Look
  -- the word of a claim; the word a lap on
  Sees Laps : Stamp → (ℕ → View) → Look
  -- a word of tail, marked or not; that, and a word of head
  Tails : Stamp → Look
  Counts : Stamp → Stamp → Look

abbrev pub look : ℕ → Place → Look
look c (Idle a) = Calm a
look c (P1 k x) = Calm Nothing
look c (P2 k t x) = Sees t Tail
look c (P3 k t x) = Sees t Awaits
look c (P4 t x) = Sees t (λ m. Keeps Fill m x m)
look c (P5 t) = Sees t (Owns Filled)
look c (P6 t x) = Sees t Tail
look c (F6 t x) = Laps t Forces
look c (F7 t x) = Laps t (Owns Grab)
look c (F8 t x) = Laps t (λ m. Keeps Swap m x (m + c))
look c (F9 t old) = Laps t (λ m. Keeps Swapped m old m)
look c O1 = Calm Nothing
look c (O2 h) = Sees h Head
look c (O3 h) = Sees h Holds
look c (O4 h) = Sees h (Owns Take)
look c (O5 h v) = Sees h (λ m. Keeps Take m v m)
look c (O6 h) = Sees h Rests
look c Len1 = Calm Nothing
look c (Len2 t) = Tails t
look c (Len3 t h) = Counts t h
look c Empty1 = Calm Nothing
look c (Empty2 h) = Sees h Head
look c Full1 = Calm Nothing
look c (Full2 t) = Tails t
look c Close1 = Calm Nothing
look c IsClosed1 = Calm Nothing

-- A slot in hand, with its index.
abbrev pub grips : View → Bool
grips (Tail t) = false
grips (Head h) = false
grips (Awaits t) = false
grips (Holds h) = false
grips (Forces h) = false
grips (Rests h) = false
grips (Owns st k) = true
grips (Keeps st k a m) = true

abbrev pub HandAt : ℕ → Look → ℕ → Type 0
HandAt mark (Calm a) i = ⊥
HandAt mark (Sees t v) i = (grips (v 0) ≡ true) × (t.0 % mark ≡ i)
HandAt mark (Laps t v) i = (grips (v 0) ≡ true) × (t.0 % mark ≡ i)
HandAt mark (Tails t) i = ⊥
HandAt mark (Counts t h) i = ⊥

-- What an act was, as the place after it shows: a tail claim of an item, a head claim, a value handed out, or none of these.
pub data Tale : Type 0 where
  Quiet Heading : Tale
  Tailing Giving : ℕ → Tale

abbrev pub answered : Answer → Tale
answered Nothing = Quiet
answered Pushed = Quiet
answered (Full x) = Quiet
answered (Closed x) = Quiet
answered (Displaced v) = Giving v
answered (Popped v) = Giving v
answered Empty = Quiet
answered PopClosed = Quiet
answered (Len k) = Quiet
answered Yes = Quiet
answered No = Quiet

abbrev pub claimed : View → Tale
claimed (Tail t) = Quiet
claimed (Head h) = Quiet
claimed (Awaits t) = Quiet
claimed (Holds h) = Quiet
claimed (Forces h) = Quiet
claimed (Rests h) = Quiet
claimed (Owns Fill k) = Quiet
claimed (Owns Filled k) = Quiet
claimed (Owns Take k) = Heading
claimed (Owns Grab k) = Heading
claimed (Owns Swap k) = Quiet
claimed (Owns Swapped k) = Quiet
claimed (Keeps Fill k x m) = Tailing x
claimed (Keeps Filled k x m) = Quiet
claimed (Keeps Take k x m) = Quiet
claimed (Keeps Grab k x m) = Quiet
claimed (Keeps Swap k x m) = Tailing x
claimed (Keeps Swapped k x m) = Quiet

abbrev pub tale : Look → Tale
tale (Calm a) = answered a
tale (Sees t v) = claimed (v 0)
tale (Laps t v) = claimed (v 0)
tale (Tails t) = Quiet
tale (Counts t h) = Quiet

abbrev pub answer_in : Look → Answer
answer_in (Calm a) = a
answer_in (Sees t v) = Nothing
answer_in (Laps t v) = Nothing
answer_in (Tails t) = Nothing
answer_in (Counts t h) = Nothing

abbrev pub told : Effect → Tale
told Still = Quiet
told (Tailed x) = Tailing x
told Taken = Heading
told Grabbed = Heading
told (Forced k x) = Tailing x
told (Fills k a) = Quiet
told (Swaps k a) = Quiet
told (Frees k y) = Quiet
told (Gives k y v) = Giving v

-- The stamp of a slot says its number, and whether it is full.
abbrev pub full : Cell → Bool
full (Await k) = false
full (Hold k) = true
full (Hand st k w) = taking st

-- How many claims there were at each end when a worker was given the word that it holds.
pub record Age : Type 0 where
  pub tail : ℕ
  pub head : ℕ

-- an act that gives its worker a word gives a new one
abbrev pub aged : Shared → Age → Holding → Age
aged s a NoWord = a
aged s a NewWord = record { tail = s.tail; head = s.head }
aged s a OldWord = a

-- the number that a word of this view is no less than (in hand it does not matter)
abbrev pub date_of : Age → View → ℕ
date_of a (Tail t) = a.tail
date_of a (Head h) = a.head
date_of a (Awaits t) = a.tail
date_of a (Holds h) = a.head
date_of a (Forces h) = a.tail
date_of a (Rests h) = a.head
date_of a (Owns st k) = 0
date_of a (Keeps st k x m) = 0

-- The ring's ends and slots as the machine has them, with so many laps to the width; the mark is outside the ring.
module _ (c mark n : ℕ) where
  abbrev pub ends_of_ring : Shared → Bool → Ends
  ends_of_ring s b = record { head = W c mark n s.head; tail = tail_word c mark n s.tail b }

  abbrev pub slot_of_ring : Cell → ℕ → Slot
  slot_of_ring x v = record { stamp = slot_word c mark n (full x) (number x); value = v }

  -- the words that a worker holds are words of claims, whose numbers are what it relies on, and no older than their gift
  abbrev pub Stands : Shared → ℕ → Age → Look → Type 0
  Stands s w a (Calm x) = Unit {0}
  Stands s w a (Sees t v) = (k : ℕ) × (t ≡ W c mark n k) × ViewOk c s w (v k) × (date_of a (v 0) ≤ k)
  Stands s w a (Laps t v) = (k : ℕ) × (t ≡ W c mark n (k + c)) × ViewOk c s w (v k) × (date_of a (v 0) ≤ k + c)
  Stands s w a (Tails t) = (k : ℕ) × (b : Bool) × (t ≡ tail_word c mark n k b) × (k ≤ s.tail) × (a.tail ≤ k)
  Stands s w a (Counts t h) =
      (k : ℕ) × (b : Bool) × (j : ℕ) × (t ≡ tail_word c mark n k b) × (h ≡ W c mark n j) × (k ≤ s.tail) × (s.tail ≡ k → (j ≤ k) × (k ≤ j + c)) × (a.tail ≤ k)

  -- Since a word was given, fewer claims were made at either end than a turn less one capacity. Words of the width wrap; this is all that their
  -- tests ask.
  abbrev pub Young : Shared → Age → Type 0
  Young s a = (s.tail + c < a.tail + n * c) × (s.head + c < a.head + n * c)

  -- A worker's word is so; in hand, and without a word, it does not matter.
  abbrev pub Recent : Shared → Age → Look → Type 0
  Recent s a (Calm x) = Unit {0}
  Recent s a (Sees t v) = grips (v 0) ≡ false → Young s a
  Recent s a (Laps t v) = grips (v 0) ≡ false → Young s a
  Recent s a (Tails t) = Young s a
  Recent s a (Counts t h) = Young s a

  -- another's act leaves a worker where it stands
  pub stands_else : (s u : Shared) (w i : ℕ) → Inv c s → Course c s u w i → (j : ℕ) → j ≢ w → (a : Age) (l : Look) → Stands s j a l → Stands u j a l
  stands_else s u w i inv d j ne a (Calm x) o = tt
  stands_else s u w i inv d j ne a (Sees t v) o = (o.0, o.1, view_course c s u w i inv d j ne (v o.0) o.2, o.3)
  stands_else s u w i inv d j ne a (Laps t v) o = (o.0, o.1, view_course c s u w i inv d j ne (v o.0) o.2, o.3)
  stands_else s u w i inv d j ne a (Tails t) o = (o.0, o.1, o.2, omega (arith, tail_course c s u w i d), o.4)
  stands_else s u w i inv d j ne a (Counts t h) o =
      (o.0, o.1, o.2, o.3, o.4, omega (arith, tail_course c s u w i d), λ e. o.6 (omega (arith, tail_course c s u w i d)), o.7)

-- What a slot's stamp says, where the end stands at its number.
module _ (c : ℕ) (s : Shared) (inv : Inv c s) (i : ℕ) where
  pub see_free : (t : ℕ) (x : Cell) → CellOk c s i x → full x ≡ false → number x ≡ t → s.tail ≡ t → x ≡ Await t
  see_free t (Await k) o e q z = ap Await q
  see_free t (Hold k) o e q z = absurd (let y : ◌≡◌ {A = ℕ} 0 1 = cc in omega arith)
  see_free t (Hand Fill k w) o e q z = absurd (omega (arith, o.1))
  see_free t (Hand Filled k w) o e q z = absurd (omega (arith, o.1))
  see_free t (Hand Take k w) o e q z = absurd (let y : ◌≡◌ {A = ℕ} 0 1 = cc in omega arith)
  see_free t (Hand Grab k w) o e q z = absurd (let y : ◌≡◌ {A = ℕ} 0 1 = cc in omega arith)
  see_free t (Hand Swap k w) o e q z = absurd (let y : ◌≡◌ {A = ℕ} 0 1 = cc in omega arith)
  see_free t (Hand Swapped k w) o e q z = absurd (let y : ◌≡◌ {A = ℕ} 0 1 = cc in omega arith)

  pub see_full : (h : ℕ) (x : Cell) → CellOk c s i x → full x ≡ true → number x ≡ h → s.head ≡ h → x ≡ Hold h
  see_full h (Await k) o e q z = absurd (let y : ◌≡◌ {A = ℕ} 0 1 = cc in omega arith)
  see_full h (Hold k) o e q z = ap Hold q
  see_full h (Hand Fill k w) o e q z = absurd (let y : ◌≡◌ {A = ℕ} 0 1 = cc in omega arith)
  see_full h (Hand Filled k w) o e q z = absurd (let y : ◌≡◌ {A = ℕ} 0 1 = cc in omega arith)
  see_full h (Hand Take k w) o e q z = absurd (omega (arith, o.1))
  see_full h (Hand Grab k w) o e q z = absurd (omega (arith, o.1))
  see_full h (Hand Swap k w) o e q z = absurd (omega (arith, o.1, inv.high))
  see_full h (Hand Swapped k w) o e q z = absurd (omega (arith, o.1, inv.high))

  pub number_slot : (x : Cell) → CellOk c s i x → number x % c ≡ i
  number_slot (Await k) o = o.0
  number_slot (Hold k) o = o.0
  number_slot (Hand st k w) o = o.0

  -- the number in a stamp is less than a lap from head
  pub number_near : (x : Cell) → CellOk c s i x → (s.head ≤ number x + c) × (number x < s.head + c)
  number_near (Await k) o = omega (arith, o, inv.low, inv.high)
  number_near (Hold k) o = omega (arith, o, inv.low, inv.high)
  number_near (Hand Fill k w) o = omega (arith, o.1, inv.low, inv.high)
  number_near (Hand Filled k w) o = omega (arith, o.1, inv.low, inv.high)
  number_near (Hand Take k w) o = omega (arith, o.1, inv.low, inv.high)
  number_near (Hand Grab k w) o = omega (arith, o.1, inv.low, inv.high)
  number_near (Hand Swap k w) o = omega (arith, o.1, inv.low, inv.high)
  number_near (Hand Swapped k w) o = omega (arith, o.1, inv.low, inv.high)

  -- of a full slot it is below tail
  pub number_full : (x : Cell) → CellOk c s i x → full x ≡ true → number x < s.tail
  number_full (Await k) o e = absurd (let y : ◌≡◌ {A = ℕ} 0 1 = cc in omega arith)
  number_full (Hold k) o e = o.2
  number_full (Hand Fill k w) o e = o.1.1
  number_full (Hand Filled k w) o e = o.1.1
  number_full (Hand Take k w) o e = omega (arith, o.1.0, inv.low)
  number_full (Hand Grab k w) o e = omega (arith, o.1.0, inv.low)
  number_full (Hand Swap k w) o e = omega (arith, o.1.1)
  number_full (Hand Swapped k w) o e = omega (arith, o.1.1)
