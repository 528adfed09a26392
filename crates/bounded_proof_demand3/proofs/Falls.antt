-- The rank falls with every act of a call that alone is scheduled. It goes by the words alone; what the ring adds is what a
-- stamp load finds when no slot is in another's hand (`Finds`).
use mathlib.Core.Path.{◌≡◌, refl, sym, ap, ◌∙◌, subst}
use mathlib.Core.Bool.{Bool, true, false, cond, true≢false}
use Prim.Native.Nat.{ℕ, ◌+◌, ◌*◌, ◌≤◌, ◌<◌}
use native.Mathlib.Omega.{arith}
use native.Mathlib.Decide.{dec_lt}
use lib.Dec.{eqb}
use borrow.Author.Tests.{eq-eqb}
use Rattle.bounded_words.specs.declared.Stamp.{Stamp}
use Rattle.bounded_words.specs.declared.Fixed.{Fixed}
use Rattle.bounded_words.specs.declared.Width.{Width}
use Rattle.bounded_words.specs.Words.{index_of, marked_of, unmarked_of, minus, with_mark, same, one_past, lap_behind, lap_behind_one_past}
use Rattle.bounded_places.specs.declared.Slot.{Slot}
use Rattle.bounded_places.specs.declared.Ends.{Ends}
use Rattle.bounded_places.specs.declared.Kind.{Kind}
use Rattle.bounded_places.specs.declared.Kind.TheVariants.{Push, Force}
use Rattle.bounded_places.specs.declared.Answer.TheVariants.{Full, Closed, Empty, PopClosed, Len, Yes, No}
use Rattle.bounded_places.specs.declared.Exchange.{Exchange}
use Rattle.bounded_places.specs.declared.Exchange.TheVariants.{Won, Differed}
use Rattle.bounded_places.specs.declared.Moved.{Moved}
use Rattle.bounded_places.specs.declared.Moved.TheVariants.{Neither, Tail, Head}
use Rattle.bounded_places.specs.declared.Place.{Place}
use Rattle.bounded_places.specs.declared.Place.TheVariants.{Idle, P1, P2, P3, P4, P5, P6, F6, F7, F8, F9, O1, O2, O3, O4, O5, O6, Len1, Len2, Len3, Empty1, Empty2, Full1, Full2, Close1, IsClosed1}
use Rattle.bounded_places.specs.Places.{view_of}
use Rattle.bounded_acts.specs.declared.Acted.{Acted}
use Rattle.bounded_acts.specs.Acts.{goes, losing, exchange_of, after_tail, end_p3, end_f6, end_o3, tail_to, head_to, act_of, act_p2, act_p3, full_at, count_of}
use Rattle.bounded_machine.proofs.Kept.{either, exchanged}
use Rattle.bounded_demands.specs.Notions.{one_more_act, most_of, by_tail, round_more, most_beside}
use Rattle.bounded_proof_demand3.specs.Rank.{rank_beside}

-- What a stamp load finds. At P2 with the word of tail: free, or full a lap behind, and then head is a lap behind too. At O2
-- with the word of head: full, or free, and then tail is there too.
pub record FindsTail (bits : Width) (f : Fixed) (e : Ends) (s : Slot) (t : Stamp) : Type 0 where
  pub decides : same (unmarked_of f e.tail) t ≡ true → same s.stamp t ≡ false → lap_behind_one_past bits f s.stamp t ≡ false → ⊥
  pub full : lap_behind_one_past bits f s.stamp t ≡ true → (lap_behind bits f e.head t ≡ true) × (same e.head (minus bits t f.lap) ≡ true)
  -- what is free is no lap after head
  pub free : same s.stamp t ≡ true → lap_behind bits f e.head t ≡ false
  -- a lap after head is tail
  pub lapped : lap_behind bits f e.head t ≡ true → same (unmarked_of f e.tail) t ≡ true

pub record FindsHead (bits : Width) (f : Fixed) (e : Ends) (s : Slot) (h : Stamp) : Type 0 where
  pub decides : same e.head h ≡ true → one_past bits s.stamp h ≡ false → same s.stamp h ≡ false → ⊥
  pub empty : same s.stamp h ≡ true → same (unmarked_of f e.tail) h ≡ true

-- And what the words of an exchange that is won, or of a last load, say beside.
abbrev pub Finds : Width → Fixed → Ends → Slot → Place → Type 0
Finds bits f e s (Idle a) = Unit {0}
Finds bits f e s (P1 k x) = Unit {0}
Finds bits f e s (P2 k t x) = FindsTail bits f e s t
Finds bits f e s (P3 k t x) = same e.tail t ≡ true → (marked_of f e.tail ≡ false) × (lap_behind bits f e.head (unmarked_of f e.tail) ≡ false)
Finds bits f e s (P4 t x) = Unit {0}
Finds bits f e s (P5 t) = Unit {0}
Finds bits f e s (P6 t x) = Unit {0}
Finds bits f e s (F6 t x) = same e.head (minus bits t f.lap) ≡ true → index_of f t ≡ index_of f e.head
Finds bits f e s (F7 t x) = Unit {0}
Finds bits f e s (F8 t x) = Unit {0}
Finds bits f e s (F9 t old) = Unit {0}
Finds bits f e s O1 = Unit {0}
Finds bits f e s (O2 h) = FindsHead bits f e s h
Finds bits f e s (O3 h) = same e.head h ≡ true → same (unmarked_of f e.tail) e.head ≡ false
Finds bits f e s (O4 h) = Unit {0}
Finds bits f e s (O5 h v) = Unit {0}
Finds bits f e s (O6 h) = same (unmarked_of f e.tail) h ≡ true → same (unmarked_of f e.tail) e.head ≡ true
Finds bits f e s Len1 = Unit {0}
Finds bits f e s (Len2 t) = Unit {0}
Finds bits f e s (Len3 t h) = Unit {0}
Finds bits f e s Empty1 = Unit {0}
Finds bits f e s (Empty2 h) = Unit {0}
Finds bits f e s Full1 = Unit {0}
Finds bits f e s (Full2 t) = Unit {0}
Finds bits f e s Close1 = Unit {0}
Finds bits f e s IsClosed1 = Unit {0}

-- What the rank rests on of these: what a stamp load finds. Where the rank has the round more, a load of the slot of tail only if the word is tail's.
pub record Loads (more : ℕ) (bits : Width) (f : Fixed) (e : Ends) (s : Slot) (p : Place) : Type 0 where
  pub tail : (k : Kind) (t : Stamp) (x : ℕ) → p ≡ P2 k t x → (0 < more → same (unmarked_of f e.tail) t ≡ true) → FindsTail bits f e s t
  pub head : (h : Stamp) → p ≡ O2 h → FindsHead bits f e s h

-- With no slot in another's hand.
pub loads_of : (bits : Width) (f : Fixed) (e : Ends) (s : Slot) (p : Place) → Finds bits f e s p → Loads 0 bits f e s p
loads_of bits f e s p d =
    record {
      tail = λ k t x q in_date. subst (Finds bits f e s) q d;
      head = λ h q. subst (Finds bits f e s) q d;
    }

pub same_self : (w : Stamp) → same w w ≡ true
unfolding same
same_self w = eq-eqb w.0 w.0 refl

pub clear_is : (f : Fixed) (w : Stamp) → marked_of f w ≡ false → unmarked_of f w ≡ w
unfolding unmarked_of
clear_is f w h = rw h

-- an unmarked word is its own unmarked part
pub clear_same : (f : Fixed) (w : Stamp) → marked_of f w ≡ false → same (unmarked_of f w) w ≡ true
clear_same f w h = rw (clear_is f w h) (same_self w)

-- the smaller of two numbers is reached either way
low : (b : Bool) (n x y : ℕ) → n < x → n < y → n < cond b x y
low true n x y p q = p
low false n x y p q = q

both : (b : Bool) (x y p q : ℕ) → x < p → y < q → cond b x y < cond b p q
both true x y p q l m = l
both false x y p q l m = m

-- a test that fails leaves the second
second : (b : Bool) (n x y : ℕ) → (b ≡ true → ⊥) → n < y → n < cond b x y
second true n x y h l = absurd (h refl)
second false n x y h l = l

under : (b : Bool) (x y n : ℕ) → x < n → y < n → cond b x y < n
under true x y n p q = p
under false x y n p q = q

high : (b : Bool) (x y n : ℕ) → x ≤ n → y ≤ n → cond b x y ≤ n
high true x y n p q = p
high false x y n p q = q

module _ (more : ℕ) (bits : Width) (f : Fixed) (e : Ends) (s : Slot) where
  -- the act leaves fewer than n
  abbrev Less : ℕ → Acted → Type 0
  Less n a = rank_beside more bits f a.ends a.place < n

  now_at : (b : Bool) (x y n : ℕ) → b ≡ true → x < n → cond b x y < n
  now_at true x y n h l = l
  now_at false x y n h l = absurd (true≢false (sym h))

  -- the word of tail, just loaded or found
  finds : (k : Kind) (x n : ℕ) → (marked_of f e.tail ≡ false → rank_beside more bits f e (P2 k e.tail x) < n) → 0 < n → rank_beside more bits f e (after_tail f k e.tail x) < n
  unfolding after_tail
  finds k x n in_date pos = either (λ (p : Place). rank_beside more bits f e p < n) (marked_of f e.tail) (Idle (Closed x)) (P2 k e.tail x) (λ h. pos) in_date

  falls_p2 : (k : Kind) (t : Stamp) (x : ℕ) → ((0 < more → same (unmarked_of f e.tail) t ≡ true) → FindsTail bits f e s t)
      → Less (rank_beside more bits f e (P2 k t x)) (act_p2 bits f e s k t x)
  unfolding goes
  falls_p2 k t x d =
      either (Less (rank_beside more bits f e (P2 k t x))) (same s.stamp t) (goes e s (P3 k t x)) _
      (λ h. both (same (unmarked_of f e.tail) t) _ _ _ _ (omega arith) (omega arith))
      (λ h. either (Less (rank_beside more bits f e (P2 k t x))) (lap_behind_one_past bits f s.stamp t) (goes e s (full_at k t x)) (goes e s (P1 k x))
      (λ g. full k (same (unmarked_of f e.tail) t) refl (dec_lt 0 more) g)
      (λ g. second (same (unmarked_of f e.tail) t) _ _ _ (λ q. (d (λ m. q)).decides q h g) (omega arith)))
    where
      -- the word is tail's, or there is no round more: what is full is a lap behind head
      seen : (k : Kind) → (lap_behind bits f e.head t ≡ true) × (same e.head (minus bits t f.lap) ≡ true) → rank_beside more bits f e (full_at k t x) < rank_beside more bits f e (P2 k t x)
      seen Push q = now_at (lap_behind bits f e.head t) _ _ _ q.0 (low (same (unmarked_of f e.tail) t) _ _ _ (omega arith) (omega arith))
      seen Force q = now_at (same e.head (minus bits t f.lap)) _ _ _ q.1 (low (same (unmarked_of f e.tail) t) _ _ _ (omega arith) (omega arith))

      -- else the round
      round : (k : Kind) → 0 < more → rank_beside more bits f e (full_at k t x) < 6 + more + one_more_act k
      round Push m = under (lap_behind bits f e.head t) _ _ _ (omega arith) (omega arith)
      round Force m = under (same e.head (minus bits t f.lap)) _ _ _ (omega arith) (omega arith)

      full : (k : Kind) (b : Bool) → same (unmarked_of f e.tail) t ≡ b → Dec (0 < more) → lap_behind_one_past bits f s.stamp t ≡ true
          → rank_beside more bits f e (full_at k t x) < rank_beside more bits f e (P2 k t x)
      full k true q m g = seen k ((d (λ z. q)).full g)
      full k false q (yes m) g = subst (λ (b : Bool). rank_beside more bits f e (full_at k t x) < cond b (4 + one_more_act k) (6 + more + one_more_act k)) (sym q) (round k m)
      full k false q (no m) g = seen k ((d (λ z. absurd (m z))).full g)

  falls_p3 : (k : Kind) (t : Stamp) (x : ℕ) → Less (rank_beside more bits f e (P3 k t x)) (act_p3 bits f e s k t x false)
  unfolding goes losing
  falls_p3 k t x =
      exchanged (λ (y : Exchange). Less (rank_beside more bits f e (P3 k t x)) (end_p3 bits f e s k t x y)) e.tail t false (λ h g. absurd (true≢false (sym g)))
      (λ h g. low (same (unmarked_of f e.tail) t) _ _ _ (omega arith) (omega arith))
      (λ h. finds k x (rank_beside more bits f e (P3 k t x))
      (λ g. now_at (same (unmarked_of f e.tail) e.tail) _ _ _ (clear_same f e.tail g) (second (same (unmarked_of f e.tail) t) _ _ _ (lost h g) (omega arith)))
      (low (same (unmarked_of f e.tail) t) _ _ _ (omega arith) (omega arith)))
    where
      -- an unmarked tail that is not t is not t without its mark either
      lost : same e.tail t ≡ false → marked_of f e.tail ≡ false → same (unmarked_of f e.tail) t ≡ true → ⊥
      lost h g q = true≢false (sym q ∙ ap (λ (z : Stamp). same z t) (clear_is f e.tail g) ∙ h)

  falls_o2 : (h : Stamp) → FindsHead bits f e s h → Less (rank_beside more bits f e (O2 h)) (act_of bits f e s (O2 h) false)
  unfolding goes
  falls_o2 h d =
      either (Less (rank_beside more bits f e (O2 h))) (one_past bits s.stamp h) (goes e s (O3 h)) _
      (λ p. both (same e.head h) _ _ _ _ (omega arith) (omega arith))
      (λ p. either (Less (rank_beside more bits f e (O2 h))) (same s.stamp h) (goes e s (O6 h)) (goes e s O1)
      (λ q. now_at (same (unmarked_of f e.tail) h) _ _ _ (d.empty q) (low (same e.head h) _ _ _ (omega arith) (omega arith)))
      (λ q. second (same e.head h) _ _ _ (λ z. d.decides z p q) (omega arith)))

  -- a test that goes both ways: to the end of it, or back to a load
  back : (b : Bool) (a c : Acted) (x y : ℕ) → Less x a → Less y c → Less (cond b x y) (cond b a c)
  back true a c x y p q = p
  back false a c x y p q = q

  -- the same of an exchange
  back_lost : (end : Exchange → Acted) (found expected : Stamp) (x y : ℕ) → Less x (end Won) → Less y (end (Differed found))
      → Less (cond (same found expected) x y) (end (exchange_of found expected false))
  unfolding exchange_of
  back_lost end found expected x y p q = go (same found expected)
    where
      go : (b : Bool) → Less (cond b x y) (end (cond b Won (Differed found)))
      go true = p
      go false = q

  pub falls : (p : Place) → (view_of p).busy ≡ true → Loads more bits f e s p → rank_beside more bits f (act_of bits f e s p false).ends (act_of bits f e s p false).place < rank_beside more bits f e p
  unfolding goes losing tail_to head_to
  falls (Idle a) busy d = absurd (true≢false (sym busy))
  falls (P1 k x) busy d =
      finds k x _ (λ g. now_at (same (unmarked_of f e.tail) e.tail) _ _ _ (clear_same f e.tail g) (omega arith)) (omega arith)
  falls (P2 k t x) busy d = falls_p2 k t x (d.tail k t x refl)
  falls (P3 k t x) busy d = falls_p3 k t x
  falls (P4 t x) busy d = omega arith
  falls (P5 t) busy d = omega arith
  falls (P6 t x) busy d = back (lap_behind bits f e.head t) (goes e s (Idle (Full x))) (goes e s (P1 Push x)) _ _ (omega arith) (omega arith)
  falls (F6 t x) busy d =
      back_lost (end_f6 bits f e s t x) e.head (minus bits t f.lap) _ _ (omega arith) (omega arith)
  falls (F7 t x) busy d = omega arith
  falls (F8 t x) busy d = omega arith
  falls (F9 t old) busy d = omega arith
  falls O1 busy d = now_at (same e.head e.head) _ _ _ (same_self e.head) (omega arith)
  falls (O2 h) busy d = falls_o2 h (d.head h refl)
  falls (O3 h) busy d =
      back_lost (end_o3 bits f e s h) e.head h _ _ (omega arith)
      (now_at (same e.head e.head) _ _ _ (same_self e.head) (omega arith))
  falls (O4 h) busy d = omega arith
  falls (O5 h v) busy d = omega arith
  falls (O6 h) busy d =
      back (same (unmarked_of f e.tail) h) _ (goes e s O1) _ _
      (either (Less _) (marked_of f e.tail) (goes e s (Idle PopClosed)) (goes e s (Idle Empty)) (λ q. omega arith) (λ q. omega arith)) (omega arith)
  falls Len1 busy d = now_at (same e.tail e.tail) _ _ _ (same_self e.tail) (omega arith)
  falls (Len2 t) busy d = both (same e.tail t) _ _ _ _ (omega arith) (omega arith)
  falls (Len3 t h) busy d = back (same e.tail t) (goes e s (Idle (Len (count_of f t h)))) (goes e s Len1) _ _ (omega arith) (omega arith)
  falls Empty1 busy d = omega arith
  falls (Empty2 h) busy d = omega arith
  falls Full1 busy d = omega arith
  falls (Full2 t) busy d = omega arith
  falls Close1 busy d =
      either (Less _) (marked_of f e.tail) (goes e s (Idle No)) (goes (tail_to e (with_mark bits f e.tail)) s (Idle Yes)) (λ q. omega arith) (λ q. omega arith)
  falls IsClosed1 busy d = omega arith

-- the rank is within document 01's numbers
pub most_beside_lem : (more : ℕ) (bits : Width) (f : Fixed) (e : Ends) (p : Place) → rank_beside more bits f e p ≤ most_of p + more * round_more p
most_beside_lem more bits f e (Idle a) = omega arith
most_beside_lem more bits f e (P1 k x) = omega arith
most_beside_lem more bits f e (P2 k t x) = high (same (unmarked_of f e.tail) t) _ _ _ (omega arith) (omega arith)
most_beside_lem more bits f e (P3 k t x) = high (same (unmarked_of f e.tail) t) _ _ _ (omega arith) (omega arith)
most_beside_lem more bits f e (P4 t x) = omega arith
most_beside_lem more bits f e (P5 t) = omega arith
most_beside_lem more bits f e (P6 t x) = high (lap_behind bits f e.head t) _ _ _ (omega arith) (omega arith)
most_beside_lem more bits f e (F6 t x) = high (same e.head (minus bits t f.lap)) _ _ _ (omega arith) (omega arith)
most_beside_lem more bits f e (F7 t x) = omega arith
most_beside_lem more bits f e (F8 t x) = omega arith
most_beside_lem more bits f e (F9 t old) = omega arith
most_beside_lem more bits f e O1 = omega arith
most_beside_lem more bits f e (O2 h) = high (same e.head h) _ _ _ (omega arith) (omega arith)
most_beside_lem more bits f e (O3 h) = high (same e.head h) _ _ _ (omega arith) (omega arith)
most_beside_lem more bits f e (O4 h) = omega arith
most_beside_lem more bits f e (O5 h v) = omega arith
most_beside_lem more bits f e (O6 h) = high (same (unmarked_of f e.tail) h) _ _ _ (omega arith) (omega arith)
most_beside_lem more bits f e Len1 = omega arith
most_beside_lem more bits f e (Len2 t) = high (same e.tail t) _ _ _ (omega arith) (omega arith)
most_beside_lem more bits f e (Len3 t h) = high (same e.tail t) _ _ _ (omega arith) (omega arith)
most_beside_lem more bits f e Empty1 = omega arith
most_beside_lem more bits f e (Empty2 h) = omega arith
most_beside_lem more bits f e Full1 = omega arith
most_beside_lem more bits f e (Full2 t) = omega arith
most_beside_lem more bits f e Close1 = omega arith
most_beside_lem more bits f e IsClosed1 = omega arith

pub most : (bits : Width) (f : Fixed) (e : Ends) (p : Place) → rank_beside 0 bits f e p ≤ most_of p
most bits f e p = omega (arith, most_beside_lem 0 bits f e p)

one_more : (k : Kind) → one_more_act k ≤ 1
one_more Push = omega arith
one_more Force = omega arith

pub seven : (p : Place) → most_of p ≤ 7
seven (Idle a) = omega arith
seven (P1 k x) = omega (arith, one_more k)
seven (P2 k t x) = omega (arith, one_more k)
seven (P3 k t x) = omega (arith, one_more k)
seven (P4 t x) = omega arith
seven (P5 t) = omega arith
seven (P6 t x) = omega arith
seven (F6 t x) = omega arith
seven (F7 t x) = omega arith
seven (F8 t x) = omega arith
seven (F9 t old) = omega arith
seven O1 = omega arith
seven (O2 h) = omega arith
seven (O3 h) = omega arith
seven (O4 h) = omega arith
seven (O5 h v) = omega arith
seven (O6 h) = omega arith
seven Len1 = omega arith
seven (Len2 t) = omega arith
seven (Len3 t h) = omega arith
seven Empty1 = omega arith
seven (Empty2 h) = omega arith
seven Full1 = omega arith
seven (Full2 t) = omega arith
seven Close1 = omega arith
seven IsClosed1 = omega arith

-- at most one round more: eight acts
pub eight : (p : Place) → most_beside p ≤ 8
eight p = omega (arith, seven p, go (view_of p).stand.stamps (eqb (view_of p).stand.far 2) (view_of p).stand.end)
  where
    go : (b d : Bool) (e : Moved) → cond b (cond d (by_tail e) 0) 0 ≤ 1
    go true true Neither = omega arith
    go true true Tail = omega arith
    go true true Head = omega arith
    go true false e = omega arith
    go false d e = omega arith
