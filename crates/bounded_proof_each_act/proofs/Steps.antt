-- Each act of document 01's tables is an effect on the ring, and leaves its worker where the table says.
use mathlib.Core.Path.{◌≡◌, refl, sym, ap, ◌∙◌}
use mathlib.Core.Bool.{Bool, true, false, cond, true≢false}
use Prim.Native.Nat.{ℕ, ◌+◌, ◌*◌, ◌%◌, ◌≤◌, ◌<◌}
use native.Mathlib.Omega.{arith}
use native.Mathlib.Nat.{add-mod_right}
use lib.Dec.{eqb}
use borrow.Author.Tests.{eqb-true, eq-eqb}
use Rattle.bounded_words.specs.declared.Stamp.{Stamp}
use Rattle.bounded_words.specs.declared.Fixed.{Fixed}
use Rattle.bounded_words.specs.declared.Width.{Width}
use Rattle.bounded_words.specs.Words.{index_of, marked_of, unmarked_of, minus, with_mark, next_of, same, one_past, lap_behind, lap_behind_one_past}
use Rattle.bounded_places.specs.declared.Slot.{Slot}
use Rattle.bounded_places.specs.declared.Ends.{Ends}
use Rattle.bounded_places.specs.declared.Kind.{Kind}
use Rattle.bounded_places.specs.declared.Kind.TheVariants.{Push, Force}
use Rattle.bounded_places.specs.declared.Answer.{Answer}
use Rattle.bounded_places.specs.declared.Answer.TheVariants.{Nothing, Pushed, Full, Closed, Displaced, Popped, Empty, PopClosed, Len, Yes, No}
use Rattle.bounded_places.specs.declared.Exchange.{Exchange}
use Rattle.bounded_places.specs.declared.Loss.{Loss}
use Rattle.bounded_places.specs.declared.Loss.TheVariants as loss
use Rattle.bounded_places.specs.declared.Place.{Place}
use Rattle.bounded_places.specs.declared.Place.TheVariants.{Idle, P1, P2, P3, P4, P5, P6, F6, F7, F8, F9, O1, O2, O3, O4, O5, O6, Len1, Len2, Len3, Empty1, Empty2, Full1, Full2, Close1, IsClosed1}
use Rattle.bounded_places.specs.Places.{view_of}
use Rattle.bounded_acts.specs.declared.Acted.{Acted}
use Rattle.bounded_acts.specs.Acts.{goes, losing, after_tail, end_p3, end_f6, end_o3, tail_to, head_to, stamp_to, value_to, act_of, act_p1, act_p2, act_p3, act_p5, act_p6}
use Rattle.bounded_acts.specs.Acts.{act_f6, act_f7, act_f8, act_f9, act_o2, act_o3, act_o5, act_o6, act_len3, act_close1, full_at, yes_no, count_of}
use Rattle.bounded_machine.specs.Turn.{spot_of}
use Rattle.bounded_machine.proofs.Kept.{either, exchanged}
use Rattle.bounded_demands.specs.Notions.{Truth, Writes, write_p4, write_f8, holding_at}
use Rattle.bounded_proof_invariant.proofs.Width.{word, Near, index_word, turn_long}
use Rattle.bounded_proof_invariant.proofs.Upd.{upd, upd_same}
use Rattle.bounded_proof_invariant.proofs.Ring.{Stage, Fill, Filled, Take, Grab, Swap, Swapped, Cell, Await, Hold, Hand, number, Mine, Shared, Latest, Awaits}
use Rattle.bounded_proof_invariant.proofs.Ring.{Holds, Forces, Rests, Owns, Keeps, ViewOk, CellOk, Owned, Inv}
use Rattle.bounded_proof_invariant.proofs.Effects.{Effect, Still, Tailed, Taken, Grabbed, Forced, Fills, Swaps, Frees, Gives, after, Fits, Loose, loose_mine, ok_at}
use Rattle.bounded_proof_each_act.proofs.Stamps
use Rattle.bounded_proof_each_act.proofs.Stamps.{Ground, fixed, W, tail_word}
use Rattle.bounded_proof_each_act.proofs.Sight.{Age, aged, Tails, look, HandAt, Quiet, tale, answer_in, told, full, ends_of_ring, slot_of_ring, Stands, Young, Recent}
use Rattle.bounded_proof_each_act.proofs.Sight.{see_free, see_full, number_slot, number_near, number_full}

-- a test that passed, taken apart
unless : (b t : Bool) → cond b false t ≡ true → (b ≡ false) × (t ≡ true)
unless true t h = absurd (true≢false (sym h))
unless false t h = (refl, h)

when : (b t : Bool) → cond b t false ≡ true → (b ≡ true) × (t ≡ true)
when true t h = (refl, h)
when false t h = absurd (true≢false (sym h))

-- what the effect writes, the place before it carried
abbrev pub WritesBy : Effect → Place → Type 0
WritesBy Still p = Unit {0}
WritesBy (Tailed x) p = Unit {0}
WritesBy Taken p = Unit {0}
WritesBy Grabbed p = Unit {0}
WritesBy (Forced k x) p = Unit {0}
WritesBy (Fills k a) p = Writes p a
WritesBy (Swaps k a) p = Writes p a
WritesBy (Frees k y) p = Unit {0}
WritesBy (Gives k y v) p = Unit {0}

-- What an answer says of the ring at the act that gave it: that it is true of the words, and of pop's Closed that no slot waits for tail's claim
-- in another's hand.
abbrev pub Says : (bits : Width) (c mark n ed : ℕ) → Shared → Bool → Answer → Type 0
Says bits c mark n ed s b Nothing = Unit {0}
Says bits c mark n ed s b Pushed = Unit {0}
Says bits c mark n ed s b (Full x) = Truth bits (fixed c mark ed) (ends_of_ring c mark n s b) (Full x)
Says bits c mark n ed s b (Closed x) = Truth bits (fixed c mark ed) (ends_of_ring c mark n s b) (Closed x)
Says bits c mark n ed s b (Displaced v) = Unit {0}
Says bits c mark n ed s b (Popped v) = Unit {0}
Says bits c mark n ed s b Empty = Truth bits (fixed c mark ed) (ends_of_ring c mark n s b) Empty
Says bits c mark n ed s b PopClosed =
    Truth bits (fixed c mark ed) (ends_of_ring c mark n s b) PopClosed × (s.tail ≡ s.head) × (b ≡ true) × (s.cell (s.tail % c) ≡ Await s.tail)
Says bits c mark n ed s b (Len k) = Unit {0}
Says bits c mark n ed s b Yes = Unit {0}
Says bits c mark n ed s b No = Unit {0}

pub truth : (bits : Width) (c mark n ed : ℕ) (s : Shared) (b : Bool) (a : Answer) → Says bits c mark n ed s b a → Truth bits (fixed c mark ed) (ends_of_ring c mark n s b) a
truth bits c mark n ed s b Nothing h = tt
truth bits c mark n ed s b Pushed h = tt
truth bits c mark n ed s b (Full x) h = h
truth bits c mark n ed s b (Closed x) h = h
truth bits c mark n ed s b (Displaced v) h = tt
truth bits c mark n ed s b (Popped v) h = tt
truth bits c mark n ed s b Empty h = h
truth bits c mark n ed s b PopClosed h = h.0
truth bits c mark n ed s b (Len k) h = tt
truth bits c mark n ed s b Yes h = tt
truth bits c mark n ed s b No h = tt

-- What becomes of the mark: a tail claim at P3 is made of an unmarked tail, one at F7 keeps the mark in edition 2, and no other act clears it.
abbrev pub Latch : ℕ → Bool → Bool → Effect → Type 0
Latch ed b shut Still = b ≡ true → shut ≡ true
Latch ed b shut (Tailed x) = b ≡ false
Latch ed b shut Taken = b ≡ true → shut ≡ true
Latch ed b shut Grabbed = b ≡ true → shut ≡ true
Latch ed b shut (Forced k x) = ed ≡ 2 → b ≡ true → shut ≡ true
Latch ed b shut (Fills k a) = b ≡ true → shut ≡ true
Latch ed b shut (Swaps k a) = b ≡ true → shut ≡ true
Latch ed b shut (Frees k y) = b ≡ true → shut ≡ true
Latch ed b shut (Gives k y v) = b ≡ true → shut ≡ true

-- What an act of w at the slot i, from the place p, comes to.
pub record Step (bits : Width) (c mark n ed : ℕ) (s : Shared) (w i : ℕ) (age : Age) (b : Bool) (p : Place) (a : Acted) : Type 0 where
  pub effect : Effect
  pub fits : Fits c s w i effect
  pub shut : Bool
  pub ends : a.ends ≡ ends_of_ring c mark n (after c w i effect s) shut
  pub slot : a.slot ≡ slot_of_ring c mark n ((after c w i effect s).cell i) ((after c w i effect s).val i)
  pub stands : Stands c mark n (after c w i effect s) w (aged s age (holding_at a.place)) (look c a.place)
  pub tells : tale (look c a.place) ≡ told effect
  pub says : Says bits c mark n ed s b (answer_in (look c a.place))
  -- the mark, before and after
  pub latch : Latch ed b shut effect
  pub grip : (Mine w (s.cell i) → HandAt mark (look c p) i) → Mine w ((after c w i effect s).cell i) → HandAt mark (look c a.place) i
  pub writes : WritesBy effect p

module _ (bits : Width) (c mark n ed : ℕ) (g : Ground bits c mark n) (s : Shared) (inv : Inv c s) (w i : ℕ) (small : i < c) (age : Age) where
  abbrev f : Fixed
  f = fixed c mark ed

  abbrev E : Bool → Ends
  E b = ends_of_ring c mark n s b

  abbrev S : Slot
  S = slot_of_ring c mark n (s.cell i) (s.val i)

  abbrev Does : Bool → Place → Acted → Type 0
  Does b p a = Step bits c mark n ed s w i age b p a

  abbrev Word : ℕ → Stamp
  Word k = W c mark n k

  -- the number of a word of tail, and of head, is no older than its gift, and that than a turn less one capacity
  abbrev Late : ℕ → Type 0
  Late m = (age.tail ≤ m) × Young c mark n s age

  abbrev LateHead : ℕ → Type 0
  LateHead m = (age.head ≤ m) × Young c mark n s age

  turn : 3 * c ≤ n * c
  turn = turn_long c mark n g.laws

  -- an act that changes nothing but its worker's place, from a place that is not in hand
  lost : (l : Loss) (b : Bool) (p q : Place) → (HandAt mark (look c p) i → ⊥) → tale (look c q) ≡ Quiet → Says bits c mark n ed s b (answer_in (look c q))
      → Stands c mark n s w (aged s age (holding_at q)) (look c q) → Does b p (losing (E b) S q l)
  unfolding losing
  lost l b p q loose t r o =
      record {
        effect = Still;
        fits = tt;
        shut = b;
        ends = refl;
        slot = refl;
        stands = o;
        tells = t;
        says = r;
        latch = λ e. e;
        grip = λ back m. absurd (loose (back m));
        writes = tt;
      }

  still : (b : Bool) (p q : Place) → (HandAt mark (look c p) i → ⊥) → tale (look c q) ≡ Quiet → Says bits c mark n ed s b (answer_in (look c q))
      → Stands c mark n s w (aged s age (holding_at q)) (look c q) → Does b p (goes (E b) S q)
  unfolding goes losing
  still = lost loss.Nothing

  no_hand : {P : Type 0} → (false ≡ true) × P → ⊥
  no_hand h = true≢false (sym h.0)

  -- tail unmarked is the word of its number
  clear_tail : (b : Bool) → marked_of f (E b).tail ≡ false → tail_word c mark n s.tail b ≡ Word s.tail
  clear_tail b h = let q : b ≡ false = sym (Stamps.marked_tail bits c mark n g ed s.tail b) ∙ h in rw q

  -- P1, and P3 that lost: tail is loaded, or found
  finds : (l : Loss) (b : Bool) (p : Place) (k : Kind) (x : ℕ) → (HandAt mark (look c p) i → ⊥) → Does b p (losing (E b) S (after_tail f k (E b).tail x) l)
  unfolding after_tail
  finds l b p k x loose =
      either (λ (q : Place). Does b p (losing (E b) S q l)) (marked_of f (E b).tail) (Idle (Closed x)) (P2 k (E b).tail x)
      (λ h. lost l b p (Idle (Closed x)) loose refl h tt)
      (λ h. lost l b p (P2 k (E b).tail x) loose refl tt (s.tail, clear_tail b h, omega arith, omega arith))

  loads : (b : Bool) (p : Place) (k : Kind) (x : ℕ) → (HandAt mark (look c p) i → ⊥) → Does b p (act_p1 f (E b) S k x)
  unfolding goes losing
  loads = finds loss.Nothing

  ok_here : CellOk c s i (s.cell i)
  ok_here = inv.cells i small

  -- the slot's number, in the slot of m, near to it
  same_slot : (m : ℕ) → m % c ≡ i → number (s.cell i) % c ≡ m % c
  same_slot m at = number_slot c s inv i (s.cell i) ok_here ∙ sym at

  -- a stamp that is the word of tail's number: the slot waits for that claim
  waits : (m : ℕ) → m % c ≡ i → Near (n * c) (number (s.cell i)) m → same S.stamp (Word m) ≡ true → s.tail ≡ m → s.cell i ≡ Await m
  waits m at r h e =
      let q = unless (full (s.cell i)) _ (sym (Stamps.stamp_same bits c mark n g (full (s.cell i)) (number (s.cell i)) m (same_slot m at) r) ∙ h) in
      see_free c s inv i m (s.cell i) ok_here q.0 (eqb-true _ _ q.1) e

  p2 : (b : Bool) (k : Kind) (m x : ℕ) → m % c ≡ i → m ≤ s.tail → Late m → Does b (P2 k (Word m) x) (act_p2 bits f (E b) S k (Word m) x)
  p2 b k m x at le late =
      either (Does b (P2 k (Word m) x)) (same S.stamp (Word m)) (goes (E b) S (P3 k (Word m) x)) _
      (λ h. still b (P2 k (Word m) x) (P3 k (Word m) x) no_hand refl tt (m, refl, (le, free h), late.0))
      (λ h. either (Does b (P2 k (Word m) x)) (lap_behind_one_past bits f S.stamp (Word m)) (goes (E b) S (full_at k (Word m) x)) (goes (E b) S (P1 k x))
      (λ d. behind k d)
      (λ d. still b (P2 k (Word m) x) (P1 k x) no_hand refl tt tt))
    where
      near : (s.head ≤ number (s.cell i) + c) × (number (s.cell i) < s.head + c)
      near = number_near c s inv i (s.cell i) ok_here

      free : same S.stamp (Word m) ≡ true → s.tail ≡ m → s.cell (m % c) ≡ Await m
      free h e =
          let r : Near (n * c) (number (s.cell i)) m = omega (arith, near, turn, inv.low, inv.high, late) in
          rw at (waits m at r h e)

      behind : (k : Kind) → lap_behind_one_past bits f S.stamp (Word m) ≡ true → Does b (P2 k (Word m) x) (goes (E b) S (full_at k (Word m) x))
      behind Push d = still b (P2 Push (Word m) x) (P6 (Word m) x) no_hand refl tt (m, refl, le, late.0)
      behind Force d =
          let r : full (s.cell i) ≡ true → Near (n * c) (number (s.cell i) + c) m =
          λ h. omega (arith, near, number_full c s inv i (s.cell i) ok_here h, turn, inv.low, inv.high, late) in
          let q = when (full (s.cell i)) _ (sym (Stamps.stamp_behind bits c mark n g ed (full (s.cell i)) (number (s.cell i)) m (same_slot m at) r) ∙ d) in
          let e : number (s.cell i) + c ≡ m = eqb-true _ _ q.1 in
          let at_j : number (s.cell i) % c ≡ i = number_slot c s inv i (s.cell i) ok_here in
          still b (P2 Force (Word m) x) (F6 (Word m) x) no_hand refl tt (
            number (s.cell i),
            ap Word (sym e),
            (omega (arith, inv.high), λ z. rw at_j (see_full c s inv i (number (s.cell i)) (s.cell i) ok_here q.0 refl z), omega arith),
            omega (arith, late.0),
          )

  -- a claim just made is its worker's latest
  newest : (who : ℕ → ℕ) (m : ℕ) → Latest (upd who m w) (m + 1) w m
  newest who m = (omega arith, upd_same who m w, λ k a z. absurd (omega arith))

  won_tail : (k : Kind) (x : ℕ) → s.tail % c ≡ i → s.cell i ≡ Await s.tail
      → Does false (P3 k (Word s.tail) x) (goes (tail_to (E false) (next_of bits f (Word s.tail))) S (P4 (Word s.tail) x))
  unfolding goes tail_to
  won_tail k x at e =
      record {
        effect = Tailed x;
        fits = e;
        shut = false;
        latch = refl;
        ends = rw (Stamps.next_is bits c mark n g ed s.tail);
        slot = rw (upd_same s.cell i (Hand Fill s.tail w), e);
        stands = (
          s.tail,
          refl,
          ((rw at (upd_same s.cell i (Hand Fill s.tail w)), newest s.tailer s.tail), omega arith, sym (upd_same s.item s.tail x)),
          omega arith,
        );
        tells = refl;
        says = tt;
        grip = λ back m. (refl, index_word c mark n g.laws s.tail ∙ at);
        writes = tt;
      }

  p3 : (b : Bool) (k : Kind) (m x : ℕ) (lose : Bool) → m % c ≡ i → ViewOk c s w (Awaits m) → Late m
      → Does b (P3 k (Word m) x) (act_p3 bits f (E b) S k (Word m) x lose)
  p3 b k m x lose at o late =
      exchanged (λ (y : Exchange). Does b (P3 k (Word m) x) (end_p3 bits f (E b) S k (Word m) x y)) (E b).tail (Word m) lose
      (λ h d. lost loss.BySchedule b (P3 k (Word m) x) (P2 k (Word m) x) no_hand refl tt (m, refl, o.0, omega (arith, (found h).1)))
      (λ h d. won h)
      (λ h. finds loss.ByWords b (P3 k (Word m) x) k x no_hand)
    where
      found : same (E b).tail (Word m) ≡ true → (b ≡ false) × (s.tail ≡ m)
      found h =
          let r : Near (n * c) s.tail m = omega (arith, turn, o.0, late) in
          let q = unless b _ (sym (Stamps.same_tail bits c mark n g s.tail m b r) ∙ h) in
          (q.0, eqb-true _ _ q.1)

      won : same (E b).tail (Word m) ≡ true → Does b (P3 k (Word m) x) (goes (tail_to (E b) (next_of bits f (Word m))) S (P4 (Word m) x))
      won h =
          let q = found h in
          let e : s.tail ≡ m = q.1 in
          let here : s.cell i ≡ Await s.tail = ap s.cell (sym at) ∙ o.1 e ∙ ap Await (sym e) in
          rw (q.0, ← e) (won_tail k x (ap (λ (z : ℕ). z % c) e ∙ at) here)

  owned_here : (st : Stage) (k : ℕ) → k % c ≡ i → Owned c s w st k → s.cell i ≡ Hand st k w
  owned_here st k at o = ap s.cell (sym at) ∙ o.0

  p4 : (b : Bool) (m x : ℕ) → m % c ≡ i → ViewOk c s w (Keeps Fill m x m) → Does b (P4 (Word m) x) (goes (E b) (value_to S x) (P5 (Word m)))
  unfolding goes value_to
  p4 b m x at o =
      let e = owned_here Fill m at o.0 in
      record {
        effect = Fills m x;
        fits = (e, o.2, o.0.1);
        shut = b;
        latch = λ e. e;
        ends = refl;
        slot = rw (upd_same s.cell i (Hand Filled m w), upd_same s.val i x, e);
        stands = (m, refl, (rw at (upd_same s.cell i (Hand Filled m w)), tt), omega arith);
        tells = refl;
        says = tt;
        grip = λ back z. (refl, index_word c mark n g.laws m ∙ at);
        writes = write_p4;
      }

  -- a slot let go is in no hand
  gone : (y : Cell) → Loose y → {P : Type 0} → Mine w (upd s.cell i y i) → P
  gone y l m = absurd (loose_mine w y l (rw (upd_same s.cell i y) at m))

  p5 : (b : Bool) (m : ℕ) → m % c ≡ i → ViewOk c s w (Owns Filled m) → Does b (P5 (Word m)) (act_p5 bits (E b) S (Word m))
  unfolding goes stamp_to
  p5 b m at o =
      let e = owned_here Filled m at o in
      let k = ok_at c s w i small inv (Hand Filled m w) e in
      record {
        effect = Frees m (Hold m);
        fits = (Filled, e, omega arith, tt, (at, k.1.0, k.1.1, k.1.2));
        shut = b;
        latch = λ e. e;
        ends = refl;
        slot = rw (upd_same s.cell i (Hold m), Stamps.plus_one bits c mark n g m);
        stands = tt;
        tells = refl;
        says = tt;
        grip = λ back z. gone (Hold m) tt z;
        writes = tt;
      }

  p6 : (b : Bool) (m x : ℕ) → m ≤ s.tail → Late m → Does b (P6 (Word m) x) (act_p6 bits f (E b) S (Word m) x)
  p6 b m x le late =
      either (Does b (P6 (Word m) x)) (lap_behind bits f (E b).head (Word m)) (goes (E b) S (Idle (Full x))) (goes (E b) S (P1 Push x))
      (λ h. still b (P6 (Word m) x) (Idle (Full x)) no_hand refl (full_true h) tt)
      (λ h. still b (P6 (Word m) x) (P1 Push x) no_hand refl tt tt)
    where
      full_true : lap_behind bits f (E b).head (Word m) ≡ true → lap_behind bits f (E b).head (unmarked_of f (E b).tail) ≡ true
      full_true h =
          let r : Near (n * c) (s.head + c) m = omega (arith, turn, inv.low, inv.high, late) in
          let q : s.head + c ≡ m = eqb-true _ _ (sym (Stamps.behind_is bits c mark n g ed s.head m r) ∙ h) in
          let e : s.tail ≡ m = omega (arith, inv.high) in
          rw (Stamps.unmarked_tail bits c mark n g ed s.tail b, e) h

  won_grab : (b : Bool) (x : ℕ) → s.head % c ≡ i → s.cell i ≡ Hold s.head → s.head + c ≤ s.tail
      → Does b (F6 (Word (s.head + c)) x) (goes (head_to (E b) (minus bits (next_of bits f (Word (s.head + c))) (2 * mark))) S (F7 (Word (s.head + c)) x))
  unfolding goes head_to
  won_grab b x at e le =
      record {
        effect = Grabbed;
        fits = (e, omega (arith, inv.high));
        shut = b;
        latch = λ e. e;
        ends = rw (Stamps.next_back bits c mark n g ed s.head);
        slot = rw (upd_same s.cell i (Hand Grab s.head w), e);
        stands = (s.head, refl, (rw at (upd_same s.cell i (Hand Grab s.head w)), newest s.taker s.head), omega arith);
        tells = refl;
        says = tt;
        grip = λ back m. (refl, index_word c mark n g.laws (s.head + c) ∙ add-mod_right s.head c ∙ at);
        writes = tt;
      }

  f6 : (b : Bool) (m x : ℕ) (lose : Bool) → m % c ≡ i → ViewOk c s w (Forces m) → Late (m + c)
      → Does b (F6 (Word (m + c)) x) (act_f6 bits f (E b) S (Word (m + c)) x lose)
  f6 b m x lose at o late =
      exchanged (λ (y : Exchange). Does b (F6 (Word (m + c)) x) (end_f6 bits f (E b) S (Word (m + c)) x y)) (E b).head (minus bits (Word (m + c)) (2 * mark)) lose
      (λ h d. lost loss.BySchedule b (F6 (Word (m + c)) x) (P1 Force x) no_hand refl tt tt)
      (λ h d. won h)
      (λ h. lost loss.ByWords b (F6 (Word (m + c)) x) (P1 Force x) no_hand refl tt tt)
    where
      won : same (E b).head (minus bits (Word (m + c)) (2 * mark)) ≡ true
          → Does b (F6 (Word (m + c)) x) (goes (head_to (E b) (minus bits (next_of bits f (Word (m + c))) (2 * mark))) S (F7 (Word (m + c)) x))
      won h =
          let r : Near (n * c) s.head m = omega (arith, turn, inv.low, o.0, late) in
          let e : s.head ≡ m = eqb-true _ _ (sym (Stamps.before_is bits c mark n g s.head m r) ∙ h) in
          let here : s.cell i ≡ Hold s.head = ap s.cell (sym at) ∙ o.1 e ∙ ap Hold (sym e) in
          rw (← e) (won_grab b x (ap (λ (z : ℕ). z % c) e ∙ at) here (omega (arith, o.2)))

  -- the index of a word a lap on
  lap_index : (m : ℕ) → m % c ≡ i → word c mark n (m + c) % mark ≡ i
  lap_index m at = index_word c mark n g.laws (m + c) ∙ add-mod_right m c ∙ at

  -- force_push's tail claim, whatever the act makes of the mark
  forces : (b shut : Bool) → (ed ≡ 2 → b ≡ true → shut ≡ true) → (m x : ℕ) → m % c ≡ i → ViewOk c s w (Owns Grab m)
      → Does b (F7 (Word (m + c)) x) (goes (tail_to (E b) (tail_word c mark n (m + c + 1) shut)) S (F8 (Word (m + c)) x))
  unfolding goes tail_to
  forces b shut kept m x at o =
      let e = owned_here Grab m at o in
      let k = ok_at c s w i small inv (Hand Grab m w) e in
      let q : s.tail ≡ m + c = k.1.1 in
      record {
        effect = Forced m x;
        fits = e;
        shut = shut;
        latch = kept;
        ends = rw q;
        slot = rw (upd_same s.cell i (Hand Swap m w), e);
        stands =
            (m, refl, ((rw at (upd_same s.cell i (Hand Swap m w)), (o.1, rw (← q) (newest s.tailer s.tail))), omega arith, rw (← q) (sym (upd_same s.item s.tail x))), omega arith);
        tells = refl;
        says = tt;
        grip = λ back z. (refl, lap_index m at);
        writes = tt;
      }

  f7 : (b : Bool) (m x : ℕ) → m % c ≡ i → ViewOk c s w (Owns Grab m) → Does b (F7 (Word (m + c)) x) (act_f7 bits f (E b) S (Word (m + c)) x)
  f7 b m x at o =
      rw (Stamps.forced_is bits c mark n g ed s.tail (m + c) b)
      (forces b (cond (eqb ed 2) b false) (λ two shut. ap (λ (z : Bool). cond z b false) (eq-eqb ed 2 two) ∙ shut) m x at o)

  f8 : (b : Bool) (m x : ℕ) → m % c ≡ i → ViewOk c s w (Keeps Swap m x (m + c)) → Does b (F8 (Word (m + c)) x) (act_f8 (E b) S (Word (m + c)) x)
  unfolding goes value_to
  f8 b m x at o =
      let e = owned_here Swap m at o.0 in
      let k = ok_at c s w i small inv (Hand Swap m w) e in
      record {
        effect = Swaps m x;
        fits = (e, o.2, o.0.1.1);
        shut = b;
        latch = λ e. e;
        ends = refl;
        slot = rw (upd_same s.cell i (Hand Swapped m w), upd_same s.val i x, e);
        stands =
            (m, refl, ((rw at (upd_same s.cell i (Hand Swapped m w)), o.0.1.0), omega (arith, o.1), k.1.2.0), omega arith);
        tells = refl;
        says = tt;
        grip = λ back z. (refl, lap_index m at);
        writes = write_f8;
      }

  f9 : (b : Bool) (m v : ℕ) → m % c ≡ i → ViewOk c s w (Keeps Swapped m v m) → Does b (F9 (Word (m + c)) v) (act_f9 bits (E b) S (Word (m + c)) v)
  unfolding goes stamp_to
  f9 b m v at o =
      let e = owned_here Swapped m at o.0 in
      let k = ok_at c s w i small inv (Hand Swapped m w) e in
      record {
        effect = Gives m (Hold (m + c)) v;
        fits =
            ((Swapped, e, omega arith, tt, (add-mod_right m c ∙ at, k.1.0, k.1.1, k.1.2)), refl, omega arith, o.2, o.1, o.0.1);
        shut = b;
        latch = λ e. e;
        ends = refl;
        slot = rw (upd_same s.cell i (Hold (m + c)), Stamps.plus_one bits c mark n g (m + c));
        stands = tt;
        tells = refl;
        says = tt;
        grip = λ back z. gone (Hold (m + c)) tt z;
        writes = tt;
      }

  o2 : (b : Bool) (m : ℕ) → m % c ≡ i → m ≤ s.head → LateHead m → Does b (O2 (Word m)) (act_o2 bits (E b) S (Word m))
  o2 b m at le late =
      either (Does b (O2 (Word m))) (one_past bits S.stamp (Word m)) (goes (E b) S (O3 (Word m))) _
      (λ h. still b (O2 (Word m)) (O3 (Word m)) no_hand refl tt (m, refl, (le, holds h), late.0))
      (λ h. either (Does b (O2 (Word m))) (same S.stamp (Word m)) (goes (E b) S (O6 (Word m))) (goes (E b) S O1)
      (λ d. still b (O2 (Word m)) (O6 (Word m)) no_hand refl tt (m, refl, (le, rests d), late.0))
      (λ d. still b (O2 (Word m)) O1 no_hand refl tt tt))
    where
      holds : one_past bits S.stamp (Word m) ≡ true → s.head ≡ m → s.cell (m % c) ≡ Hold m
      holds h e =
          let r : Near (n * c) (number (s.cell i)) m = omega (arith, number_near c s inv i (s.cell i) ok_here, turn, inv.low, inv.high, late) in
          let q = when (full (s.cell i)) _ (sym (Stamps.stamp_past bits c mark n g (full (s.cell i)) (number (s.cell i)) m (same_slot m at) r) ∙ h) in
          rw at (see_full c s inv i m (s.cell i) ok_here q.0 (eqb-true _ _ q.1) e)

      rests : same S.stamp (Word m) ≡ true → s.tail ≡ m → s.cell (m % c) ≡ Await m
      rests h e =
          let r : Near (n * c) (number (s.cell i)) m = omega (arith, number_near c s inv i (s.cell i) ok_here, turn, inv.low, inv.high, late) in
          rw at (waits m at r h e)

  won_take : (b : Bool) → s.head % c ≡ i → s.cell i ≡ Hold s.head
      → Does b (O3 (Word s.head)) (goes (head_to (E b) (next_of bits f (Word s.head))) S (O4 (Word s.head)))
  unfolding goes head_to
  won_take b at e =
      record {
        effect = Taken;
        fits = e;
        shut = b;
        latch = λ e. e;
        ends = rw (Stamps.next_is bits c mark n g ed s.head);
        slot = rw (upd_same s.cell i (Hand Take s.head w), e);
        stands = (s.head, refl, (rw at (upd_same s.cell i (Hand Take s.head w)), newest s.taker s.head), omega arith);
        tells = refl;
        says = tt;
        grip = λ back m. (refl, index_word c mark n g.laws s.head ∙ at);
        writes = tt;
      }

  o3 : (b : Bool) (m : ℕ) (lose : Bool) → m % c ≡ i → ViewOk c s w (Holds m) → LateHead m → Does b (O3 (Word m)) (act_o3 bits f (E b) S (Word m) lose)
  o3 b m lose at o late =
      exchanged (λ (y : Exchange). Does b (O3 (Word m)) (end_o3 bits f (E b) S (Word m) y)) (E b).head (Word m) lose
      (λ h d. lost loss.BySchedule b (O3 (Word m)) (O2 (Word m)) no_hand refl tt (m, refl, o.0, omega (arith, found h)))
      (λ h d. won h)
      (λ h. lost loss.ByWords b (O3 (Word m)) (O2 (E b).head) no_hand refl tt (s.head, refl, omega arith, omega arith))
    where
      found : same (E b).head (Word m) ≡ true → s.head ≡ m
      found h =
          let r : Near (n * c) s.head m = omega (arith, turn, o.0, late) in
          eqb-true _ _ (sym (Stamps.same_is bits c mark n g s.head m r) ∙ h)

      won : same (E b).head (Word m) ≡ true → Does b (O3 (Word m)) (goes (head_to (E b) (next_of bits f (Word m))) S (O4 (Word m)))
      won h =
          let e : s.head ≡ m = found h in
          let here : s.cell i ≡ Hold s.head = ap s.cell (sym at) ∙ o.1 e ∙ ap Hold (sym e) in
          rw (← e) (won_take b (ap (λ (z : ℕ). z % c) e ∙ at) here)

  o4 : (b : Bool) (m : ℕ) → m % c ≡ i → ViewOk c s w (Owns Take m) → Does b (O4 (Word m)) (goes (E b) S (O5 (Word m) S.value))
  unfolding goes
  o4 b m at o =
      let k = ok_at c s w i small inv (Hand Take m w) (owned_here Take m at o) in
      record {
        effect = Still;
        fits = tt;
        shut = b;
        latch = λ e. e;
        ends = refl;
        slot = refl;
        stands = (m, refl, (o, omega (arith, k.1.0, inv.low), k.1.2.0), omega arith);
        tells = refl;
        says = tt;
        grip = λ back z. (refl, index_word c mark n g.laws m ∙ at);
        writes = tt;
      }

  o5 : (b : Bool) (m v : ℕ) → m % c ≡ i → ViewOk c s w (Keeps Take m v m) → Does b (O5 (Word m) v) (act_o5 bits f (E b) S (Word m) v)
  unfolding goes stamp_to
  o5 b m v at o =
      let e = owned_here Take m at o.0 in
      let k = ok_at c s w i small inv (Hand Take m w) e in
      record {
        effect = Gives m (Await (m + c)) v;
        fits =
            ((Take, e, omega arith, tt, (add-mod_right m c ∙ at, k.1.1, omega (arith, k.1.0))), refl, omega arith, o.2, o.1, o.0.1);
        shut = b;
        latch = λ e. e;
        ends = refl;
        slot = rw (upd_same s.cell i (Await (m + c)), Stamps.plus_lap bits c mark n g m);
        stands = tt;
        tells = refl;
        says = tt;
        grip = λ back z. gone (Await (m + c)) tt z;
        writes = tt;
      }

  o6 : (b : Bool) (m : ℕ) → ViewOk c s w (Rests m) → LateHead m → Does b (O6 (Word m)) (act_o6 f (E b) S (Word m))
  o6 b m o late =
      either (Does b (O6 (Word m))) (same (unmarked_of f (E b).tail) (Word m)) _ (goes (E b) S O1)
      (λ h. either (Does b (O6 (Word m))) (marked_of f (E b).tail) (goes (E b) S (Idle PopClosed)) (goes (E b) S (Idle Empty))
      (λ d. still b (O6 (Word m)) (Idle PopClosed) no_hand refl
      ((d, Stamps.unmarked_tail bits c mark n g ed s.tail b ∙ ap Word (even h)), even h, sym (Stamps.marked_tail bits c mark n g ed s.tail b) ∙ d, rests h) tt)
      (λ d. still b (O6 (Word m)) (Idle Empty) no_hand refl (d, clear_tail b d ∙ ap Word (even h)) tt))
      (λ h. still b (O6 (Word m)) O1 no_hand refl tt tt)
    where
      found : same (unmarked_of f (E b).tail) (Word m) ≡ true → s.tail ≡ m
      found h =
          let r : Near (n * c) s.tail m = omega (arith, turn, o.0, inv.low, inv.high, late) in
          let z : same (Word s.tail) (Word m) ≡ true = rw (Stamps.unmarked_tail bits c mark n g ed s.tail b) at h in
          eqb-true _ _ (sym (Stamps.same_is bits c mark n g s.tail m r) ∙ z)

      even : same (unmarked_of f (E b).tail) (Word m) ≡ true → s.tail ≡ s.head
      even h = omega (arith, found h, o.0, inv.low)

      rests : same (unmarked_of f (E b).tail) (Word m) ≡ true → s.cell (s.tail % c) ≡ Await s.tail
      rests h = let e : s.tail ≡ m = found h in rw e (o.1 e)

  -- the lookers change nothing
  says : (b : Bool) (p : Place) (a : Bool) → (HandAt mark (look c p) i → ⊥) → Does b p (goes (E b) S (Idle (yes_no a)))
  says b p true loose = still b p (Idle Yes) loose refl tt tt
  says b p false loose = still b p (Idle No) loose refl tt tt

  no_word : ⊥ → ⊥
  no_word h = h

  len2 : (b : Bool) (t : Stamp) → Stands c mark n s w age (Tails t) → Does b (Len2 t) (goes (E b) S (Len3 t (E b).head))
  len2 b t o =
      still b (Len2 t) (Len3 t (E b).head) no_word refl tt (o.0, o.1, s.head, o.2, refl, o.3, λ e. omega (arith, inv.low, inv.high), o.4)

  len3 : (b : Bool) (t h : Stamp) → Does b (Len3 t h) (act_len3 f (E b) S t h)
  len3 b t h =
      either (Does b (Len3 t h)) (same (E b).tail t) (goes (E b) S (Idle (Len (count_of f t h)))) (goes (E b) S Len1)
      (λ d. still b (Len3 t h) (Idle (Len (count_of f t h))) no_word refl tt tt) (λ d. still b (Len3 t h) Len1 no_word refl tt tt)

  -- the mark is outside the ring
  closes : (b : Bool) → marked_of f (E b).tail ≡ false → Does b Close1 (goes (tail_to (E b) (with_mark bits f (E b).tail)) S (Idle Yes))
  unfolding goes tail_to
  closes b h =
      let q : b ≡ false = sym (Stamps.marked_tail bits c mark n g ed s.tail b) ∙ h in
      record {
        effect = Still;
        fits = tt;
        shut = true;
        latch = λ e. refl;
        ends = rw (q, Stamps.with_mark_lem bits c mark n g ed s.tail);
        slot = refl;
        stands = tt;
        tells = refl;
        says = tt;
        grip = λ back m. absurd (back m);
        writes = tt;
      }

  close1 : (b : Bool) → Does b Close1 (act_close1 bits f (E b) S)
  close1 b =
      either (Does b Close1) (marked_of f (E b).tail) (goes (E b) S (Idle No)) (goes (tail_to (E b) (with_mark bits f (E b).tail)) S (Idle Yes))
      (λ h. still b Close1 (Idle No) no_word refl tt tt) (closes b)

  -- the slot of the act is that of the claim
  at_word : (t : Stamp) (m : ℕ) → t ≡ Word m → i ≡ index_of f t → m % c ≡ i
  at_word t m e at = sym (Stamps.word_slot bits c mark n g t m e) ∙ sym at

  at_lap : (t : Stamp) (m : ℕ) → t ≡ Word (m + c) → i ≡ index_of f t → m % c ≡ i
  at_lap t m e at = sym (Stamps.lap_slot bits c mark n g t m e) ∙ sym at

  -- every act of a busy worker
  pub step : (b : Bool) (p : Place) (lose : Bool) → (view_of p).busy ≡ true → i ≡ spot_of f (view_of p).held
      → Stands c mark n s w age (look c p) → Recent c mark n s age (look c p) → Does b p (act_of bits f (E b) S p lose)
  step b (Idle a) lose busy at o r = absurd (true≢false (sym busy))
  step b (P1 k x) lose busy at o r = loads b (P1 k x) k x no_word
  step b (P2 k t x) lose busy at o r = rw o.1 (p2 b k o.0 x (at_word t o.0 o.1 at) o.2 (o.3, r refl))
  step b (P3 k t x) lose busy at o r = rw o.1 (p3 b k o.0 x lose (at_word t o.0 o.1 at) o.2 (o.3, r refl))
  step b (P4 t x) lose busy at o r = rw o.1 (p4 b o.0 x (at_word t o.0 o.1 at) o.2)
  step b (P5 t) lose busy at o r = rw o.1 (p5 b o.0 (at_word t o.0 o.1 at) o.2)
  step b (P6 t x) lose busy at o r = rw o.1 (p6 b o.0 x o.2 (o.3, r refl))
  step b (F6 t x) lose busy at o r = rw o.1 (f6 b o.0 x lose (at_lap t o.0 o.1 at) o.2 (o.3, r refl))
  step b (F7 t x) lose busy at o r = rw o.1 (f7 b o.0 x (at_lap t o.0 o.1 at) o.2)
  step b (F8 t x) lose busy at o r = rw o.1 (f8 b o.0 x (at_lap t o.0 o.1 at) o.2)
  step b (F9 t v) lose busy at o r = rw o.1 (f9 b o.0 v (at_lap t o.0 o.1 at) o.2)
  step b O1 lose busy at o r = still b O1 (O2 (E b).head) no_word refl tt (s.head, refl, omega arith, omega arith)
  step b (O2 h) lose busy at o r = rw o.1 (o2 b o.0 (at_word h o.0 o.1 at) o.2 (o.3, r refl))
  step b (O3 h) lose busy at o r = rw o.1 (o3 b o.0 lose (at_word h o.0 o.1 at) o.2 (o.3, r refl))
  step b (O4 h) lose busy at o r = rw o.1 (o4 b o.0 (at_word h o.0 o.1 at) o.2)
  step b (O5 h v) lose busy at o r = rw o.1 (o5 b o.0 v (at_word h o.0 o.1 at) o.2)
  step b (O6 h) lose busy at o r = rw o.1 (o6 b o.0 o.2 (o.3, r refl))
  step b Len1 lose busy at o r = still b Len1 (Len2 (E b).tail) no_word refl tt (s.tail, b, refl, omega arith, omega arith)
  step b (Len2 t) lose busy at o r = len2 b t o
  step b (Len3 t h) lose busy at o r = len3 b t h
  step b Empty1 lose busy at o r = still b Empty1 (Empty2 (E b).head) no_word refl tt (s.head, refl, omega arith, omega arith)
  step b (Empty2 h) lose busy at o r = says b (Empty2 h) (same (unmarked_of f (E b).tail) h) no_hand
  step b Full1 lose busy at o r = still b Full1 (Full2 (E b).tail) no_word refl tt (s.tail, b, refl, omega arith, omega arith)
  step b (Full2 t) lose busy at o r = says b (Full2 t) (lap_behind bits f (E b).head (unmarked_of f t)) no_word
  step b Close1 lose busy at o r = close1 b
  step b IsClosed1 lose busy at o r = says b IsClosed1 (marked_of f (E b).tail) no_word
