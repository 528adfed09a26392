-- What an act does to the ring: nothing, a claim at one of the ends, a value written, or a slot let go. Each keeps the
-- invariant and leaves the other workers what they rely on.
use mathlib.Core.Path.{◌≡◌, refl, sym, ap, ◌∙◌, subst}
use mathlib.Core.Logic.{◌≢◌}
use mathlib.Core.Bool.{Bool, true}
use Prim.Native.Nat.{ℕ, ◌+◌, ◌%◌, ◌≤◌, ◌<◌}
use native.Mathlib.Omega.{arith}
use native.Mathlib.Nat.{add-mod_right}
use native.Mathlib.Decide.{ℕ_discrete}
use Rattle.bounded_proof_invariant.proofs.Upd.{upd, upd_at, upd_else, upd_same}
use Rattle.bounded_proof_invariant.proofs.Ring.{Stage, Fill, Filled, Take, Grab, Swap, Swapped, taking, Cell, Await, Hold, Hand, number, Mine, Shared}
use Rattle.bounded_proof_invariant.proofs.Ring.{Latest, CellOk, View, ViewOk, Inv, Change, view_else, cell_else_lem}

-- Of worker w, at slot i.
pub data Effect : Type 0 where
  Still : Effect
  -- a tail claim, of an item
  Tailed : ℕ → Effect
  -- a head claim, by pop and by force_push
  Taken Grabbed : Effect
  -- force_push's tail claim a lap after k, of an item
  Forced : ℕ → ℕ → Effect
  -- the item of claim k is written; that of a lap after k
  Fills Swaps : ℕ → ℕ → Effect
  -- the slot, in hand at k, becomes a cell in no hand; the same, and the item of claim k is handed out
  Frees : ℕ → Cell → Effect
  Gives : ℕ → Cell → ℕ → Effect

-- Three shapes of change: at tail, at head, at neither.
abbrev pub tail_to : ℕ → ℕ → Cell → ℕ → Shared → Shared
tail_to w i y x s =
    record {
      head = s.head;
      tail = s.tail + 1;
      cell = upd s.cell i y;
      val = s.val;
      item = upd s.item s.tail x;
      taker = s.taker;
      tailer = upd s.tailer s.tail w;
      written = s.written;
    }

abbrev pub head_to : ℕ → ℕ → Cell → Shared → Shared
head_to w i y s =
    record {
      head = s.head + 1;
      tail = s.tail;
      cell = upd s.cell i y;
      val = s.val;
      item = s.item;
      taker = upd s.taker s.head w;
      tailer = s.tailer;
      written = s.written;
    }

abbrev pub slot_to : ℕ → Cell → (ℕ → ℕ) → (ℕ → Bool) → Shared → Shared
slot_to i y val written s =
    record {
      head = s.head;
      tail = s.tail;
      cell = upd s.cell i y;
      val = val;
      item = s.item;
      taker = s.taker;
      tailer = s.tailer;
      written = written;
    }

abbrev pub Loose : Cell → Type 0
Loose (Await k) = Unit {0}
Loose (Hold k) = Unit {0}
Loose (Hand st k w) = ⊥

-- What becomes of the others: all is as it was, or one slot changed.
pub data Course (c : ℕ) (s u : Shared) (w i : ℕ) : Type 0 where
  same : u ≡ s → Course c s u w i
  moved : Change c s u w i → Course c s u w i

pub view_course : (c : ℕ) (s u : Shared) (w i : ℕ) → Inv c s → Course c s u w i → (j : ℕ) → j ≢ w → (v : View) → ViewOk c s j v → ViewOk c u j v
view_course c s u w i inv (same e) j n v o = rw e o
view_course c s u w i inv (moved d) j n v o = view_else c s u w i inv d j n v o

pub tail_course : (c : ℕ) (s u : Shared) (w i : ℕ) → Course c s u w i → s.tail ≤ u.tail
tail_course c s u w i (same e) = rw e (omega arith)
tail_course c s u w i (moved d) = d.tail_up

-- the numbers of a slot never fall
pub number_course : (c : ℕ) (s u : Shared) (w i : ℕ) → Course c s u w i → (m : ℕ) → number (s.cell m) ≤ number (u.cell m)
number_course c s u w i (same e) m = rw e (omega arith)
number_course c s u w i (moved d) m = go (ℕ_discrete m i)
  where
    go : Dec (m ≡ i) → number (s.cell m) ≤ number (u.cell m)
    go (yes e) = rw e d.number_up
    go (no n) = omega (arith, ap number (d.cell_else m n))

module _ (c : ℕ) where
  abbrev pub after : ℕ → ℕ → Effect → Shared → Shared
  after w i Still s = s
  after w i (Tailed x) s = tail_to w i (Hand Fill s.tail w) x s
  after w i Taken s = head_to w i (Hand Take s.head w) s
  after w i Grabbed s = head_to w i (Hand Grab s.head w) s
  after w i (Forced k x) s = tail_to w i (Hand Swap k w) x s
  after w i (Fills k a) s = slot_to i (Hand Filled k w) (upd s.val i a) (upd s.written k true) s
  after w i (Swaps k a) s = slot_to i (Hand Swapped k w) (upd s.val i a) (upd s.written (k + c) true) s
  after w i (Frees k y) s = slot_to i y s.val s.written s
  after w i (Gives k y v) s = slot_to i y s.val s.written s

  -- a slot in w's hand may become y
  abbrev pub Free : Shared → ℕ → ℕ → ℕ → Cell → Type 0
  Free s w i k y = (st : Stage) × (s.cell i ≡ Hand st k w) × (k ≤ number y) × Loose y × CellOk c s i y

  -- when w may do so
  abbrev pub Fits : Shared → ℕ → ℕ → Effect → Type 0
  Fits s w i Still = Unit {0}
  Fits s w i (Tailed x) = s.cell i ≡ Await s.tail
  Fits s w i Taken = s.cell i ≡ Hold s.head
  Fits s w i Grabbed = (s.cell i ≡ Hold s.head) × (s.tail ≡ s.head + c)
  Fits s w i (Forced k x) = s.cell i ≡ Hand Grab k w
  Fits s w i (Fills k a) = (s.cell i ≡ Hand Fill k w) × (a ≡ s.item k) × Latest s.tailer s.tail w k
  Fits s w i (Swaps k a) = (s.cell i ≡ Hand Swap k w) × (a ≡ s.item (k + c)) × Latest s.tailer s.tail w (k + c)
  Fits s w i (Frees k y) = Free s w i k y
  Fits s w i (Gives k y v) = (f : Free s w i k y) × (taking f.0 ≡ true) × (k + c ≤ number y) × (v ≡ s.item k) × (k < s.tail) × Latest s.taker s.head w k

-- a cell is in one hand, and what is loose in none
hand_loose : (st : Stage) (k w : ℕ) (y : Cell) → Loose y → Hand st k w ≡ y → ⊥
hand_loose st k w y l e = subst Loose (sym e) l

pub loose_mine : (j : ℕ) (y : Cell) → Loose y → Mine j y → ⊥
loose_mine j (Await k) l m = m
loose_mine j (Hold k) l m = m
loose_mine j (Hand _ _ _) l m = elim l [ ]

module _ (c : ℕ) (s : Shared) (w i : ℕ) (small : i < c) (inv : Inv c s) where
  pub ok_at : (x : Cell) → s.cell i ≡ x → CellOk c s i x
  ok_at x e = rw e at (inv.cells i small)

  up_true : (f : ℕ → Bool) (k n : ℕ) → f n ≡ true → upd f k true n ≡ true
  up_true f k n e = go (ℕ_discrete n k)
    where
      go : Dec (n ≡ k) → upd f k true n ≡ true
      go (yes q) = upd_at f k n true q
      go (no q) = upd_else f k n true q ∙ e

  tail_change : (y : Cell) (x : ℕ) → s.tail % c ≡ i → number (s.cell i) ≤ number y → ((j : ℕ) → j ≢ w → Mine j (s.cell i) → ⊥) → (s.cell i ≡ Hold s.head → ⊥)
      → Change c s (tail_to w i y x s) w i
  tail_change y x at up own not_hold =
      record {
        head_up = omega arith;
        tail_up = omega arith;
        head_at = λ n f l. l;
        tail_at = λ n f l. let g : n ≢ s.tail = λ q. f (ap (λ (z : ℕ). z % c) q ∙ at) in omega arith;
        cell_else = λ m f. upd_else s.cell i m y f;
        val_else = λ m f. refl;
        item_old = λ n l. upd_else s.item s.tail n x (omega arith);
        taker_old = λ n l. refl;
        taker_new = λ n l k. absurd (omega arith);
        tailer_old = λ n l. upd_else s.tailer s.tail n w (omega arith);
        tailer_new = λ n l k. upd_at s.tailer s.tail n w (omega arith);
        written_up = λ n e. e;
        number_up = rw (upd_same s.cell i y) up;
        owner = own;
        await = λ p. omega arith;
        hold = λ p. absurd (not_hold p);
      }

  head_change : (y : Cell) → s.cell i ≡ Hold s.head → s.head ≤ number y → Change c s (head_to w i y s) w i
  head_change y e up =
      let at : s.head % c ≡ i = (ok_at (Hold s.head) e).0 in
      record {
        head_up = omega arith;
        tail_up = omega arith;
        head_at = λ n f l. let g : n ≢ s.head = λ q. f (ap (λ (z : ℕ). z % c) q ∙ at) in omega arith;
        tail_at = λ n f l. l;
        cell_else = λ m f. upd_else s.cell i m y f;
        val_else = λ m f. refl;
        item_old = λ n l. refl;
        taker_old = λ n l. upd_else s.taker s.head n w (omega arith);
        taker_new = λ n l k. upd_at s.taker s.head n w (omega arith);
        tailer_old = λ n l. refl;
        tailer_new = λ n l k. absurd (omega arith);
        written_up = λ n e. e;
        number_up = rw (upd_same s.cell i y) (omega (arith, ap number e));
        owner = λ j f m. subst (Mine j) e m;
        await = λ p. absurd (let z : ◌≡◌ {A = ℕ} 0 1 = cc in omega arith);
        hold = λ p. omega arith;
      }

  slot_change : (st : Stage) (k : ℕ) (y : Cell) (val : ℕ → ℕ) (written : ℕ → Bool) → s.cell i ≡ Hand st k w → k ≤ number y
      → ((m : ℕ) → m ≢ i → val m ≡ s.val m) → ((n : ℕ) → s.written n ≡ true → written n ≡ true)
      → Change c s (slot_to i y val written s) w i
  slot_change st k y val written e up else_val up_written =
      record {
        head_up = omega arith;
        tail_up = omega arith;
        head_at = λ n f l. l;
        tail_at = λ n f l. l;
        cell_else = λ m f. upd_else s.cell i m y f;
        val_else = else_val;
        item_old = λ n l. refl;
        taker_old = λ n l. refl;
        taker_new = λ n l k. absurd (omega arith);
        tailer_old = λ n l. refl;
        tailer_new = λ n l k. absurd (omega arith);
        written_up = up_written;
        number_up = rw (upd_same s.cell i y) (omega (arith, ap number e));
        owner = λ j f m. f (sym (subst (Mine j) e m));
        await = λ p. absurd (hand_loose st k w (Await s.tail) tt (sym e ∙ p));
        hold = λ p. absurd (hand_loose st k w (Hold s.head) tt (sym e ∙ p));
      }

  pub course : (e : Effect) → Fits c s w i e → Course c s (after c w i e s) w i
  course Still f = same refl
  course (Tailed x) f =
      moved (tail_change (Hand Fill s.tail w) x (ok_at (Await s.tail) f).0 (omega (arith, ap number f)) (λ j n m. subst (Mine j) f m) (λ p. let z : ◌≡◌ {A = ℕ} 0 1 = cc in omega arith))
  course Taken f = moved (head_change (Hand Take s.head w) f (omega arith))
  course Grabbed f = moved (head_change (Hand Grab s.head w) f.0 (omega arith))
  course (Forced k x) f =
      let o = ok_at (Hand Grab k w) f in
      moved
      (tail_change (Hand Swap k w) x (ap (λ (z : ℕ). z % c) o.1.1 ∙ add-mod_right k c ∙ o.0) (omega (arith, ap number f))
      (λ j n m. n (sym (subst (Mine j) f m)))
      (λ p. hand_loose Grab k w (Hold s.head) tt (sym f ∙ p)))
  course (Fills k a) f =
      moved (slot_change Fill k (Hand Filled k w) (upd s.val i a) (upd s.written k true) f.0 (omega arith) (λ m n. upd_else s.val i m a n) (up_true s.written k))
  course (Swaps k a) f =
      moved (slot_change Swap k (Hand Swapped k w) (upd s.val i a) (upd s.written (k + c) true) f.0 (omega arith) (λ m n. upd_else s.val i m a n) (up_true s.written (k + c)))
  course (Frees k y) f = moved (slot_change f.0 k y s.val s.written f.1 f.2 (λ m n. refl) (λ n e. e))
  course (Gives k y v) f = moved (slot_change f.0.0 k y s.val s.written f.0.1 f.0.2 (λ m n. refl) (λ n e. e))

  loose_same : (y : Cell) → Loose y → CellOk c s i y → CellOk c (slot_to i y s.val s.written s) i y
  loose_same (Await k) l o = o
  loose_same (Hold k) l o = o
  loose_same (Hand _ _ _) l o = elim l [ ]

  -- the slot itself afterwards
  pub cell_after : (e : Effect) → Fits c s w i e → CellOk c (after c w i e s) i ((after c w i e s).cell i)
  cell_after Still f = inv.cells i small
  cell_after (Tailed x) f =
      let o = ok_at (Await s.tail) f in
      rw (upd_same s.cell i (Hand Fill s.tail w)) (o.0, (inv.low, omega arith))
  cell_after Taken f =
      let o = ok_at (Hold s.head) f in
      rw (upd_same s.cell i (Hand Take s.head w)) (o.0, (omega arith, inv.high, o.3))
  cell_after Grabbed f =
      let o = ok_at (Hold s.head) f.0 in
      rw (upd_same s.cell i (Hand Grab s.head w)) (o.0, (omega arith, f.1, o.3))
  cell_after (Forced k x) f =
      let o = ok_at (Hand Grab k w) f in
      let old : k ≢ s.tail = omega (arith, o.1.1) in
      rw (upd_same s.cell i (Hand Swap k w))
      (o.0, (omega (arith, inv.low), omega (arith, o.1.1), (o.1.2.0 ∙ sym (upd_else s.item s.tail k x old), o.1.2.1)))
  cell_after (Fills k a) f =
      let o = ok_at (Hand Fill k w) f.0 in
      rw (upd_same s.cell i (Hand Filled k w)) (o.0, (o.1.0, o.1.1, (upd_same s.val i a ∙ f.1, upd_same s.written k true)))
  cell_after (Swaps k a) f =
      let o = ok_at (Hand Swap k w) f.0 in
      rw (upd_same s.cell i (Hand Swapped k w)) (o.0, (o.1.0, o.1.1, (upd_same s.val i a ∙ f.1, upd_same s.written (k + c) true)))
  cell_after (Frees k y) f = rw (upd_same s.cell i y) (loose_same y f.3 f.4)
  cell_after (Gives k y v) f = rw (upd_same s.cell i y) (loose_same y f.0.3 f.0.4)

  ends_after : (e : Effect) → Fits c s w i e → ((after c w i e s).head ≤ (after c w i e s).tail) × ((after c w i e s).tail ≤ (after c w i e s).head + c)
  ends_after Still f = (inv.low, inv.high)
  ends_after (Tailed x) f =
      let o = ok_at (Await s.tail) f in
      omega (arith, inv.low, inv.high)
  ends_after Taken f =
      let o = ok_at (Hold s.head) f in
      omega (arith, inv.low, inv.high)
  ends_after Grabbed f =
      let o = ok_at (Hold s.head) f.0 in
      omega (arith, inv.low, inv.high)
  ends_after (Forced k x) f =
      let o = ok_at (Hand Grab k w) f in
      omega (arith, inv.low, inv.high)
  ends_after (Fills k a) f = (inv.low, inv.high)
  ends_after (Swaps k a) f = (inv.low, inv.high)
  ends_after (Frees k y) f = (inv.low, inv.high)
  ends_after (Gives k y v) f = (inv.low, inv.high)

  -- every effect keeps the invariant
  pub inv_after : (e : Effect) → Fits c s w i e → Inv c (after c w i e s)
  inv_after e f = record { low = (ends_after e f).0; high = (ends_after e f).1; cells = λ m l. go (course e f) m l }
    where
      go : Course c s (after c w i e s) w i → (m : ℕ) → m < c → CellOk c (after c w i e s) m ((after c w i e s).cell m)
      go (same q) m l = rw q (inv.cells m l)
      go (moved d) m l = each (ℕ_discrete m i)
        where
          each : Dec (m ≡ i) → CellOk c (after c w i e s) m ((after c w i e s).cell m)
          each (yes q) = rw q (cell_after e f)
          each (no n) = rw (d.cell_else m n) (cell_else_lem c s (after c w i e s) w i inv d m n (s.cell m) (inv.cells m l))

  -- a slot that changed is in the hand of w or in none
  pub mine_after : (e : Effect) → Fits c s w i e → (j : ℕ) → j ≢ w → Mine j ((after c w i e s).cell i) → Mine j (s.cell i)
  mine_after Still f j n m = m
  mine_after (Tailed x) f j n m = absurd (n (sym (rw (upd_same s.cell i (Hand Fill s.tail w)) at m)))
  mine_after Taken f j n m = absurd (n (sym (rw (upd_same s.cell i (Hand Take s.head w)) at m)))
  mine_after Grabbed f j n m = absurd (n (sym (rw (upd_same s.cell i (Hand Grab s.head w)) at m)))
  mine_after (Forced k x) f j n m = absurd (n (sym (rw (upd_same s.cell i (Hand Swap k w)) at m)))
  mine_after (Fills k a) f j n m = absurd (n (sym (rw (upd_same s.cell i (Hand Filled k w)) at m)))
  mine_after (Swaps k a) f j n m = absurd (n (sym (rw (upd_same s.cell i (Hand Swapped k w)) at m)))
  mine_after (Frees k y) f j n m = absurd (loose_mine j y f.3 (rw (upd_same s.cell i y) at m))
  mine_after (Gives k y v) f j n m = absurd (loose_mine j y f.0.3 (rw (upd_same s.cell i y) at m))

-- every other slot, in short
pub cell_course : (c : ℕ) (s u : Shared) (w i : ℕ) → Course c s u w i → (m : ℕ) → m ≢ i → u.cell m ≡ s.cell m
cell_course c s u w i (same e) m n = rw e
cell_course c s u w i (moved d) m n = d.cell_else m n

pub val_course : (c : ℕ) (s u : Shared) (w i : ℕ) → Course c s u w i → (m : ℕ) → m ≢ i → u.val m ≡ s.val m
val_course c s u w i (same e) m n = rw e
val_course c s u w i (moved d) m n = d.val_else m n
