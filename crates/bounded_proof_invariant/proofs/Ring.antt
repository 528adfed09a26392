-- The ring over claim numbers: what it holds, what a worker relies on, and what one worker's change leaves to the others.
use mathlib.Core.Path.{◌≡◌, refl, sym, ap, ◌∙◌, subst}
use mathlib.Core.Logic.{◌≢◌}
use mathlib.Core.Bool.{Bool, true, false}
use Prim.Native.Nat.{ℕ, ◌+◌, ◌%◌, ◌≤◌, ◌<◌}
use native.Mathlib.Omega.{arith}
use native.Mathlib.Nat.{add-mod_right}
use native.Mathlib.Decide.{dec_lt}

-- How far a worker is with the slot in its hand: P4, P5; O4 and O5; F7, F8, F9.
pub data Stage : Type 0 where
  Fill Filled Take Grab Swap Swapped : Stage

-- by a head claim: the slot was full, and its stamp still says so
abbrev pub taking : Stage → Bool
taking Fill = false
taking Filled = false
taking Take = true
taking Grab = true
taking Swap = true
taking Swapped = true

-- A slot: it waits for tail claim k, holds the item of claim k, or is in the hand of a worker that works at claim k
-- (of force_push: the claim whose item goes out; the item of k + c comes in).
pub data Cell : Type 0 where
  Await Hold : ℕ → Cell
  Hand : Stage → ℕ → ℕ → Cell

abbrev pub number : Cell → ℕ
number (Await k) = k
number (Hold k) = k
number (Hand st k w) = k

-- whose hand it is in
abbrev pub Mine : ℕ → Cell → Type 0
Mine w (Await k) = ⊥
Mine w (Hold k) = ⊥
Mine w (Hand st k v) = v ≡ w

pub mine_one : (v w : ℕ) (x : Cell) → Mine v x → Mine w x → v ≡ w
mine_one v w (Hand st k u) p q = sym p ∙ q
mine_one v w (Await _) p q = elim p [ ]
mine_one v w (Hold _) p q = elim p [ ]

-- Head and tail claims so far, the slots with their values, and of each claim its item, its workers and whether its
-- value has been written.
pub record Shared : Type 0 where
  pub head : ℕ
  pub tail : ℕ
  pub cell : ℕ → Cell
  pub val : ℕ → ℕ
  pub item : ℕ → ℕ
  pub taker : ℕ → ℕ
  pub tailer : ℕ → ℕ
  pub written : ℕ → Bool

-- the latest of so many claims that is w's has the number k
abbrev pub Latest : (ℕ → ℕ) → ℕ → ℕ → ℕ → Type 0
Latest who count w k = (k < count) × (who k ≡ w) × ((n : ℕ) → k < n → n < count → who n ≢ w)

-- What a worker's place relies on.
pub data View : Type 0 where
  Tail Head Awaits Holds Forces Rests : ℕ → View
  -- a slot in hand at claim k
  Owns : Stage → ℕ → View
  -- the same, with a value that is the item of claim n
  Keeps : Stage → ℕ → ℕ → ℕ → View

module _ (c : ℕ) where
  -- slot i has the value that was written for claim k
  abbrev pub Valued : Shared → ℕ → ℕ → Type 0
  Valued s i k = (s.val i ≡ s.item k) × (s.written k ≡ true)

  abbrev pub HandOk : Shared → ℕ → Stage → ℕ → Type 0
  HandOk s i Fill k = (s.head ≤ k) × (k < s.tail)
  HandOk s i Filled k = (s.head ≤ k) × (k < s.tail) × Valued s i k
  HandOk s i Take k = (k < s.head) × (s.tail ≤ k + c) × Valued s i k
  HandOk s i Grab k = (k < s.head) × (s.tail ≡ k + c) × Valued s i k
  HandOk s i Swap k = (s.head ≤ k + c) × (k + c < s.tail) × Valued s i k
  HandOk s i Swapped k = (s.head ≤ k + c) × (k + c < s.tail) × Valued s i (k + c)

  abbrev pub CellOk : Shared → ℕ → Cell → Type 0
  CellOk s i (Await k) = (k % c ≡ i) × (s.tail ≤ k) × (k < s.head + c)
  CellOk s i (Hold k) = (k % c ≡ i) × (s.head ≤ k) × (k < s.tail) × Valued s i k
  CellOk s i (Hand st k w) = (k % c ≡ i) × HandOk s i st k

  -- the claims that a worker in hand works at are its latest
  abbrev pub Claimed : Shared → ℕ → Stage → ℕ → Type 0
  Claimed s w Fill k = Latest s.tailer s.tail w k
  Claimed s w Filled k = Unit {0}
  Claimed s w Take k = Latest s.taker s.head w k
  Claimed s w Grab k = Latest s.taker s.head w k
  Claimed s w Swap k = Latest s.taker s.head w k × Latest s.tailer s.tail w (k + c)
  Claimed s w Swapped k = Latest s.taker s.head w k

  abbrev pub Owned : Shared → ℕ → Stage → ℕ → Type 0
  Owned s w st k = (s.cell (k % c) ≡ Hand st k w) × Claimed s w st k

  abbrev pub ViewOk : Shared → ℕ → View → Type 0
  ViewOk s w (Tail t) = t ≤ s.tail
  ViewOk s w (Head h) = h ≤ s.head
  ViewOk s w (Awaits t) = (t ≤ s.tail) × (s.tail ≡ t → s.cell (t % c) ≡ Await t)
  ViewOk s w (Holds h) = (h ≤ s.head) × (s.head ≡ h → s.cell (h % c) ≡ Hold h)
  ViewOk s w (Forces h) = (h ≤ s.head) × (s.head ≡ h → s.cell (h % c) ≡ Hold h) × (h + c ≤ s.tail)
  ViewOk s w (Rests h) = (h ≤ s.head) × (s.tail ≡ h → s.cell (h % c) ≡ Await h)
  ViewOk s w (Owns st k) = Owned s w st k
  ViewOk s w (Keeps st k a n) = Owned s w st k × (n < s.tail) × (a ≡ s.item n)

  pub record Inv (s : Shared) : Type 0 where
    pub low : s.head ≤ s.tail
    pub high : s.tail ≤ s.head + c
    pub cells : (i : ℕ) → i < c → CellOk s i (s.cell i)

  -- One slot, i, changes at the hands of w; the ends only grow, and only past a number of that slot.
  pub record Change (s u : Shared) (w i : ℕ) : Type 0 where
    pub head_up : s.head ≤ u.head
    pub tail_up : s.tail ≤ u.tail
    pub head_at : (n : ℕ) → n % c ≢ i → s.head ≤ n → u.head ≤ n
    pub tail_at : (n : ℕ) → n % c ≢ i → s.tail ≤ n → u.tail ≤ n
    pub cell_else : (m : ℕ) → m ≢ i → u.cell m ≡ s.cell m
    pub val_else : (m : ℕ) → m ≢ i → u.val m ≡ s.val m
    pub item_old : (n : ℕ) → n < s.tail → u.item n ≡ s.item n
    pub taker_old : (n : ℕ) → n < s.head → u.taker n ≡ s.taker n
    pub taker_new : (n : ℕ) → s.head ≤ n → n < u.head → u.taker n ≡ w
    pub tailer_old : (n : ℕ) → n < s.tail → u.tailer n ≡ s.tailer n
    pub tailer_new : (n : ℕ) → s.tail ≤ n → n < u.tail → u.tailer n ≡ w
    pub written_up : (n : ℕ) → s.written n ≡ true → u.written n ≡ true
    pub number_up : number (s.cell i) ≤ number (u.cell i)
    pub owner : (j : ℕ) → j ≢ w → Mine j (s.cell i) → ⊥
    pub await : s.cell i ≡ Await s.tail → u.tail ≢ s.tail
    pub hold : s.cell i ≡ Hold s.head → u.head ≢ s.head

-- claims of another, added at the end, leave one's latest as it is
latest_else : (who new : ℕ → ℕ) (m n w j k : ℕ) → m ≤ n → j ≢ w → ((i : ℕ) → i < m → new i ≡ who i) → ((i : ℕ) → m ≤ i → i < n → new i ≡ w)
    → Latest who m j k → Latest new n j k
latest_else who new m n w j k le ne old add l =
    (omega arith, old k l.0 ∙ l.1, λ i a b. later i a b (dec_lt i m))
  where
    later : (i : ℕ) → k < i → i < n → Dec (i < m) → new i ≢ j
    later i a b (yes p) q = l.2 i a p (sym (old i p) ∙ q)
    later i a b (no p) q = let z : m ≤ i = omega arith in ne (sym q ∙ add i z b)

module _ (c : ℕ) (s u : Shared) (w i : ℕ) (inv : Inv c s) (d : Change c s u w i) where
  pub taken_else : (j k : ℕ) → j ≢ w → Latest s.taker s.head j k → Latest u.taker u.head j k
  taken_else j k n = latest_else s.taker u.taker s.head u.head w j k d.head_up n d.taker_old d.taker_new

  tailed_else : (j k : ℕ) → j ≢ w → Latest s.tailer s.tail j k → Latest u.tailer u.tail j k
  tailed_else j k n = latest_else s.tailer u.tailer s.tail u.tail w j k d.tail_up n d.tailer_old d.tailer_new

  claimed_else : (j : ℕ) → j ≢ w → (st : Stage) (k : ℕ) → Claimed c s j st k → Claimed c u j st k
  claimed_else j n Fill k o = tailed_else j k n o
  claimed_else j n Filled k o = tt
  claimed_else j n Take k o = taken_else j k n o
  claimed_else j n Grab k o = taken_else j k n o
  claimed_else j n Swap k o = (taken_else j k n o.0, tailed_else j (k + c) n o.1)
  claimed_else j n Swapped k o = taken_else j k n o

  -- another's slot is not the one that changes
  owned_else : (j : ℕ) → j ≢ w → (st : Stage) (k : ℕ) → Owned c s j st k → Owned c u j st k
  owned_else j n st k o =
      let far : k % c ≢ i = λ p. d.owner j n (subst (Mine j) (sym o.0 ∙ ap s.cell p) refl) in
      (d.cell_else (k % c) far ∙ o.0, claimed_else j n st k o.1)

  await_else : (t : ℕ) → t ≤ s.tail → (s.tail ≡ t → s.cell (t % c) ≡ Await t) → u.tail ≡ t → u.cell (t % c) ≡ Await t
  await_else t le f e =
      let q : s.tail ≡ t = omega (arith, d.tail_up) in
      let far : t % c ≢ i = λ p. d.await (ap s.cell (sym p) ∙ f q ∙ ap Await (sym q)) (e ∙ sym q) in
      d.cell_else (t % c) far ∙ f q

  hold_else : (h : ℕ) → h ≤ s.head → (s.head ≡ h → s.cell (h % c) ≡ Hold h) → u.head ≡ h → u.cell (h % c) ≡ Hold h
  hold_else h le f e =
      let q : s.head ≡ h = omega (arith, d.head_up) in
      let far : h % c ≢ i = λ p. d.hold (ap s.cell (sym p) ∙ f q ∙ ap Hold (sym q)) (e ∙ sym q) in
      d.cell_else (h % c) far ∙ f q

  -- what another worker relies on stays
  pub view_else : (j : ℕ) → j ≢ w → (v : View) → ViewOk c s j v → ViewOk c u j v
  view_else j n (Tail t) o = omega (arith, d.tail_up)
  view_else j n (Head h) o = omega (arith, d.head_up)
  view_else j n (Awaits t) o = (omega (arith, d.tail_up), await_else t o.0 o.1)
  view_else j n (Holds h) o = (omega (arith, d.head_up), hold_else h o.0 o.1)
  view_else j n (Forces h) o = (omega (arith, d.head_up), hold_else h o.0 o.1, omega (arith, d.tail_up))
  view_else j n (Rests h) o = (omega (arith, d.head_up), await_else h (omega (arith, o.0, inv.low)) o.1)
  view_else j n (Owns st k) o = owned_else j n st k o
  view_else j n (Keeps st k a m) o = (owned_else j n st k o.0, omega (arith, d.tail_up), o.2 ∙ sym (d.item_old m o.1))

  valued_else : (m k : ℕ) → m ≢ i → k < s.tail → Valued c s m k → Valued c u m k
  valued_else m k n l o = (d.val_else m n ∙ o.0 ∙ sym (d.item_old k l), d.written_up k o.1)

  -- a number of another slot, a lap on
  lapped : (m k : ℕ) → m ≢ i → k % c ≡ m → (k + c) % c ≢ i
  lapped m k n e q = n (sym e ∙ sym (add-mod_right k c) ∙ q)

  hand_else : (m : ℕ) → m ≢ i → (st : Stage) (k : ℕ) → k % c ≡ m → HandOk c s m st k → HandOk c u m st k
  hand_else m n Fill k e o = (d.head_at k (omega arith) o.0, omega (arith, d.tail_up))
  hand_else m n Filled k e o = (d.head_at k (omega arith) o.0, omega (arith, d.tail_up), valued_else m k n o.1 o.2)
  hand_else m n Take k e o =
      (omega (arith, d.head_up), d.tail_at (k + c) (lapped m k n e) o.1, valued_else m k n (omega (arith, inv.low)) o.2)
  hand_else m n Grab k e o = (
    omega (arith, d.head_up),
    omega (arith, d.tail_up, d.tail_at (k + c) (lapped m k n e) (omega arith)),
    valued_else m k n (omega (arith, inv.low)) o.2,
  )
  hand_else m n Swap k e o = (d.head_at (k + c) (lapped m k n e) o.0, omega (arith, d.tail_up), valued_else m k n (omega arith) o.2)
  hand_else m n Swapped k e o = (d.head_at (k + c) (lapped m k n e) o.0, omega (arith, d.tail_up), valued_else m (k + c) n o.1 o.2)

  -- every other slot stays as it is
  pub cell_else_lem : (m : ℕ) → m ≢ i → (x : Cell) → CellOk c s m x → CellOk c u m x
  cell_else_lem m n (Await k) o = (o.0, d.tail_at k (omega arith) o.1, omega (arith, d.head_up))
  cell_else_lem m n (Hold k) o = (o.0, d.head_at k (omega arith) o.1, omega (arith, d.tail_up), valued_else m k n o.2 o.3)
  cell_else_lem m n (Hand st k v) o = (o.0, hand_else m n st k o.0 o.1)
