-- Which words a code holds, in ranges: 39 cases, each by computing.
use Prim.Native.Nat.{ℕ, zero, suc, ◌-◌, ◌≤◌, ◌<◌}
use mathlib.Core.Path.{◌≡◌, refl, sym, ap, ◌∙◌, subst}
use mathlib.Core.Bool.{Bool, true, false, cond, not}
use native.Mathlib.Omega.{arith}
use native.Mathlib.Decide.{dec_lt}
use lib.Dec.{ltb, eqb}
use borrow.Author.Tests.{eq-eqb, ne_eqb, lt-ltb, le-ltb, le-leb, lt-leb}
use Rattle.bounded_words.specs.Words.{stamp}
use Rattle.bounded_places.specs.declared.Held.{Held}
use Rattle.bounded_places.specs.declared.Held.TheVariants as held
use Rattle.bounded_places.specs.declared.Place.{Place}
use Rattle.bounded_places.specs.declared.Place.TheVariants as place
use Rattle.bounded_places.specs.Places.{view_of}
use Rattle.bounded_codes.specs.declared.Coded.{Coded}
use Rattle.bounded_codes.specs.Codes.{triple, code_of, place_in, same_as, stands_for, within, may_be}
use Rattle.bounded_codes.proofs.Along.{last_held, busy_in}

abbrev held_at : ℕ → ℕ → ℕ → Held
held_at c a b =
    cond (ltb c 15) held.Nothing (cond (eqb c 20) (held.Tail (stamp a)) (cond (eqb c 21) (held.Both (stamp a) (stamp b)) (cond (ltb c 33) (held.End (stamp a)) held.Nothing)))

abbrev weak_at : ℕ → Bool
weak_at c = cond (eqb c 17) true (cond (eqb c 24) true (cond (eqb c 25) true (eqb c 28)))

record Rule (a b c : ℕ) : Type 0 where
  words : code_of (place_in c a b) ≡ triple c (cond (within c 6 33) a 0) (cond (within c 21 33) b 0)
  busy : (view_of (place_in c a b)).busy ≡ not (ltb c 11)
  held : (view_of (place_in c a b)).held ≡ held_at c a b
  weak : (view_of (place_in c a b)).weak ≡ weak_at c

-- a rule for each number below k
record Snoc (A B : Type 0) : Type 0 where
  front : A
  last : B

infixl 20 ◌▹◌
abbrev ◌▹◌ : {A B : Type 0} → A → B → Snoc A B
x ▹ y = record { front = x; last = y }

Below : ℕ → (ℕ → Type 0) → Type 0
Below zero P = Unit {0}
Below (suc k) P = Snoc (Below k P) (P k)

find : (k : ℕ) (P : ℕ → Type 0) → Below k P → (n : ℕ) → n < k → P n
unfolding Below
find zero P x n l = absurd (omega (arith, l))
find (suc k) P x n l = go (dec_lt n k) (λ m. find k P x.front n m)
  where
    go : Dec (n < k) → (n < k → P n) → P n
    go (yes m) f = f m
    go (no m) f = let e : k ≡ n = omega (arith, l, m) in subst P e x.last

every : (a b : ℕ) → Below 39 (Rule a b)
unfolding Below place_in triple within
every a b = tt
    ▹ record { words = refl; busy = refl; held = refl; weak = refl }
    ▹ record { words = refl; busy = refl; held = refl; weak = refl }
    ▹ record { words = refl; busy = refl; held = refl; weak = refl }
    ▹ record { words = refl; busy = refl; held = refl; weak = refl }
    ▹ record { words = refl; busy = refl; held = refl; weak = refl }
    ▹ record { words = refl; busy = refl; held = refl; weak = refl }
    ▹ record { words = refl; busy = refl; held = refl; weak = refl }
    ▹ record { words = refl; busy = refl; held = refl; weak = refl }
    ▹ record { words = refl; busy = refl; held = refl; weak = refl }
    ▹ record { words = refl; busy = refl; held = refl; weak = refl }
    ▹ record { words = refl; busy = refl; held = refl; weak = refl }
    ▹ record { words = refl; busy = refl; held = refl; weak = refl }
    ▹ record { words = refl; busy = refl; held = refl; weak = refl }
    ▹ record { words = refl; busy = refl; held = refl; weak = refl }
    ▹ record { words = refl; busy = refl; held = refl; weak = refl }
    ▹ record { words = refl; busy = refl; held = refl; weak = refl }
    ▹ record { words = refl; busy = refl; held = refl; weak = refl }
    ▹ record { words = refl; busy = refl; held = refl; weak = refl }
    ▹ record { words = refl; busy = refl; held = refl; weak = refl }
    ▹ record { words = refl; busy = refl; held = refl; weak = refl }
    ▹ record { words = refl; busy = refl; held = refl; weak = refl }
    ▹ record { words = refl; busy = refl; held = refl; weak = refl }
    ▹ record { words = refl; busy = refl; held = refl; weak = refl }
    ▹ record { words = refl; busy = refl; held = refl; weak = refl }
    ▹ record { words = refl; busy = refl; held = refl; weak = refl }
    ▹ record { words = refl; busy = refl; held = refl; weak = refl }
    ▹ record { words = refl; busy = refl; held = refl; weak = refl }
    ▹ record { words = refl; busy = refl; held = refl; weak = refl }
    ▹ record { words = refl; busy = refl; held = refl; weak = refl }
    ▹ record { words = refl; busy = refl; held = refl; weak = refl }
    ▹ record { words = refl; busy = refl; held = refl; weak = refl }
    ▹ record { words = refl; busy = refl; held = refl; weak = refl }
    ▹ record { words = refl; busy = refl; held = refl; weak = refl }
    ▹ record { words = refl; busy = refl; held = refl; weak = refl }
    ▹ record { words = refl; busy = refl; held = refl; weak = refl }
    ▹ record { words = refl; busy = refl; held = refl; weak = refl }
    ▹ record { words = refl; busy = refl; held = refl; weak = refl }
    ▹ record { words = refl; busy = refl; held = refl; weak = refl }
    ▹ record { words = refl; busy = refl; held = refl; weak = refl }

past : (c a b : ℕ) → 39 ≤ c → place_in c a b ≡ place.IsClosed1
past c a b g = sym (busy_in c a b place.IsClosed1 (omega (arith, g)) (last_held (c - 11) a b (omega (arith, g))))

-- ---- the words that are held
held_is : (c a b : ℕ) → (view_of (place_in c a b)).held ≡ held_at c a b
held_is c a b = go (dec_lt c 39)
  where
    go : Dec (c < 39) → (view_of (place_in c a b)).held ≡ held_at c a b
    go (yes l) = (find 39 (Rule a b) (every a b) c l).held
    go (no g) = ap (λ (p : Place). (view_of p).held) (past c a b (omega (arith, g)))
        ∙ sym (rw (
          le-ltb c 15 (omega (arith, g)),
          ne_eqb c 20 (λ e. omega (arith, e, g)),
          ne_eqb c 21 (λ e. omega (arith, e, g)),
          le-ltb c 33 (omega (arith, g)),
        ) refl)

pub busy_is : (c a b : ℕ) → (view_of (place_in c a b)).busy ≡ not (ltb c 11)
busy_is c a b = go (dec_lt c 39)
  where
    go : Dec (c < 39) → (view_of (place_in c a b)).busy ≡ not (ltb c 11)
    go (yes l) = (find 39 (Rule a b) (every a b) c l).busy
    go (no g) = ap (λ (p : Place). (view_of p).busy) (past c a b (omega (arith, g))) ∙ sym (ap not (le-ltb c 11 (omega (arith, g))))

weak_is : (c a b : ℕ) → (view_of (place_in c a b)).weak ≡ weak_at c
weak_is c a b = go (dec_lt c 39)
  where
    go : Dec (c < 39) → (view_of (place_in c a b)).weak ≡ weak_at c
    go (yes l) = (find 39 (Rule a b) (every a b) c l).weak
    go (no g) = ap (λ (p : Place). (view_of p).weak) (past c a b (omega (arith, g)))
        ∙ sym (rw (ne_eqb c 17 (λ e. omega (arith, e, g)), ne_eqb c 24 (λ e. omega (arith, e, g)), ne_eqb c 25 (λ e. omega (arith, e, g)), ne_eqb c 28 (λ e. omega (arith, e, g))) refl)

module _ (c a b : ℕ) where
  pub idle_below : c < 11 → false ≡ (view_of (place_in c a b)).busy
  idle_below l = sym (busy_is c a b ∙ ap not (lt-ltb c 11 l))

  pub busy_from : 11 ≤ c → true ≡ (view_of (place_in c a b)).busy
  busy_from h = sym (busy_is c a b ∙ ap not (le-ltb c 11 h))

  -- the weak exchanges: O3, P3 of either call, F6
  pub weak_o3 : c ≡ 17 → true ≡ (view_of (place_in c a b)).weak
  weak_o3 e = sym (weak_is c a b ∙ rw (eq-eqb c 17 e) refl)

  module _ (n : c ≡ 17 → ⊥) where
    pub weak_push : c ≡ 24 → true ≡ (view_of (place_in c a b)).weak
    weak_push e = sym (weak_is c a b ∙ rw (ne_eqb c 17 n, eq-eqb c 24 e) refl)

    module _ (m : c ≡ 24 → ⊥) where
      pub weak_force : c ≡ 25 → true ≡ (view_of (place_in c a b)).weak
      weak_force e = sym (weak_is c a b ∙ rw (ne_eqb c 17 n, ne_eqb c 24 m, eq-eqb c 25 e) refl)

      pub weak_f6 : (c ≡ 25 → ⊥) → eqb c 28 ≡ (view_of (place_in c a b)).weak
      weak_f6 k = sym (weak_is c a b ∙ rw (ne_eqb c 17 n, ne_eqb c 24 m, ne_eqb c 25 k) refl)

module _ (c a b : ℕ) where
  pub held_low : c < 15 → held.Nothing ≡ (view_of (place_in c a b)).held
  held_low l = sym (held_is c a b ∙ rw (lt-ltb c 15 l) refl)

  module _ (h : 15 ≤ c) where
    pub held_tail : c ≡ 20 → held.Tail (stamp a) ≡ (view_of (place_in c a b)).held
    held_tail e = sym (held_is c a b ∙ rw (le-ltb c 15 h, eq-eqb c 20 e) refl)

    module _ (n : c ≡ 20 → ⊥) where
      pub held_both : c ≡ 21 → held.Both (stamp a) (stamp b) ≡ (view_of (place_in c a b)).held
      held_both e = sym (held_is c a b ∙ rw (le-ltb c 15 h, ne_eqb c 20 n, eq-eqb c 21 e) refl)

      module _ (m : c ≡ 21 → ⊥) where
        pub held_end : c < 33 → held.End (stamp a) ≡ (view_of (place_in c a b)).held
        held_end l = sym (held_is c a b ∙ rw (le-ltb c 15 h, ne_eqb c 20 n, ne_eqb c 21 m, lt-ltb c 33 l) refl)

        pub held_high : 33 ≤ c → held.Nothing ≡ (view_of (place_in c a b)).held
        held_high g = sym (held_is c a b ∙ rw (le-ltb c 15 h, ne_eqb c 20 n, ne_eqb c 21 m, le-ltb c 33 g) refl)

-- ---- words that stand for a place
turned : (a : ℕ) → eqb 0 a ≡ eqb a 0
turned zero = refl
turned (suc a) = ne_eqb 0 (suc a) (λ e. omega (arith, e)) ∙ sym (ne_eqb (suc a) 0 (λ e. omega (arith, e)))

allowed : (a : ℕ) (h : Bool) → eqb (cond h a 0) a ≡ may_be a h
unfolding may_be
allowed a true = eq-eqb a a refl
allowed a false = turned a

module _ (c a b : ℕ) where
  pub no_place : 39 ≤ c → false ≡ stands_for c a b
  unfolding stands_for triple
  no_place g = sym (ap (λ (p : Place). same_as (code_of p) c a b) (past c a b g) ∙ ap (λ (t : Bool). cond t (cond (eqb 0 a) (eqb 0 b) false) false) (ne_eqb 38 c (λ e. omega (arith, e, g))))

  module _ (l : c < 39) where
    stands_by : stands_for c a b ≡ cond (may_be a (within c 6 33)) (may_be b (within c 21 33)) false
    unfolding stands_for triple
    stands_by =
        ap (λ (x : Coded). same_as x c a b) (find 39 (Rule a b) (every a b) c l).words
        ∙ ap (λ (t : Bool). cond t (cond (eqb (cond (within c 6 33) a 0) a) (eqb (cond (within c 21 33) b 0) b) false) false) (eq-eqb c c refl)
        ∙ (λ i. cond (allowed a (within c 6 33) i) (allowed b (within c 21 33) i) false)

    module _ (h : Bool) (eh : h ≡ within c 6 33) (m : Bool) (em : m ≡ may_be a h) where
      told : m ≡ may_be a (within c 6 33)
      told = em ∙ ap (may_be a) eh

      pub no_first : m ≡ false → false ≡ stands_for c a b
      no_first f = sym (stands_by ∙ ap (λ (t : Bool). cond t (may_be b (within c 21 33)) false) (sym told ∙ f))

      pub by_second : m ≡ true → (k : Bool) → k ≡ within c 21 33 → (r : Bool) → r ≡ may_be b k → r ≡ stands_for c a b
      by_second t k ek r er = er ∙ ap (may_be b) ek ∙ sym (stands_by ∙ ap (λ (x : Bool). cond x (may_be b (within c 21 33)) false) (sym told ∙ t))

-- ---- the tests as the code makes them
pub in_range : (c from to : ℕ) → from ≤ c → ltb c to ≡ within c from to
unfolding within
in_range c from to h = sym (rw (le-leb from c h) refl)

pub below_range : (c from to : ℕ) → c < from → false ≡ within c from to
unfolding within
below_range c from to h = sym (rw (lt-leb from c h) refl)

pub held_may : (w : ℕ) (h : Bool) → h ≡ true → true ≡ may_be w h
unfolding may_be
held_may w h e = sym (rw e refl)

pub unheld_may : (w : ℕ) (h : Bool) → h ≡ false → eqb w 0 ≡ may_be w h
unfolding may_be
unheld_may w h e = sym (rw e refl)
