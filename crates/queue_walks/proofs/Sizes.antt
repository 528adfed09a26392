-- How long a walk's list can be: at most three workers with two codes each.
use Prim.Native.Nat.{ℕ, zero, suc, ◌+◌, ◌*◌, ◌≤◌}
use mathlib.Core.Path.{◌≡◌, refl, ap}
use mathlib.Core.Bool.{Bool, true, false, cond}
use mathlib.Core.List.{List, [], ◌∷◌, ◌++◌}
use native.Mathlib.Omega.{arith}
use lib.Dec.{eqb}
use lib.ListN.{length, length-append}
use Rattle.queue_walks.specs.Walks.{walkers_most, act_byte, after, in_turn, choice_by, walk_by}
use Rattle.queue_walks.specs.Listed.{bytes_of}
use Rattle.queue_walks.proofs.Listing.{bytes_append}

-- the most sequences of so many acts, and the most bytes
unfoldable pub most : ℕ → ℕ
most zero = 1
most (suc n) = 6 * most n

unfoldable pub most_bytes : ℕ → ℕ
most_bytes zero = 1
most_bytes (suc n) = 6 * (most_bytes n + most n)

pub record Small (a b : ℕ) (list : List (List ℕ)) : Type 0 where
  pub sequences : length list ≤ a
  pub bytes : length (bytes_of list) ≤ b

small_none : (a b : ℕ) → Small a b []
unfolding bytes_of
small_none a b = record { sequences = omega arith; bytes = omega arith }

small_one : (a b : ℕ) → 1 ≤ a → 1 ≤ b → Small a b ([] ∷ [])
unfolding bytes_of
small_one a b h g = record { sequences = h; bytes = g }

small_append : (a b c d : ℕ) (x y : List (List ℕ)) → Small a b x → Small c d y → Small (a + c) (b + d) (x ++ y)
small_append a b c d x y h g = record {
  sequences = omega (arith, h.sequences, g.sequences, length-append x y);
  bytes = omega (arith, h.bytes, g.bytes, ap length (bytes_append x y), length-append (bytes_of x) (bytes_of y));
}

after_length : (act : ℕ) (x : List (List ℕ)) → (length (after (act ∷ []) x) ≡ length x) × (length (bytes_of (after (act ∷ []) x)) ≡ length (bytes_of x) + length x)
unfolding after bytes_of
after_length act [] = (refl, refl)
after_length act (s ∷ x) =
    let h = after_length act x in
    (ap suc h.0, omega (arith, h.1, length-append s (bytes_of (after (act ∷ []) x)), length-append s (bytes_of x)))

small_after : (a b act : ℕ) (x : List (List ℕ)) → Small a b x → Small a (b + a) (after (act ∷ []) x)
small_after a b act x h = record { sequences = omega (arith, h.sequences, (after_length act x).0); bytes = omega (arith, h.sequences, h.bytes, (after_length act x).1) }

-- both codes of so many workers
twice : ℕ → ℕ → ℕ
twice zero a = 0
twice (suc k) a = a + (a + twice k a)

few_times : (k a : ℕ) → k ≤ walkers_most → twice k a ≤ 6 * a
unfolding twice
few_times zero a h = omega arith
few_times (suc zero) a h = omega arith
few_times (suc (suc zero)) a h = omega arith
few_times (suc (suc (suc zero))) a h = omega arith
few_times (suc (suc (suc (suc k)))) a h = absurd (omega arith)

small_turns : (choice : ℕ → ℕ → List (List ℕ)) (a b : ℕ) → ((w code : ℕ) → Small a b (choice w code)) → (k w : ℕ) → Small (twice k a) (twice k b) (in_turn choice k w)
unfolding in_turn twice
small_turns choice a b h zero w = small_none 0 0
small_turns choice a b h (suc k) w =
    small_append a b (a + twice k a) (b + twice k b) _ _ (h w 8) (small_append a b (twice k a) (twice k b) _ _ (h w 9) (small_turns choice a b h k (w + 1)))

one_most : (n : ℕ) → (1 ≤ most n) × (1 ≤ most_bytes n)
unfolding most most_bytes
one_most zero = (omega arith, omega arith)
one_most (suc n) = (omega (arith, (one_most n).0), omega (arith, (one_most n).0, (one_most n).1))

module _ {M D : Type 0} (refusal : D → ℕ) (machine : D → M) (turn : M → ℕ → ℕ → D) (workers : M → ℕ) (idle : M → Bool)
    (Few : M → Type 0) (few : (m : M) → Few m → workers m ≤ walkers_most) (keeps : (m : M) (first : ℕ) → Few m → Few (machine (turn m first 0))) where
  one_more : (left : ℕ) (m : M) → Few m → ((next : M) → Few next → Small (most left) (most_bytes left) (walk_by refusal machine turn workers idle left next))
      → Small (most (suc left)) (most_bytes (suc left)) (walk_by refusal machine turn workers idle (suc left) m)
  unfolding walk_by choice_by most most_bytes
  one_more left m h ih = by (idle m)
    where
      choice : ℕ → ℕ → List (List ℕ)
      choice = choice_by refusal machine turn workers idle (walk_by refusal machine turn workers idle left) m

      accepted : (w code : ℕ) (b : Bool) → Small (most left) (most_bytes left + most left)
          (cond b (after (act_byte code w ∷ []) (walk_by refusal machine turn workers idle left (machine (turn m (16 * w + code) 0)))) [])
      accepted w code true = small_after (most left) (most_bytes left) (act_byte code w) _ (ih (machine (turn m (16 * w + code) 0)) (keeps m (16 * w + code) h))
      accepted w code false = small_none _ _

      turns : Small (most (suc left)) (most_bytes (suc left)) (in_turn choice (workers m) 0)
      turns =
          let t = small_turns choice (most left) (most_bytes left + most left) (λ w code. accepted w code (eqb (refusal (turn m (16 * w + code) 0)) 0)) (workers m) 0 in
          record { sequences = omega (arith, t.sequences, few_times (workers m) (most left) (few m h)); bytes = omega (arith, t.bytes, few_times (workers m) (most_bytes left + most left) (few m h)) }

      by : (b : Bool) → Small (most (suc left)) (most_bytes (suc left)) (cond b ([] ∷ []) (in_turn choice (workers m) 0))
      by true = small_one _ _ (one_most (suc left)).0 (one_most (suc left)).1
      by false = turns

  pub sizes : (left : ℕ) (m : M) → Few m → Small (most left) (most_bytes left) (walk_by refusal machine turn workers idle left m)
  unfolding walk_by most most_bytes
  sizes zero m h = small_one 1 1 (omega arith) (omega arith)
  sizes (suc left) m h = one_more left m h (sizes left)
