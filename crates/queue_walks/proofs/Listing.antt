-- Sequences in a buffer, one after another, and their numbers.
use Prim.Native.Nat.{ℕ, suc, ◌+◌, ◌<◌, ◌≤◌, ◌^◌}
use mathlib.Core.Path.{◌≡◌, refl, sym, ap, ◌∙◌, subst}
use mathlib.Core.List.{List, [], ◌∷◌, ◌++◌, append-nil, append_assoc}
use native.Mathlib.Numerals.{add-one}
use native.Mathlib.Omega.{arith}
use lib.ListN.{length, take, drop, get_or, set, length-append, drop_of_length-le}
use lib.Seq.{sets, set_out, drop-cons, get_or-take, length-take-le}
use Rattle.queue_walks.specs.declared.Walked.{Walked}
use Rattle.queue_walks.specs.Walks.{after}
use Rattle.queue_walks.specs.Listed.{bytes_of, walked, counted, Room}

-- ---- bytes past the end of a buffer
pub sets_out : (l : List ℕ) (k : ℕ) (bytes : List ℕ) → length l ≤ k → sets l k bytes ≡ l
sets_out l k [] h = refl
sets_out l k (b ∷ bytes) h = ap (λ (x : List ℕ). sets x (suc k) bytes) (set_out l k b h) ∙ sets_out l (suc k) bytes (omega (arith, h))

-- ---- one sequence
module _ (path : List ℕ) (n : ℕ) (few : n ≤ length path) where
  one_byte_more : length (bytes_of (take n path ∷ [])) ≡ 1 + n
  unfolding bytes_of
  one_byte_more = omega (arith, simp length-append at (ap length (append-nil (take n path))), length-append (take n path) [], length-take-le n path few)

  pub one_first : (out : List ℕ) (k : ℕ) → sets (set out k n) (k + 1) (take n path) ≡ sets out k (bytes_of (take n path ∷ []))
  unfolding bytes_of
  one_first out k = rw (add-one, append-nil, length-take-le n path few)

  pub one_more : (out : List ℕ) (k i : ℕ) → i < n → sets (set out (k + i) (get_or path i 0)) (k + (i + 1)) (drop (i + 1) (take n path)) ≡ sets out (k + i) (drop i (take n path))
  one_more out k i lt =
      let below : i < length (take n path) = omega (arith, length-take-le n path few) in
      sym (ap (sets out (k + i)) (drop-cons (take n path) i 0 below)
      ∙ ap (λ (x : ℕ). sets (set out (k + i) x) (suc (k + i)) (drop (suc i) (take n path))) (get_or-take n path i 0 lt)
      ∙ ap (λ (j : ℕ). sets (set out (k + i) (get_or path i 0)) j (drop (suc i) (take n path))) (omega arith)
      ∙ ap (λ (j : ℕ). sets (set out (k + i) (get_or path i 0)) (k + (i + 1)) (drop j (take n path))) (sym (add-one i)))

  pub one_all : (out : List ℕ) (k i : ℕ) → n ≤ i → out ≡ sets out k (drop i (take n path))
  one_all out k i ge = sym (ap (sets out k) (drop_of_length-le (take n path) {i = i} (omega (arith, length-take-le n path few))))

  module _ (r : Walked) where
    pub one_fits : Room r (take n path ∷ []) → (r.sequences + 1 < 2 ^ 64) × (r.bytes + 1 + n < 2 ^ 64)
    one_fits h = (h.sequences, omega (arith, h.bytes, one_byte_more))

    pub one_counted : walked (r.sequences + 1) (r.bytes + 1 + n) ≡ counted r (take n path ∷ [])
    unfolding counted
    one_counted = ap (walked (r.sequences + 1)) (omega (arith, one_byte_more))

-- ---- one list after another
pub after_append : (p : List ℕ) (a b : List (List ℕ)) → after p (a ++ b) ≡ after p a ++ after p b
unfolding after
after_append p [] b = refl
after_append p (s ∷ a) b = ap (λ (l : List (List ℕ)). (p ++ s) ∷ l) (after_append p a b)

pub after_after : (p q : List ℕ) (a : List (List ℕ)) → after p (after q a) ≡ after (p ++ q) a
unfolding after
after_after p q [] = refl
after_after p q (s ∷ a) = rw (after_after p q a, append_assoc)

pub bytes_append : (a b : List (List ℕ)) → bytes_of (a ++ b) ≡ bytes_of a ++ bytes_of b
unfolding bytes_of
bytes_append [] b = refl
bytes_append (s ∷ a) b = ap (λ (l : List ℕ). length s ∷ l) (ap (λ (l : List ℕ). s ++ l) (bytes_append a b) ∙ sym (append_assoc s (bytes_of a) (bytes_of b)))

sets_append : (out : List ℕ) (k : ℕ) (a b : List ℕ) → sets out k (a ++ b) ≡ sets (sets out k a) (k + length a) b
sets_append out k [] b = ap (λ (j : ℕ). sets out j b) (omega arith)
sets_append out k (x ∷ a) b = sets_append (set out k x) (suc k) a b ∙ ap (λ (j : ℕ). sets (sets (set out k x) (suc k) a) j b) (omega arith)

counted_append : (r : Walked) (a b : List (List ℕ)) → counted r (a ++ b) ≡ counted (counted r a) b
unfolding counted
counted_append r a b =
    ap (λ (k : ℕ). walked k (r.bytes + length (bytes_of (a ++ b)))) (omega (arith, length-append a b))
    ∙ ap (walked (r.sequences + length a + length b)) (omega (arith, ap length (bytes_append a b), length-append (bytes_of a) (bytes_of b)))

-- Told so far, r in out, with a rest to come, it will be as if the whole were told from r₀ in out₀ on.
pub record Ahead (r₀ : Walked) (out₀ : List ℕ) (whole : List (List ℕ)) (r : Walked) (out : List ℕ) (rest : List (List ℕ)) : Type 0 where
  pub numbers : counted r rest ≡ counted r₀ whole
  pub bytes : sets out r.bytes (bytes_of rest) ≡ sets out₀ r₀.bytes (bytes_of whole)
  pub room : Room r rest

module _ (r₀ : Walked) (out₀ : List ℕ) (whole : List (List ℕ)) where
  pub ahead_all : Room r₀ whole → Ahead r₀ out₀ whole r₀ out₀ whole
  ahead_all h = record { numbers = refl; bytes = refl; room = h }

  module _ (r : Walked) (out : List ℕ) where
    pub ahead_done : Ahead r₀ out₀ whole r out [] → (r ≡ counted r₀ whole) × (out ≡ sets out₀ r₀.bytes (bytes_of whole))
    unfolding counted bytes_of
    ahead_done h = (ap (λ (k : ℕ). walked k r.bytes) (omega arith) ∙ ap (walked (r.sequences + 0)) (omega arith) ∙ h.numbers, h.bytes)

    module _ (a b : List (List ℕ)) (h : Ahead r₀ out₀ whole r out (a ++ b)) where
      pub ahead_first : Room r a
      ahead_first = record {
        sequences = omega (arith, h.room.sequences, length-append a b);
        bytes = omega (arith, h.room.bytes, ap length (bytes_append a b), length-append (bytes_of a) (bytes_of b));
      }

      pub ahead_next : (r' : Walked) (out' : List ℕ) → r' ≡ counted r a → out' ≡ sets out r.bytes (bytes_of a) → Ahead r₀ out₀ whole r' out' b
      unfolding counted
      ahead_next r' out' e o =
          subst (λ (x : Walked). Ahead r₀ out₀ whole x out' b) (sym e)
          (subst (λ (x : List ℕ). Ahead r₀ out₀ whole (counted r a) x b) (sym o) at_once)
        where
          at_once : Ahead r₀ out₀ whole (counted r a) (sets out r.bytes (bytes_of a)) b
          at_once = record {
            numbers = sym (counted_append r a b) ∙ h.numbers;
            bytes = sym (ap (sets out r.bytes) (bytes_append a b) ∙ sets_append out r.bytes (bytes_of a) (bytes_of b)) ∙ h.bytes;
            room = record {
              sequences = omega (arith, h.room.sequences, length-append a b);
              bytes = omega (arith, h.room.bytes, ap length (bytes_append a b), length-append (bytes_of a) (bytes_of b));
            };
          }
