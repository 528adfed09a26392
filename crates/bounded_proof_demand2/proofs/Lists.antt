-- Lists that grow at their end, as histories do.
use mathlib.Core.Path.{◌≡◌, refl, sym, ◌∙◌}
use mathlib.Core.Logic.{◌⊎◌, inl, inr}
use mathlib.Core.List.{List, [], ◌∷◌, ◌++◌, append-nil}
use Prim.Native.Nat.{ℕ, ◌+◌, ◌<◌}
use native.Mathlib.Omega.{arith}
use native.Mathlib.Decide.{dec_lt, ℕ_discrete}
use lib.ListN.{length, get_or, length-append, get_or-append}
use lib.Seq.{get_or-append_seam}
use Rattle.bounded_demands.specs.Notions.{LatestIn}
use Rattle.bounded_proof_invariant.proofs.Upd.{upd, upd_at, upd_else}
use Rattle.bounded_proof_invariant.proofs.Ring.{Latest}

-- Where a list with one more at its end was split: at that one, or before.
pub record Earlier {A : Type 0} (xs : List A) (y : A) (before : List A) (z : A) (behind : List A) : Type 0 where
  pub left : List A
  pub grown : behind ≡ left ++ y ∷ []
  pub was : xs ≡ before ++ z ∷ left

pub record Last {A : Type 0} (xs : List A) (y : A) (before : List A) (z : A) (behind : List A) : Type 0 where
  pub whole : before ≡ xs
  pub one : z ≡ y

pub split_end : {A : Type 0} (xs : List A) (y : A) (before : List A) (z : A) (behind : List A) → xs ++ y ∷ [] ≡ before ++ z ∷ behind
    → Last xs y before z behind ⊎ Earlier xs y before z behind
split_end [] y [] z behind e = inl (record { whole = refl; one = cc })
split_end [] y (b ∷ []) z behind e = absurd (let q : ◌≡◌ {A = ℕ} 0 1 = cc in omega arith)
split_end [] y (b ∷ d ∷ before) z behind e = absurd (let q : ◌≡◌ {A = ℕ} 0 1 = cc in omega arith)
split_end (x ∷ xs) y [] z behind e = inr (record { left = xs; grown = cc; was = cc })
split_end {A} (x ∷ xs) y (b ∷ before) z behind e = go (split_end xs y before z behind cc)
  where
    head_same : x ≡ b
    head_same = cc

    go : Last xs y before z behind ⊎ Earlier xs y before z behind → Last (x ∷ xs) y (b ∷ before) z behind ⊎ Earlier (x ∷ xs) y (b ∷ before) z behind
    go (inl l) = inl (record { whole = rw (l.whole, head_same); one = l.one })
    go (inr r) = inr (record { left = r.left; grown = r.grown; was = rw (head_same, r.was) })

-- a list of the first values of a function
pub record Listed (l : List ℕ) (count : ℕ) (f : ℕ → ℕ) : Type 0 where
  pub long : length l ≡ count
  pub at : (k : ℕ) → k < count → get_or l k 0 ≡ f k

pub listed_same : (l : List ℕ) (count : ℕ) (f : ℕ → ℕ) → Listed l count f → Listed (l ++ []) count f
listed_same l count f h = rw (append-nil l) h

pub listed_more : (l : List ℕ) (count : ℕ) (f : ℕ → ℕ) (x : ℕ) → Listed l count f → Listed (l ++ x ∷ []) (count + 1) (upd f count x)
listed_more l count f x h =
    record { long = length-append l (x ∷ []) ∙ omega (arith, h.long); at = λ k b. each k b (ℕ_discrete k count) }
  where
    each : (k : ℕ) → k < count + 1 → Dec (k ≡ count) → get_or (l ++ x ∷ []) k 0 ≡ upd f count x k
    each k b (yes e) = rw (upd_at f count k x e, e, ← h.long) (get_or-append_seam l x [] 0)
    each k b (no n) =
        let m : k < count = omega arith in
        let in_l : k < length l = omega (arith, h.long) in
        get_or-append l (x ∷ []) 0 k in_l ∙ h.at k m ∙ sym (upd_else f count k x n)

-- the latest claim, of a list and of the function
pub latest_in : (l : List ℕ) (count : ℕ) (f : ℕ → ℕ) (w k : ℕ) → Listed l count f → Latest f count w k → LatestIn l w k
latest_in l count f w k h o =
    record {
      made = omega (arith, h.long, o.0);
      its = h.at k o.0 ∙ o.1;
      last = λ n a b e. let m : n < count = omega (arith, h.long) in o.2 n a m (sym (h.at n m) ∙ e);
    }

-- a worker has one latest claim
pub latest_one : (l : List ℕ) (w j k : ℕ) → LatestIn l w j → LatestIn l w k → j ≡ k
latest_one l w j k a b = go (dec_lt j k) (dec_lt k j)
  where
    go : Dec (j < k) → Dec (k < j) → j ≡ k
    go (yes p) d = absurd (a.last k p b.made b.its)
    go (no p) (yes q) = absurd (b.last j q a.made a.its)
    go (no p) (no q) = omega arith
