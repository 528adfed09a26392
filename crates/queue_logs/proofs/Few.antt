-- No more waits than elements of the story stand before.
use Prim.Native.Nat.{ℕ, zero, suc, ◌+◌, ◌≤◌}
use native.Mathlib.Omega.{arith}
use mathlib.Core.Bool.{Bool, true, false, cond}
use mathlib.Core.List.{List, [], ◌∷◌}
use lib.Dec.{eqb}
use lib.ListN.{length, take, drop, length-append}
use Rattle.queue_entries.specs.declared.Call.{Call}
use Rattle.queue_entries.specs.declared.Call.TheVariants.{Push, ForcePush, Pop, Len, IsEmpty, IsFull, Close, IsClosed}
use Rattle.queue_plain.specs.Story.{Begun, Does, Story, Change, Doing, Known, fresh, beginning, doing_with, items_of, known_with, known_from, known}

-- a call comes with one item at most
one_item : (c : Call) → length (items_of (c ∷ [])) ≤ 1
unfolding items_of
one_item (Push x) = omega arith
one_item (ForcePush x) = omega arith
one_item Pop = omega arith
one_item Len = omega arith
one_item IsEmpty = omega arith
one_item IsFull = omega arith
one_item Close = omega arith
one_item IsClosed = omega arith

one_out : (b : Bool) (l : List ℕ) → length (cond b (drop 1 l) l) ≤ length l
one_out true [] = omega arith
one_out true (x ∷ l) = omega arith
one_out false l = omega arith

one_in : (b : Bool) (l : List ℕ) → length l ≤ 1 → length (cond b l []) ≤ 1
one_in true l h = h
one_in false l h = omega arith

pub few_first : {A : Type 0} (n : ℕ) (l : List A) → length (take n l) ≤ length l
few_first zero l = omega arith
few_first (suc n) [] = omega arith
few_first (suc n) (x ∷ l) = omega (arith, few_first n l)

module _ {E : Type 0} (worker : E → ℕ) (change : E → Change) where
  abbrev Short : Known → Type 0
  Short k = (w : ℕ) → length (items_of (k.each w).calls) ≤ 1

  begun_short : (b : Bool) (c : Call) (n : ℕ) (d : Doing) → length (items_of d.calls) ≤ 1 → length (items_of (cond b (beginning c n) d).calls) ≤ 1
  begun_short true c n d h = one_item c
  begun_short false c n d h = h

  act_short : (b : Bool) (e : E) (k : Known) (d : Doing) → length (items_of d.calls) ≤ 1 → length (items_of (cond b (doing_with (change e) k.queue d) d).calls) ≤ 1
  act_short true e k d h = h
  act_short false e k d h = h

  few_from : (s : Story E) (k : Known) → Short k → length (known_from worker change k s).queue.items ≤ length k.queue.items + length s
  unfolding known_from
  few_from [] k h = omega arith
  few_from (Begun w c ∷ s) k h = omega (arith, few_from s (known_with worker change k (Begun w c)) (λ v. begun_short (eqb v w) c k.count (k.each v) (h v)))
  few_from (Does e ∷ s) k h =
      omega (
        arith,
        few_from s (known_with worker change k (Does e)) (λ v. act_short (eqb v (worker e)) e k (k.each v) (h v)),
        length-append (cond (change e).takes (drop 1 k.queue.items) k.queue.items) (cond (change e).puts (items_of (k.each (worker e)).calls) []),
        one_out (change e).takes k.queue.items,
        one_in (change e).puts (items_of (k.each (worker e)).calls) (h (worker e)),
      )

  pub few_items : (capacity : ℕ) (s : Story E) → length (known worker change capacity s).queue.items ≤ length s
  unfolding items_of
  few_items capacity s = omega (arith, few_from s (fresh capacity) (λ w. omega arith))
