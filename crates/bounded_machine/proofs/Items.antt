-- What contents rests on.
use Prim.Native.Nat.{ℕ, ◌+◌, ◌-◌, ◌<◌, ◌≤◌}
use mathlib.Core.Path.{◌≡◌, refl, sym, subst}
use mathlib.Core.Bool.{true}
use native.Mathlib.Omega.{arith}
use lib.Dec.{ltb}
use lib.ListN.{get_or}
use borrow.Author.Tests.{ltb-true}
use Rattle.queue_entries.proofs.Limits.{limit_most}
use Rattle.bounded_words.specs.declared.Stamp.{Stamp}
use Rattle.bounded_words.specs.declared.Fixed.{Fixed}
use Rattle.bounded_words.specs.Limits.{slots_most}
use Rattle.bounded_words.specs.Words.{index_of, unmarked_of, same, Indexed, Fair}
use Rattle.bounded_places.specs.Places.{inside}
use Rattle.bounded_acts.specs.Acts.{count_of, Within}
use mir.Val.{Fits}
use mir.Syntax.{w64}
use Rattle.bounded_machine.specs.declared.Ring.{Ring}
use Rattle.bounded_machine.specs.Machine.{slot, fixed_on, ends_on}
use Rattle.bounded_machine.specs.Broken.{ring_fits}
use Rattle.bounded_machine.specs.Contents.{wrapped, item_on, count_on, Counted}
use Rattle.bounded_machine.proofs.Laws.{fitting, ring_fair}
use Rattle.bounded_machine.proofs.Kept.{head_plain, tail_inside, either}

module _ (r : Ring) (h : ring_fits (fixed_on r) (ends_on r) ≡ true) where
  pub fair_at : Fair (fixed_on r)
  fair_at = ring_fair (fixed_on r) (ends_on r) h

  few_slots : r.capacity ≤ slots_most
  few_slots = limit_most r.capacity slots_most true (sym (fitting (fixed_on r) (ends_on r) h).capacity) refl

  pub within_at : Within (fixed_on r) r.tail r.head
  unfolding inside
  within_at =
      let o = fitting (fixed_on r) (ends_on r) h in
      record {
        fair = fair_at;
        low = (head_plain (fixed_on r) (ends_on r) o.ends).low;
        high = ltb-true _ _ (tail_inside (fixed_on r) (ends_on r) o.ends);
      }

-- no more than capacity
pub count_most : (f : Fixed) (t h : Stamp) → Within f t h → count_of f t h ≤ f.capacity
unfolding count_of
count_most f t h w =
    either (λ (n : ℕ). n ≤ f.capacity) (ltb (index_of f h) (index_of f t)) (index_of f t - index_of f h) _
    (λ b. omega (arith, w.high))
    (λ b. either (λ (n : ℕ). n ≤ f.capacity) (ltb (index_of f t) (index_of f h)) (f.capacity - index_of f h + index_of f t) _
    (λ d. omega (arith, w.low, ltb-true (index_of f t) (index_of f h) d))
    (λ d. either (λ (n : ℕ). n ≤ f.capacity) (same (unmarked_of f t) h) 0 f.capacity (λ g. omega arith) (λ g. omega arith)))

module _ (r : Ring) (h : ring_fits (fixed_on r) (ends_on r) ≡ true) where
  pub counted_at : (n : ℕ) → n ≡ count_of (fixed_on r) r.tail r.head → Counted r n
  unfolding count_on
  counted_at n e = record { is = e; most = subst (λ (k : ℕ). k ≤ r.capacity) (sym e) (count_most _ _ _ (within_at r h)) }

  -- an item of the list is one of the slots
  pub small_count : (n k : ℕ) → Counted r n → k < n → k < slots_most
  small_count n k c l = omega (arith, c.most, few_slots r h)

  module _ (i k : ℕ) (l : k < slots_most) (x : Indexed (fixed_on r) r.head i) where
    -- a place behind the head, wrapped once, is a slot
    pub wrapped_below : (at : ℕ) → at ≡ wrapped r.capacity (i + k) → at < slots_most
    unfolding wrapped
    wrapped_below at e =
        let b : i < r.capacity = omega (arith, (within_at r h).low, x.is) in
        let c : r.capacity ≤ slots_most = few_slots r h in
        subst (λ (n : ℕ). n < slots_most) (sym e)
        (either (λ (n : ℕ). n < slots_most) (ltb (i + k) r.capacity) (i + k) (i + k - r.capacity)
        (λ q. omega (arith, ltb-true (i + k) r.capacity q)) (λ q. omega arith))

    pub index_small : Fits w64 (i + k)
    index_small =
        let c : r.capacity ≤ slots_most = few_slots r h in
        record { fits = omega (arith, (within_at r h).low, x.is) }

pub item_is : (r : Ring) (i k at : ℕ) → Indexed (fixed_on r) r.head i → at ≡ wrapped r.capacity (i + k) → (get_or r.slots at (slot 0 0)).value ≡ item_on r k
unfolding item_on
item_is r i k at x e = rw (e, x.is)
