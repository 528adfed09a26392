-- "Contents" of document 01, as `Drop` walks, and `capacity`.
use Rattle.std.specs.Prelude.{ℕ, zero, suc, ◌+◌, ◌≤◌, ◌-◌, Bool, cond, List, [], ◌∷◌, ◌++◌, ◌≡◌, ltb, eqb, get_or, length, drop, Result}
use Rattle.queue_entries.specs.Told.{told}
use Rattle.bounded_words.specs.Words.{index_of}
use Rattle.bounded_acts.specs.Acts.{count_of}
use Rattle.bounded_machine.specs.declared.Ring.{Ring}
use Rattle.bounded_machine.specs.declared.Machine.{Machine}
use Rattle.bounded_machine.specs.Machine.{slot, fixed_on}
use Rattle.bounded_machine.specs.Broken.{broken_of, all_idle}

-- `len`'s count of items: the ring's, and so the machine's
unfoldable pub count_on : Ring → ℕ
count_on r = count_of (fixed_on r) r.tail r.head

abbrev pub count_in : Machine → ℕ
count_in m = count_on m.ring

-- wrapping at capacity
unfoldable pub wrapped : ℕ → ℕ → ℕ
wrapped capacity i = cond (ltb i capacity) i (i - capacity)

-- the k-th item from index(head)
unfoldable pub item_on : Ring → ℕ → ℕ
item_on r k = (get_or r.slots (wrapped r.capacity (index_of (fixed_on r) r.head + k)) (slot 0 0)).value

abbrev pub item_at : Machine → ℕ → ℕ
item_at m = item_on m.ring

-- so many items, the k-th of them first
unfoldable pub items_on : Ring → ℕ → ℕ → List ℕ
items_on r zero k = []
items_on r (suc more) k = item_on r k ∷ items_on r more (k + 1)

abbrev pub items_from : Machine → ℕ → ℕ → List ℕ
items_from m = items_on m.ring

-- from index(head), `len`'s count of items
unfoldable pub list_on : Ring → List ℕ
list_on r = items_on r (count_on r) 0

abbrev pub contents_of : Machine → List ℕ
contents_of m = list_on m.ring

-- Order: contents 6, 4, 10 (4: while any is busy; 10: buffer shorter than the list), of so many items; 0 where it is not refused.
abbrev pub contents_refusal_by : Bool → Bool → ℕ → ℕ → ℕ
contents_refusal_by broken idle count room = cond broken 6 (cond idle (cond (ltb room count) 10 0) 4)

unfoldable pub contents_refusal : Machine → ℕ → ℕ
contents_refusal m = contents_refusal_by (broken_of m) (all_idle m.workers) (count_in m)

-- written at the buffer's start, unless it is refused; the rest untouched
abbrev pub written_by : ℕ → Ring → List ℕ → List ℕ
written_by number r buffer = cond (eqb number 0) (list_on r ++ drop (count_on r) buffer) buffer

unfoldable pub written : Machine → List ℕ → List ℕ
written m buffer = written_by (contents_refusal m (length buffer)) m.ring buffer

-- `capacity`: 6, else the machine's capacity at any time
unfoldable pub capacity_refusal : Machine → ℕ
capacity_refusal m = cond (broken_of m) 6 0

unfoldable pub capacity_of : Machine → Result ℕ ℕ
capacity_of m = told (capacity_refusal m) m.ring.capacity

-- the count of an unbroken ring, and its bound
pub record Counted (r : Ring) (n : ℕ) : Type 0 where
  pub is : n ≡ count_on r
  pub most : n ≤ r.capacity
