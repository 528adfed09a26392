-- What contents answers and leaves, by the way that the code took.
use Prim.Native.Nat.{ℕ, zero, suc, ◌+◌, ◌<◌, ◌≤◌}
use mathlib.Core.Path.{◌≡◌, refl, sym, ap, ◌∙◌}
use mathlib.Core.Bool.{Bool, true, false, not}
use mathlib.Core.List.{List, [], ◌∷◌, ◌++◌, append_assoc}
use native.Mathlib.Omega.{arith}
use native.Mathlib.Numerals.{add-one}
use lib.ListN.{get_or, set, length, drop}
use borrow.Author.Tests.{ne_eqb, not-false}
use lib.Seq.{drop-cons, set_at}
use Rattle.queue_entries.proofs.Pick.{on, off, below, above}
use Rattle.std.specs.Prelude.{Result, Ok, Err}
use Rattle.queue_entries.specs.Told.{told}
use Rattle.bounded_words.specs.declared.Fixed.{Fixed}
use Rattle.bounded_places.specs.declared.Ends.{Ends}
use Rattle.bounded_machine.specs.Machine.{fixed_on, ends_on}
use Rattle.bounded_machine.specs.declared.Ring.{Ring}
use Rattle.bounded_machine.specs.Broken.{ring_fits}
use Rattle.bounded_machine.specs.Contents.{count_on, item_on, items_on, list_on, contents_refusal_by, Counted}
use Rattle.bounded_orders.specs.Orders.{filled, contents_by, contents_on}

-- ---- the answer and the buffer, of a refusal and of the list
module _ (broken idle : Bool) (r : Ring) (buffer : List ℕ) where
  abbrev number : ℕ
  number = contents_refusal_by broken idle (count_on r) (length buffer)

  turned : (n : ℕ) → 0 < n → n ≡ number → filled (Err n) buffer ≡ contents_by broken idle r buffer
  unfolding told contents_by
  turned n pos e = rw (← e, ne_eqb n 0 (λ z. omega arith)) refl

  pub turned_6 : broken ≡ true → filled (Err 6) buffer ≡ contents_by broken idle r buffer
  turned_6 h = turned 6 (omega arith) (on broken _ _ _ h refl)

  module _ (hb : broken ≡ false) where
    pub turned_4 : idle ≡ false → filled (Err 4) buffer ≡ contents_by broken idle r buffer
    turned_4 h = turned 4 (omega arith) (off broken _ _ _ hb (off idle _ _ _ h refl))

    module _ (hd : idle ≡ true) (n : ℕ) (c : Counted r n) where
      pub turned_10 : length buffer < n → filled (Err 10) buffer ≡ contents_by broken idle r buffer
      turned_10 h = turned 10 (omega arith) (off broken _ _ _ hb (on idle _ _ _ hd (below (length buffer) (count_on r) _ _ _ (omega (arith, c.is)) refl)))

      pub listed : (after : List ℕ) (k : ℕ) → n ≤ length buffer → k ≡ n → after ≡ items_on r k 0 ++ drop k buffer → filled (Ok n) after ≡ contents_by broken idle r buffer
      unfolding told contents_by list_on
      listed after k h q e =
          let z : 0 ≡ number = off broken _ _ _ hb (on idle _ _ _ hd (above (length buffer) (count_on r) _ _ _ (omega (arith, c.is)) refl)) in
          let i : k ≡ count_on r = q ∙ c.is in
          rw (← z) (ap (λ (x : ℕ). filled (Ok x) after) c.is ∙ ap (filled (Ok (count_on r))) (e ∙ ap (λ (x : ℕ). items_on r x 0 ++ drop x buffer) i))

-- ---- one item more
items_length : (r : Ring) (k j : ℕ) → length (items_on r k j) ≡ k
unfolding items_on
items_length r zero j = refl
items_length r (suc k) j = ap suc (items_length r k (j + 1))

items_more : (r : Ring) (k j : ℕ) → items_on r (suc k) j ≡ items_on r k j ++ item_on r (j + k) ∷ []
unfolding items_on
items_more r zero j = let e : j ≡ j + 0 = omega arith in ap (λ (i : ℕ). item_on r i ∷ []) e
items_more r (suc k) j =
    let e : j + 1 + k ≡ j + suc k = omega arith in
    ap (λ (l : List ℕ). item_on r j ∷ l) (items_more r k (j + 1) ∙ ap (λ (i : ℕ). items_on r k (j + 1) ++ item_on r i ∷ []) e)

pub filled_none : (r : Ring) (b : List ℕ) → b ≡ items_on r 0 0 ++ drop 0 b
unfolding items_on
filled_none r b = refl

pub filled_more : (r : Ring) (b after : List ℕ) (k v : ℕ) → k < length b → after ≡ items_on r k 0 ++ drop k b → v ≡ item_on r k
    → set after k v ≡ items_on r (k + 1) 0 ++ drop (k + 1) b
filled_more r b after k v h e q =
    let z : 0 + k ≡ k = omega arith in
    ap (λ (l : List ℕ). set l k v) (e ∙ ap (λ (l : List ℕ). items_on r k 0 ++ l) (drop-cons b k 0 h))
    ∙ set_at (items_on r k 0) (get_or b k 0) (drop (suc k) b) v k (items_length r k 0)
    ∙ ap (λ (x : ℕ). items_on r k 0 ++ x ∷ drop (suc k) b) (q ∙ ap (item_on r) (sym z))
    ∙ sym (append_assoc (items_on r k 0) (item_on r (0 + k) ∷ []) (drop (suc k) b))
    ∙ ap (λ (l : List ℕ). l ++ drop (suc k) b) (sym (items_more r k 0))
    ∙ ap (λ (i : ℕ). items_on r i 0 ++ drop i b) (sym (add-one k))

-- ---- a ring that is not broken fits
pub sound_by : (broken : Bool) (r : Ring) → (broken ≡ false → ring_fits (fixed_on r) (ends_on r) ≡ true) → broken ≡ false → ring_fits (fixed_on r) (ends_on r) ≡ true
sound_by broken r f h = f h

-- ---- of a ring by itself
pub sound_of : (f : Fixed) (e : Ends) (fits : Bool) → fits ≡ ring_fits f e → not fits ≡ false → ring_fits f e ≡ true
sound_of f e fits k h = sym k ∙ not-false fits h

pub judged_here : (idle : Bool) (r : Ring) (before after : List ℕ) (t : Result ℕ ℕ) (fits : Bool) → fits ≡ ring_fits (fixed_on r) (ends_on r)
    → filled t after ≡ contents_by (not fits) idle r before → filled t after ≡ contents_on idle r before
unfolding contents_on
judged_here idle r before after t fits e h = h ∙ ap (λ (b : Bool). contents_by (not b) idle r before) e
