-- An unbroken machine after an entry: which records can have come not to fit, and how many are busy; by any table of acts.
use Prim.Native.Nat.{ℕ, zero, suc, ◌+◌, ◌<◌, ◌≤◌}
use mathlib.Core.Path.{◌≡◌, refl, sym, ap, ◌∙◌, subst}
use mathlib.Core.Logic.{◌≢◌}
use mathlib.Core.Bool.{Bool, true, false, cond, not, true≢false}
use mathlib.Core.List.{List, [], ◌∷◌}
use native.Mathlib.Omega.{arith}
use native.Mathlib.Decide.{ℕ_discrete, dec_lt}
use lib.Dec.{ltb, eqb}
use lib.ListN.{length, get_or, set}
use borrow.Author.Tests.{lt-ltb, ne_eqb}
use Rattle.queue_entries.specs.Limits.{workers_most, all}
use Rattle.unbounded_words.specs.Words.{sizes}
use Rattle.unbounded_places.specs.declared.Block.{Block}
use Rattle.unbounded_places.specs.declared.Ends.{Ends}
use Rattle.unbounded_places.specs.declared.Place.{Place}
use Rattle.unbounded_places.specs.declared.Worker.{Worker}
use Rattle.unbounded_places.specs.declared.Uses.{Uses}
use Rattle.unbounded_places.specs.declared.Uses.TheVariants as uses
use Rattle.unbounded_places.specs.Places.{view_of}
use Rattle.unbounded_acts.specs.Acts.{new_block}
use Rattle.unbounded_machine.specs.declared.Machine.{Machine}
use Rattle.unbounded_machine.specs.Machine.{live, block_at, place_of, idler}
use Rattle.unbounded_machine.specs.Broken.{uses_fit, record_fits, records_fit, all_idle, drop_fits, broken_in, broken_of}
use Rattle.unbounded_judged.specs.Judged.{frees_it, busy_from, busy_in}
use Rattle.unbounded_machine.proofs.Fits.{every, all_of, unbroken_records, unbroken_limits}

get_same : {A : Type 0} (l : List A) (k : ℕ) (x d : A) → k < length l → get_or (set l k x) k d ≡ x
get_same [] k x d h = absurd (omega arith)
get_same (y ∷ l) zero x d h = refl
get_same (y ∷ l) (suc k) x d h = get_same l k x d (omega arith)

pub get_other : {A : Type 0} (l : List A) (k i : ℕ) (x d : A) → i ≢ k → get_or (set l k x) i d ≡ get_or l i d
get_other [] k i x d n = refl
get_other (y ∷ l) zero zero x d n = absurd (n refl)
get_other (y ∷ l) zero (suc i) x d n = refl
get_other (y ∷ l) (suc k) zero x d n = refl
get_other (y ∷ l) (suc k) (suc i) x d n = get_other l k i x d (λ e. n (ap suc e))

pub frees_none : (b : Block) → frees_it b b ≡ false
unfolding frees_it
frees_none b = by b.free
  where
    by : (f : Bool) → cond f (not f) false ≡ false
    by true = refl
    by false = refl

-- ---- what was not free is not, unless it was made free
not_free : (l : List Block) (k j : ℕ) (g : Block) → frees_it (block_at l k) g ≡ false → (block_at l j).free ≡ false → (block_at (set l k g) j).free ≡ false
unfolding frees_it
not_free l k j g f h = go (ℕ_discrete j k)
  where
    kept : (a b : Bool) → cond a (not b) false ≡ false → b ≡ false → a ≡ false
    kept true true e i = absurd (true≢false i)
    kept true false e i = absurd (true≢false e)
    kept false b e i = refl

    within : (l : List Block) (k : ℕ) → (g.free ≡ false) → (block_at l k).free ≡ false → (block_at (set l k g) k).free ≡ false
    within [] k e i = i
    within (y ∷ l) zero e i = e
    within (y ∷ l) (suc k) e i = within l k e i

    go : Dec (j ≡ k) → (block_at (set l k g) j).free ≡ false
    go (yes e) =
        let i : (block_at l k).free ≡ false = subst (λ (x : ℕ). (block_at l x).free ≡ false) e h in
        subst (λ (x : ℕ). (block_at (set l k g) x).free ≡ false) (sym e) (within l k (kept g.free (block_at l k).free f i) i)
    go (no n) = ap (λ (x : Block). x.free) (get_other l k j g new_block n) ∙ h

live_kept : (l : List Block) (k j : ℕ) (g : Block) → frees_it (block_at l k) g ≡ false → live sizes l j ≡ true → live sizes (set l k g) j ≡ true
unfolding live
live_kept l k j g f = on (ltb j 64)
  where
    back : (a : Bool) → not a ≡ true → a ≡ false
    back true e = absurd (true≢false (sym e))
    back false e = refl

    on : (b : Bool) → cond b (not (block_at l j).free) false ≡ true → cond b (not (block_at (set l k g) j).free) false ≡ true
    on true h = ap not (not_free l k j g f (back (block_at l j).free h))
    on false h = h

uses_kept : (l : List Block) (k : ℕ) (g : Block) (u : Uses) → frees_it (block_at l k) g ≡ false → uses_fit sizes l u ≡ true → uses_fit sizes (set l k g) u ≡ true
uses_kept l k g uses.Nothing f h = h
uses_kept l k g (uses.Block j) f h = live_kept l k j g f h
uses_kept l k g (uses.Slot j i) f h = on (ltb i 31) h
  where
    on : (b : Bool) → cond b (live sizes l j) false ≡ true → cond b (live sizes (set l k g) j) false ≡ true
    on true e = live_kept l k j g f e
    on false e = e

record_kept : (l : List Block) (k : ℕ) (g : Block) (p : Place) (counted : Bool) → frees_it (block_at l k) g ≡ false → record_fits sizes l p counted ≡ true → record_fits sizes (set l k g) p counted ≡ true
unfolding record_fits
record_kept l k g p counted f h = on (view_of sizes p).busy counted h
  where
    on : (b c : Bool) → cond b (cond c (uses_fit sizes l (view_of sizes p).uses) false) true ≡ true → cond b (cond c (uses_fit sizes (set l k g) (view_of sizes p).uses) false) true ≡ true
    on true true e = uses_kept l k g (view_of sizes p).uses f e
    on true false e = e
    on false c e = refl

-- ---- the records after an entry of worker w
module _ (m : Machine) (u : broken_of sizes m ≡ false) (w : ℕ) (low : w < m.count) (few : m.count ≤ workers_most) (whole : length m.workers ≡ workers_most) (q : Place) where
  abbrev after : List Worker
  after = set m.workers w (record { place = q })

  own : place_of after w ≡ q
  own = ap (λ (r : Worker). r.place) (get_same m.workers w (record { place = q }) idler (omega arith))

  other : (v : ℕ) → v ≢ w → place_of after v ≡ place_of m.workers v
  other v n = ap (λ (r : Worker). r.place) (get_other m.workers w v (record { place = q }) idler n)

  fits_own : (l : List Block) → records_fit sizes l m.count after ≡ true → record_fits sizes l q true ≡ true
  unfolding records_fit
  fits_own l h =
      let e = every workers_most 0 (λ (i : ℕ). record_fits sizes l (place_of after i) (ltb i m.count)) h w (omega arith) (omega arith) in
      subst (λ (b : Bool). record_fits sizes l q b ≡ true) (lt-ltb w m.count low) (subst (λ (p : Place). record_fits sizes l p (ltb w m.count) ≡ true) own e)

  fits_all : (l : List Block) → record_fits sizes l q true ≡ true
      → ((v : ℕ) → v < workers_most → v ≢ w → record_fits sizes l (place_of m.workers v) (ltb v m.count) ≡ true) → records_fit sizes l m.count after ≡ true
  unfolding records_fit
  fits_all l h o = all_of workers_most 0 (λ (i : ℕ). record_fits sizes l (place_of after i) (ltb i m.count)) (λ v a b. go v (omega arith) (ℕ_discrete v w))
    where
      go : (v : ℕ) → v < workers_most → Dec (v ≡ w) → record_fits sizes l (place_of after v) (ltb v m.count) ≡ true
      go v a (yes e) =
          subst (λ (x : ℕ). record_fits sizes l (place_of after x) (ltb x m.count) ≡ true) (sym e)
          (subst (λ (p : Place). record_fits sizes l p (ltb w m.count) ≡ true) (sym own) (subst (λ (b : Bool). record_fits sizes l q b ≡ true) (sym (lt-ltb w m.count low)) h))
      go v a (no n) = subst (λ (p : Place). record_fits sizes l p (ltb v m.count) ≡ true) (sym (other v n)) (o v a n)

  -- with this header of block k
  module _ (k : ℕ) (g : Block) where
    abbrev headers : List Block
    headers = set m.blocks k g

    fits_told : records_fit sizes headers m.count after ≡ cond (record_fits sizes headers q true) (cond (frees_it (block_at m.blocks k) g) (records_fit sizes headers m.count after) true) false
    fits_told = go (record_fits sizes headers q true) (frees_it (block_at m.blocks k) g) refl refl
      where
        untrue : (b : Bool) → (b ≡ true → ⊥) → b ≡ false
        untrue true n = absurd (n refl)
        untrue false n = refl

        go : (a f : Bool) → record_fits sizes headers q true ≡ a → frees_it (block_at m.blocks k) g ≡ f
            → records_fit sizes headers m.count after ≡ cond a (cond f (records_fit sizes headers m.count after) true) false
        go true true x y = refl
        go true false x y = fits_all headers x (λ v a n. record_kept m.blocks k g (place_of m.workers v) (ltb v m.count) y (unbroken_records m u v a))
        go false f x y = untrue _ (λ h. true≢false (sym (fits_own headers h) ∙ x))

    -- with no block made free the acting worker's record alone can have come not to fit
    pub fits_kept : frees_it (block_at m.blocks k) g ≡ false → record_fits sizes headers q true ≡ records_fit sizes headers m.count after
    fits_kept f = sym (fits_told ∙ shape (record_fits sizes headers q true) _ f)
      where
        shape : (a f : Bool) → f ≡ false → cond a (cond f (records_fit sizes headers m.count after) true) false ≡ a
        shape true true z = absurd (true≢false z)
        shape true false z = refl
        shape false f z = refl

    pub broken_after : (e : Ends) → broken_in sizes e headers after m.count ≡ not (cond (records_fit sizes headers m.count after) (drop_fits sizes e headers after) false)
    unfolding broken_in
    broken_after e = (simp (unbroken_limits m u)) ∙ shape (records_fit sizes headers m.count after) (drop_fits sizes e headers after)
      where
        shape : (r d : Bool) → cond r (not d) true ≡ not (cond r d false)
        shape true d = refl
        shape false d = refl

-- ---- nobody is busy where none is counted
pub idle_told : (ws : List Worker) → all_idle sizes ws ≡ eqb (busy_in sizes ws) 0
unfolding all_idle busy_in busy_from all
idle_told ws = go workers_most 0
  where
    go : (n i : ℕ) → all n i (λ (k : ℕ). not (view_of sizes (place_of ws k)).busy) ≡ eqb (busy_from sizes n i ws) 0
    go zero i = refl
    go (suc n) i = by (view_of sizes (place_of ws i)).busy (go n (i + 1))
      where
        by : (b : Bool) → all n (i + 1) (λ (k : ℕ). not (view_of sizes (place_of ws k)).busy) ≡ eqb (busy_from sizes n (i + 1) ws) 0
            → cond (not b) (all n (i + 1) (λ (k : ℕ). not (view_of sizes (place_of ws k)).busy)) false ≡ eqb (cond b (1 + busy_from sizes n (i + 1) ws) (busy_from sizes n (i + 1) ws)) 0
        by true r = sym (ne_eqb (1 + busy_from sizes n (i + 1) ws) 0 (λ z. omega arith))
        by false r = r

-- ---- the count after a record is stored
abbrev tick : Bool → ℕ
tick true = 1
tick false = 0

plus_none : (n : ℕ) → n ≡ 0 + n
plus_none n = omega arith

below : (i w : ℕ) → i ≤ w → i ≢ w → i < w
below i w a d = go (dec_lt i w)
  where
    go : Dec (i < w) → i < w
    go (yes l) = l
    go (no l) = absurd (d (omega arith))

module _ (ws : List Worker) (w : ℕ) (r : Worker) (low : w < length ws) where
  abbrev ticks : List Worker → ℕ → ℕ
  ticks l i = tick (view_of sizes (place_of l i)).busy

  step : (l : List Worker) (n i : ℕ) → busy_from sizes (suc n) i l ≡ ticks l i + busy_from sizes n (i + 1) l
  unfolding busy_from
  step l n i = by (view_of sizes (place_of l i)).busy
    where
      by : (b : Bool) → cond b (1 + busy_from sizes n (i + 1) l) (busy_from sizes n (i + 1) l) ≡ tick b + busy_from sizes n (i + 1) l
      by true = refl
      by false = plus_none (busy_from sizes n (i + 1) l)

  past : (n i : ℕ) → w < i → busy_from sizes n i (set ws w r) ≡ busy_from sizes n i ws
  unfolding busy_from
  past zero i h = refl
  past (suc n) i h =
      step (set ws w r) n i ∙ ap (λ (x : Worker). tick (view_of sizes x.place).busy + busy_from sizes n (i + 1) (set ws w r)) (get_other ws w i r idler (λ e. omega arith))
      ∙ ap (λ (k : ℕ). ticks ws i + k) (past n (i + 1) (omega arith)) ∙ sym (step ws n i)

  counts : (n i : ℕ) → i ≤ w → w < i + n → busy_from sizes n i (set ws w r) + ticks ws w ≡ busy_from sizes n i ws + tick (view_of sizes r.place).busy
  counts zero i a b = absurd (omega arith)
  counts (suc n) i a b = go (λ (d : i < w). counts n (i + 1) (omega arith) (omega arith)) (ℕ_discrete i w)
    where
      go : (i < w → busy_from sizes n (i + 1) (set ws w r) + ticks ws w ≡ busy_from sizes n (i + 1) ws + tick (view_of sizes r.place).busy) → Dec (i ≡ w)
          → busy_from sizes (suc n) i (set ws w r) + ticks ws w ≡ busy_from sizes (suc n) i ws + tick (view_of sizes r.place).busy
      go later (yes e) =
          let p = past n (i + 1) (omega arith) in
          let own : ticks (set ws w r) i ≡ tick (view_of sizes r.place).busy = subst (λ (x : ℕ). ticks (set ws w r) x ≡ tick (view_of sizes r.place).busy)
          (sym e) (ap (λ (x : Worker). tick (view_of sizes x.place).busy) (get_same ws w r idler low)) in
          let old : ticks ws i ≡ ticks ws w = ap (ticks ws) e in
          omega (arith, step (set ws w r) n i, step ws n i, p, own, old)
      go later (no d) =
          let lt : i < w = below i w a d in
          let p = later lt in
          let same : ticks (set ws w r) i ≡ ticks ws i = ap (λ (x : Worker). tick (view_of sizes x.place).busy) (get_other ws w i r idler d) in
          omega (arith, step (set ws w r) n i, step ws n i, p, same)

-- A worker's record as it was and as it is: one begins, goes on, or comes to its end.
module _ (ws : List Worker) (w : ℕ) (r : Worker) (low : w < workers_most) (whole : length ws ≡ workers_most) where
  told : (a b : Bool) → (view_of sizes (place_of ws w)).busy ≡ a → (view_of sizes r.place).busy ≡ b → busy_in sizes (set ws w r) + tick a ≡ busy_in sizes ws + tick b
  unfolding busy_in
  told a b p q =
      subst (λ (x : Bool). busy_from sizes workers_most 0 (set ws w r) + tick x ≡ busy_from sizes workers_most 0 ws + tick b) p
      (subst (λ (x : Bool). busy_from sizes workers_most 0 (set ws w r) + tick (view_of sizes (place_of ws w)).busy ≡ busy_from sizes workers_most 0 ws + tick x) q
      (counts ws w r (omega arith) workers_most 0 (omega arith) (omega arith)))

  pub one_begins : (view_of sizes (place_of ws w)).busy ≡ false → (view_of sizes r.place).busy ≡ true → busy_in sizes (set ws w r) ≡ busy_in sizes ws + 1
  one_begins p q = let t : busy_in sizes (set ws w r) + 0 ≡ busy_in sizes ws + 1 = told false true p q in omega (arith, t)

  pub one_goes_on : (view_of sizes (place_of ws w)).busy ≡ true → (view_of sizes r.place).busy ≡ true → busy_in sizes (set ws w r) ≡ busy_in sizes ws
  one_goes_on p q = let t : busy_in sizes (set ws w r) + 1 ≡ busy_in sizes ws + 1 = told true true p q in omega (arith, t)

  pub one_ends : (view_of sizes (place_of ws w)).busy ≡ true → (view_of sizes r.place).busy ≡ false → busy_in sizes (set ws w r) + 1 ≡ busy_in sizes ws
  one_ends p q = let t : busy_in sizes (set ws w r) + 1 ≡ busy_in sizes ws + 0 = told true false p q in omega (arith, t)

pub busy_most : (ws : List Worker) → busy_in sizes ws ≤ workers_most
unfolding busy_in busy_from
busy_most ws = go workers_most 0
  where
    go : (n i : ℕ) → busy_from sizes n i ws ≤ n
    go zero i = omega arith
    go (suc n) i = by (view_of sizes (place_of ws i)).busy (go n (i + 1))
      where
        by : (b : Bool) → busy_from sizes n (i + 1) ws ≤ n → cond b (1 + busy_from sizes n (i + 1) ws) (busy_from sizes n (i + 1) ws) ≤ suc n
        by true r = omega arith
        by false r = omega arith
