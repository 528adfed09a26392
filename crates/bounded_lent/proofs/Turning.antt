-- What is broken of a lent ring and lent records, as the code finds it out, and what an entry may rest on where nothing is.
use Prim.Native.Nat.{ℕ, zero, suc, ◌+◌, ◌<◌, ◌≤◌}
use mathlib.Core.Path.{◌≡◌, refl, sym, ap, ◌∙◌}
use mathlib.Core.Bool.{Bool, true, false, cond, not, true≢false}
use mathlib.Core.List.{List}
use native.Mathlib.Omega.{arith}
use lib.Dec.{leb, eqb}
use lib.ListN.{length}
use borrow.Author.Tests.{lt-ltb, le-leb}
use Rattle.queue_entries.specs.Limits.{in_limits, all}
use Rattle.queue_entries.proofs.Limits.{limit_some}
use Rattle.queue_entries.proofs.Pick.{both_right}
use Rattle.bounded_words.specs.declared.Fixed.{Fixed}
use Rattle.bounded_words.specs.Limits.{slots_most}
use Rattle.bounded_words.specs.Words.{Fair}
use Rattle.bounded_places.specs.declared.Ends.{Ends}
use Rattle.bounded_places.specs.declared.Worker.{Worker}
use Rattle.bounded_machine.specs.Machine.{record_of_worker, fixed_on, ends_on}
use Rattle.bounded_machine.specs.Broken.{ring_fits, record_fits, records_fit, broken_with}
use Rattle.bounded_machine.proofs.Laws as machine
use Rattle.bounded_machine.proofs.Kept.{UnbrokenWith, unbroken_of, of_unbroken, ruled_in, fair_in}
use Rattle.bounded_orders.specs.Orders.{records_most, ring_fits_lent}
use Rattle.bounded_step_record.specs.Entries.{slot_of_ring}
use Rattle.bounded_step_record.proofs.Resting.{slot_below}
use Rattle.bounded_orders.specs.declared.Metered.{Metered}
use Rattle.bounded_lent.specs.Lent.{each_fits, broken_lent, held, lent, turn_lent, step_lent}

-- ---- broken, as the code finds it out
shape : (few none ring x : Bool) → cond few (cond ring (cond (cond none false true) (not x) true) true) true ≡ not (cond (cond (cond none false few) ring false) x false)
shape true true true x = refl
shape true true false x = refl
shape true false true x = refl
shape true false false x = refl
shape false true ring x = refl
shape false false ring x = refl

-- the same tests pass
pub all_same : (n i : ℕ) (test same : ℕ → Bool) → ((k : ℕ) → i ≤ k → k < i + n → test k ≡ same k) → all n i test ≡ all n i same
unfolding all
all_same zero i test same h = refl
all_same (suc n) i test same h =
    ap (λ (b : Bool). cond b (all n (i + 1) test) false) (h i (omega arith) (omega arith))
    ∙ ap (λ (b : Bool). cond (same i) b false) (all_same n (i + 1) test same (λ k l g. h k (omega arith) (omega arith)))

each_counted : (f : Fixed) (meter : ℕ) (ys : List Worker) → each_fits f meter true ys ≡ records_fit (length ys) f (length ys) meter ys
unfolding each_fits records_fit
each_counted f meter ys = all_same (length ys) 0 _ _ (λ k l g. ap (record_fits f meter (record_of_worker ys k)) (sym (lt-ltb k (length ys) (omega arith))))

module _ (l : Metered) (ys : List Worker) where
  abbrev Fit : Bool
  Fit = records_fit (length ys) (fixed_on l.ring) (length ys) l.meter ys

  abbrev Ring : Bool
  Ring = ring_fits (fixed_on l.ring) (ends_on l.ring)

  broken_is : broken_lent l ys ≡ not (cond (ring_fits_lent (fixed_on l.ring) (ends_on l.ring) (length ys)) Fit false)
  unfolding broken_lent broken_with ring_fits_lent in_limits
  broken_is =
      ap (λ (k : Bool). cond (leb (length ys) records_most) (cond Ring (cond (cond (eqb (length ys) 0) false k) (not Fit) true) true) true) (le-leb (length ys) (length ys) (omega arith))
      ∙ shape (leb (length ys) records_most) (eqb (length ys) 0) Ring Fit

  pub ring_broken : ring_fits_lent (fixed_on l.ring) (ends_on l.ring) (length ys) ≡ false → true ≡ broken_lent l ys
  ring_broken h = ap (λ (b : Bool). not (cond b Fit false)) (sym h) ∙ sym broken_is

  pub records_broken : ring_fits_lent (fixed_on l.ring) (ends_on l.ring) (length ys) ≡ true → (r : Bool) → r ≡ each_fits (fixed_on l.ring) l.meter true ys → not r ≡ broken_lent l ys
  records_broken h r e = ap not (e ∙ each_counted (fixed_on l.ring) l.meter ys) ∙ ap (λ (b : Bool). not (cond b Fit false)) (sym h) ∙ sym broken_is

pub ring_fair : (f : Fixed) (e : Ends) (n : ℕ) → ring_fits_lent f e n ≡ true → Fair f
unfolding ring_fits_lent
ring_fair f e n h = machine.ring_fair f e (both_right (in_limits n records_most) _ h)

-- ---- what is not broken
then_so : (t b : Bool) → cond t b true ≡ false → (t ≡ true) × (b ≡ false)
then_so true b h = (refl, h)
then_so false b h = absurd (true≢false h)

module _ (l : Metered) (ys : List Worker) (h : broken_lent l ys ≡ false) where
  pub unbroken_lent : UnbrokenWith (length ys) (held l ys)
  unfolding broken_lent
  unbroken_lent = unbroken_of (held l ys) (then_so (leb (length ys) records_most) _ h).1

  pub few_lent : leb (length ys) records_most ≡ true
  unfolding broken_lent
  few_lent = (then_so (leb (length ys) records_most) _ h).0

pub lent_unbroken : (l : Metered) (ys : List Worker) → leb (length ys) records_most ≡ true → UnbrokenWith (length ys) (held l ys) → broken_lent l ys ≡ false
unfolding broken_lent
lent_unbroken l ys few u = ap (λ (t : Bool). cond t (broken_with (length ys) (held l ys)) true) few ∙ of_unbroken (held l ys) u

module _ (l : Metered) (ys : List Worker) (u : UnbrokenWith (length ys) (held l ys)) where
  pub some_record : 0 < length ys
  some_record = limit_some (length ys) (length ys) true (sym u.count) refl

  pub fair_lent : Fair (fixed_on l.ring)
  fair_lent = fair_in (held l ys) u

  pub record_fits_lem : (i : ℕ) → i < length ys → record_fits (fixed_on l.ring) l.meter (record_of_worker ys i) true ≡ true
  record_fits_lem i g = ap (record_fits (fixed_on l.ring) l.meter (record_of_worker ys i)) (sym (lt-ltb i (length ys) g)) ∙ u.fits i g

  pub spot_below : (i : ℕ) → i < length ys → slot_of_ring (fixed_on l.ring) (record_of_worker ys i) < slots_most
  spot_below i g = slot_below (fixed_on l.ring) (ruled_in (held l ys) u) l.meter (record_of_worker ys i) (record_fits_lem i g)

-- ---- 6 first
module _ (l : Metered) (ys : List Worker) (first second : ℕ) where
  pub step_refused : broken_lent l ys ≡ true → lent 6 l ys ≡ step_lent l ys first second
  unfolding step_lent
  step_refused h = ap (λ (b : Bool). cond b (lent 6 l ys) (turn_lent l ys first second)) (sym h)

  pub step_turned : broken_lent l ys ≡ false → turn_lent l ys first second ≡ step_lent l ys first second
  unfolding step_lent
  step_turned h = ap (λ (b : Bool). cond b (lent 6 l ys) (turn_lent l ys first second)) (sym h)
