-- What an unbroken machine's tests say, as facts.
use Prim.Native.Nat.{ℕ, zero, suc, ◌+◌, ◌<◌, ◌≤◌}
use mathlib.Core.Path.{◌≡◌, refl, sym, ap, ◌∙◌, subst}
use mathlib.Core.Bool.{Bool, true, false, cond, not, true≢false}
use mathlib.Core.List.{List}
use native.Mathlib.Omega.{arith}
use native.Mathlib.Decide.{dec_lt}
use lib.Dec.{ltb}
use borrow.Author.Tests.{ltb-true, not-false}
use Rattle.queue_entries.specs.Limits.{workers_most, all, in_limits}
use Rattle.queue_entries.proofs.Pick.{both_left, both_right}
use Rattle.queue_entries.proofs.Limits.{limit_most}
use Rattle.unbounded_words.specs.Words.{sizes}
use Rattle.unbounded_places.specs.declared.Block.{Block}
use Rattle.unbounded_places.specs.declared.Place.{Place}
use Rattle.unbounded_places.specs.Places.{view_of}
use Rattle.unbounded_machine.specs.declared.Machine.{Machine}
use Rattle.unbounded_machine.specs.Machine.{live, block_at, place_of}
use Rattle.unbounded_machine.specs.Drop.{walk_of}
use Rattle.unbounded_machine.specs.Broken.{uses_fit, record_fits, records_fit, all_idle, drop_fits, broken_in, broken_of}

pub either : {A : Type 0} (P : A → Type 0) (b : Bool) (x y : A) → (b ≡ true → P x) → (b ≡ false → P y) → P (cond b x y)
either P true x y p q = p refl
either P false x y p q = q refl

pub both : (a b : Bool) → a ≡ true → b ≡ true → cond a b false ≡ true
both a b p q = either (λ (x : Bool). x ≡ true) a b false (λ h. q) (λ h. absurd (true≢false (sym p ∙ h)))

-- every test of a range
pub every : (n i : ℕ) (test : ℕ → Bool) → all n i test ≡ true → (k : ℕ) → i ≤ k → k < i + n → test k ≡ true
unfolding all
every zero i test h k l g = absurd (omega arith)
every (suc n) i test h k l g =
    go (λ (m : i < k). every n (i + 1) test (both_right (test i) (all n (i + 1) test) h) k (omega arith) (omega arith)) (dec_lt i k)
  where
    go : (i < k → test k ≡ true) → Dec (i < k) → test k ≡ true
    go later (yes m) = later m
    go later (no m) = let e : i ≡ k = omega arith in subst (λ (j : ℕ). test j ≡ true) e (both_left (test i) (all n (i + 1) test) h)

pub all_of : (n i : ℕ) (test : ℕ → Bool) → ((k : ℕ) → i ≤ k → k < i + n → test k ≡ true) → all n i test ≡ true
unfolding all
all_of zero i test h = refl
all_of (suc n) i test h =
    both (test i) (all n (i + 1) test) (h i (omega arith) (omega arith)) (all_of n (i + 1) test (λ k l g. h k (omega arith) (omega arith)))

-- each test of a row of them that must pass
passes : (a b : Bool) → cond a b true ≡ false → (a ≡ true) × (b ≡ false)
passes true b h = (refl, h)
passes false b h = absurd (true≢false h)

pass : (a b : Bool) → a ≡ true → b ≡ false → cond a b true ≡ false
pass a b p q = either (λ (x : Bool). x ≡ false) a b true (λ h. q) (λ h. absurd (true≢false (sym p ∙ h)))

module _ (m : Machine) (u : broken_of sizes m ≡ false) where
  tests : (in_limits m.count workers_most ≡ true) × (records_fit sizes m.blocks m.count m.workers ≡ true) × (drop_fits sizes m.ends m.blocks m.workers ≡ true)
  unfolding broken_in
  tests =
      let a = passes (in_limits m.count workers_most) (cond (records_fit sizes m.blocks m.count m.workers) (not (drop_fits sizes m.ends m.blocks m.workers)) true) u in
      let b = passes (records_fit sizes m.blocks m.count m.workers) (not (drop_fits sizes m.ends m.blocks m.workers)) a.1 in
      (a.0, b.0, not-false _ b.1)

  pub unbroken_limits : in_limits m.count workers_most ≡ true
  unbroken_limits = tests.0

  pub unbroken_count : m.count ≤ workers_most
  unbroken_count = limit_most m.count workers_most true (sym tests.0) refl

  pub unbroken_records : (w : ℕ) → w < workers_most → record_fits sizes m.blocks (place_of m.workers w) (ltb w m.count) ≡ true
  unfolding records_fit
  unbroken_records w l =
      every workers_most 0 (λ (k : ℕ). record_fits sizes m.blocks (place_of m.workers k) (ltb k m.count)) tests.1 w (omega arith) (omega arith)

  pub unbroken_walk : all_idle sizes m.workers ≡ true → (walk_of sizes m.ends m.blocks).sound ≡ true
  unfolding drop_fits
  unbroken_walk h = sym (simp h) ∙ tests.2

-- and back
pub of_tests : (m : Machine) → in_limits m.count workers_most ≡ true
    → ((w : ℕ) → w < workers_most → record_fits sizes m.blocks (place_of m.workers w) (ltb w m.count) ≡ true)
    → drop_fits sizes m.ends m.blocks m.workers ≡ true → broken_of sizes m ≡ false
unfolding broken_in records_fit
of_tests m a b d =
    pass _ _ a (pass _ _ (all_of workers_most 0 (λ (k : ℕ). record_fits sizes m.blocks (place_of m.workers k) (ltb k m.count)) (λ k l g. b k (omega arith))) (ap not d))

pub of_record : (l : List Block) (p : Place) (counted : Bool) → (view_of sizes p).busy ≡ true → record_fits sizes l p counted ≡ true → uses_fit sizes l (view_of sizes p).uses ≡ true
unfolding record_fits
of_record l p counted h k = both_right counted (uses_fit sizes l (view_of sizes p).uses) (sym (simp h) ∙ k)

pub live_below : (l : List Block) (k : ℕ) → live sizes l k ≡ true → k < 64
unfolding live
live_below l k h = ltb-true k 64 (both_left (ltb k 64) (not (block_at l k).free) h)
