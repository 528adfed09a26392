-- What is kept of each worker, one act more.
use mathlib.Core.Path.{◌≡◌, refl, sym, ap, ◌∙◌, subst}
use mathlib.Core.Logic.{◌≢◌}
use mathlib.Core.Bool.{Bool, true, false, cond, not, true≢false}
use mathlib.Core.List.{List, [], ◌∷◌, ◌++◌}
use Prim.Native.Nat.{ℕ, zero, suc, ◌≤◌, ◌<◌}
use native.Mathlib.Omega.{arith}
use native.Mathlib.Decide.{ℕ_discrete}
use lib.Dec.{eqb}
use lib.ListN.{length, get_or, set, length-set}
use lib.Seq.{get_or-set_same, get_or-set_other}
use borrow.Author.Tests.{eq-eqb, ne_eqb}
use Rattle.queue_entries.specs.Limits.{all}
use Rattle.bounded_machine.specs.declared.Event.{Event}
use Rattle.bounded_machine.proofs.Kept.{every, all_of}
use Rattle.bounded_causes.specs.declared.Deed.{Deed}
use Rattle.bounded_causes.specs.declared.Watch.{Watch}
use Rattle.bounded_causes.specs.declared.Watches.{Watches}
use Rattle.bounded_causes.specs.Causes.{watched_most, own_act, other_act, watch_with, unwatched, watch_of, others_hold, watched_to, watched_of, named_of}
use Rattle.bounded_demands.specs.Notions.{watches_from}

-- what holds of the element that was set and of every other holds of all
pub placed_else : {A : Type 0} (xs : List A) (w : ℕ) (x d : A) (P : ℕ → A → Type 0) → w < length xs → P w x → ((j : ℕ) → j ≢ w → P j (get_or xs j d))
    → (j : ℕ) → P j (get_or (set xs w x) j d)
placed_else xs w x d P l new old j = go (ℕ_discrete j w)
  where
    go : Dec (j ≡ w) → P j (get_or (set xs w x) j d)
    go (yes e) = rw e (subst (P w) (sym (get_or-set_same xs w x d l)) new)
    go (no ne) = subst (P j) (sym (get_or-set_other xs w j x d ne)) (old j ne)

pub watches_end : (ws : Watches) (h : List Event) (e : Event)
    → watches_from ws (h ++ e ∷ []) ≡ (named_of (watches_from ws h) e.worker e.before e.after e.loss).watches
unfolding watches_from
watches_end ws [] e = refl
watches_end ws (a ∷ h) e = watches_end (named_of ws a.worker a.before a.after a.loss).watches h e

module _ (w : ℕ) (others : Bool) (d : Deed) (xs : List Watch) where
  to_long : (n : ℕ) → length (watched_to n w others d xs) ≡ length xs
  unfolding watched_to
  to_long zero = refl
  to_long (suc n) = length-set (watched_to n w others d xs) n (watch_with (eqb n w) others d (watch_of xs n)) ∙ to_long n

  to_at : (n i : ℕ) → n ≤ length xs → i < n → watch_of (watched_to n w others d xs) i ≡ watch_with (eqb i w) others d (watch_of xs i)
  unfolding watched_to
  to_at zero i le l = absurd (omega arith)
  to_at (suc n) i le l = go (λ (z : i < n). to_at n i (omega arith) z) (ℕ_discrete i n)
    where
      go : (i < n → watch_of (watched_to n w others d xs) i ≡ watch_with (eqb i w) others d (watch_of xs i)) → Dec (i ≡ n)
          → get_or (set (watched_to n w others d xs) n (watch_with (eqb n w) others d (watch_of xs n))) i unwatched ≡ watch_with (eqb i w) others d (watch_of xs i)
      go rest (yes e) =
          let in_list : n < length (watched_to n w others d xs) = omega (arith, to_long n) in
          rw e (get_or-set_same (watched_to n w others d xs) n (watch_with (eqb n w) others d (watch_of xs n)) unwatched in_list)
      go rest (no ne) = get_or-set_other (watched_to n w others d xs) n i (watch_with (eqb n w) others d (watch_of xs n)) unwatched ne ∙ rest (omega arith)

-- another's hand is one of these
pub others_free : (xs : List Watch) (w : ℕ) → others_hold xs w ≡ false → (v : ℕ) → v < watched_most → v ≢ w → (watch_of xs v).hand ≡ false
unfolding others_hold
others_free xs w none v few ne = free (watch_of xs v).hand (sym (simp (ne_eqb v w ne)) ∙ every watched_most 0 test (passed (all watched_most 0 test) none) v (omega arith) (omega arith))
  where
    test : ℕ → Bool
    test i = cond (eqb i w) true (not (watch_of xs i).hand)

    passed : (b : Bool) → not b ≡ false → b ≡ true
    passed true h = refl
    passed false h = absurd (true≢false h)

    free : (b : Bool) → not b ≡ true → b ≡ false
    free true h = absurd (true≢false (sym h))
    free false h = refl

module _ (w : ℕ) (d : Deed) (xs : List Watch) (long : length xs ≡ watched_most) where
  pub watched_long : length (watched_of w d xs) ≡ watched_most
  unfolding watched_of
  watched_long = to_long w (others_hold xs w) d xs watched_most ∙ long

  pub watched_own : w < watched_most → watch_of (watched_of w d xs) w ≡ own_act (others_hold xs w) d (watch_of xs w)
  unfolding watched_of
  watched_own few = to_at w (others_hold xs w) d xs watched_most w (omega arith) few ∙ simp (eq-eqb w w refl)

  pub watched_else : (v : ℕ) → v < watched_most → v ≢ w → watch_of (watched_of w d xs) v ≡ other_act d (watch_of xs v)
  unfolding watched_of
  watched_else v few ne = to_at w (others_hold xs w) d xs watched_most v (omega arith) few ∙ simp (ne_eqb v w ne)

  -- an act of w leaves the others' hands
  pub others_stay : others_hold xs w ≡ false → others_hold (watched_of w d xs) w ≡ false
  unfolding others_hold other_act
  others_stay none = ap not (all_of watched_most 0 (λ (i : ℕ). cond (eqb i w) true (not (watch_of (watched_of w d xs) i).hand)) (λ i l g. each i (omega arith) (ℕ_discrete i w)))
    where
      each : (i : ℕ) → i < watched_most → Dec (i ≡ w) → cond (eqb i w) true (not (watch_of (watched_of w d xs) i).hand) ≡ true
      each i few (yes e) = simp (eq-eqb i w e)
      each i few (no ne) = simp (ne_eqb i w ne) (ap (λ (x : Watch). not x.hand) (watched_else i few ne) ∙ ap not (others_free xs w none i few ne))
