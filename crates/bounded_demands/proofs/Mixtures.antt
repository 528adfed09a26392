-- Calls one after another are one schedule of the entries that were accepted, over any queue's machine.
use Prim.Native.Nat.{ℕ, suc, ◌+◌, ◌-◌, ◌*◌, ◌≤◌}
use mathlib.Core.Path.{◌≡◌, refl, sym, ap, ◌∙◌, subst}
use mathlib.Core.Bool.{Bool, true, false}
use mathlib.Core.List.{List, [], ◌∷◌, ◌++◌}
use native.Mathlib.Omega.{arith}
use lib.ListN.{take}
use Rattle.std.specs.Prelude.{Option, Some, None}
use Rattle.queue_entries.specs.Schedules.{search_by}
use Rattle.queue_schedules.proofs.Schedules.{Queue, run_in, taken, run_none, run_half, run_on, run_halt, schedule_in, schedule_broken, schedule_odd}
use Rattle.queue_schedules.proofs.Schedules.{schedule_found, schedule_none, Ways, is_broken, is_odd, is_unread, is_read, way}
use Rattle.bounded_demands.specs.Notions.{ran_of}

module _ {M D R : Type 0} (q : Queue M D R) where
  abbrev next : M → ℕ → ℕ → M
  next m a b = q.machine (q.turn m a b)

  -- These entries, each of them accepted, lead from the one machine to the other.
  abbrev pub Goes : M → List ℕ → M → Type 0
  Goes m [] z = m ≡ z
  Goes m (a ∷ []) z = ⊥
  Goes m (a ∷ b ∷ s) z = (taken q m a b ≡ true) × Goes (next m a b) s z

  pub goes_run : (s : List ℕ) (m z : M) (i : ℕ) → Goes m s z → (q.refusal_in (run_in q m i s) ≡ 0) × (q.machine_in (run_in q m i s) ≡ z)
  goes_run [] m z i e = (ap q.refusal_in (run_none q m i) ∙ q.refusal_is 0 i m, ap q.machine_in (run_none q m i) ∙ q.machine_is 0 i m ∙ e)
  goes_run (a ∷ []) m z i e = absurd e
  goes_run (a ∷ b ∷ s) m z i e =
      let more = goes_run s (next m a b) z (i + 1) e.1 in
      (ap q.refusal_in (run_on q m i a b s e.0) ∙ more.0, ap q.machine_in (run_on q m i a b s e.0) ∙ more.1)

  pub goes_on : (s t : List ℕ) (m y z : M) → Goes m s y → Goes y t z → Goes m (s ++ t) z
  goes_on [] t m y z e more = subst (λ (v : M). Goes v t z) (sym e) more
  goes_on (a ∷ []) t m y z e more = absurd e
  goes_on (a ∷ b ∷ s) t m y z e more = (e.0, goes_on s t (next m a b) y z e.1 more)

  -- what was run of a schedule's entries, to its end or to the first refusal, from place i on
  abbrev Part : List ℕ → M → ℕ → R → Type 0
  Part s m i r = (i ≤ q.place_in r) × Goes m (take (2 * (q.place_in r - i)) s) (q.machine_in r)

  at_once : (s : List ℕ) (m : M) (i number : ℕ) → Part s m i (q.ran number i m)
  at_once s m i number =
      let nought : 2 * (q.place_in (q.ran number i m) - i) ≡ 0 = omega (arith, q.place_is number i m) in
      (omega (arith, q.place_is number i m), subst (λ (k : ℕ). Goes m (take k s) (q.machine_in (q.ran number i m))) (sym nought) (sym (q.machine_is number i m)))

  run_goes : (s : List ℕ) (m : M) (i : ℕ) → Part s m i (run_in q m i s)
  run_goes [] m i = subst (Part [] m i) (sym (run_none q m i)) (at_once [] m i 0)
  run_goes (a ∷ []) m i = subst (Part (a ∷ []) m i) (sym (run_half q m i a)) (at_once (a ∷ []) m i 0)
  run_goes (a ∷ b ∷ s) m i = go (run_goes s (next m a b) (i + 1)) (taken q m a b) refl
    where
      two_more : (k : ℕ) → i + 1 ≤ k → 2 * (k - i) ≡ suc (suc (2 * (k - (i + 1))))
      two_more k h = omega (arith, h)

      go : Part s (next m a b) (i + 1) (run_in q (next m a b) (i + 1) s) → (c : Bool) → taken q m a b ≡ c → Part (a ∷ b ∷ s) m i (run_in q m i (a ∷ b ∷ s))
      go more true e =
          let r = run_in q (next m a b) (i + 1) s in
          subst (Part (a ∷ b ∷ s) m i) (sym (run_on q m i a b s e))
          (omega (arith, more.0), subst (λ (k : ℕ). Goes m (take k (a ∷ b ∷ s)) (q.machine_in r)) (sym (two_more (q.place_in r) more.0)) (e, more.1))
      go more false e = subst (Part (a ∷ b ∷ s) m i) (sym (run_halt q m i a b s e)) (at_once (a ∷ b ∷ s) m i (q.refusal (q.turn m a b)))

  module _ (broken : M → Bool) (m : M) (s : List ℕ) where
    abbrev Ran : R → Type 0
    Ran r = Goes m (ran_of (search_by q.reading 0 s) (q.place_in r) s) (q.machine_in r)

    -- refused as a whole
    whole : (number : ℕ) → Ran (q.ran number 0 m)
    whole number =
        subst (λ (k : ℕ). Goes m (ran_of (search_by q.reading 0 s) k s) (q.machine_in (q.ran number 0 m))) (sym (q.place_is number 0 m))
        (go (search_by q.reading 0 s))
      where
        go : (f : Option ℕ) → Goes m (ran_of f 0 s) (q.machine_in (q.ran number 0 m))
        go None = sym (q.machine_is number 0 m)
        go (Some k) = sym (q.machine_is number 0 m)

    -- the entries of a schedule that were run lead to what it leaves
    pub schedule_goes : Ran (schedule_in q broken m s)
    schedule_goes = go (way q broken m s)
      where
        go : Ways q broken m s → Ran (schedule_in q broken m s)
        go (is_broken e) = subst Ran (sym (schedule_broken q broken m s e)) (whole 6)
        go (is_odd e o) = subst Ran (sym (schedule_odd q broken m s e o)) (whole 11)
        go (is_unread e o k h) =
            subst Ran (sym (schedule_found q broken m s e o k h))
            (subst (λ (f : Option ℕ). Goes m (ran_of f (q.place_in (q.ran 9 k m)) s) (q.machine_in (q.ran 9 k m))) (sym h) (sym (q.machine_is 9 k m)))
        go (is_read e o h) =
            subst Ran (sym (schedule_none q broken m s e o h))
            (subst (λ (f : Option ℕ). Goes m (ran_of f (q.place_in (run_in q m 0 s)) s) (q.machine_in (run_in q m 0 s))) (sym h)
            (subst (λ (k : ℕ). Goes m (take (2 * k) s) (q.machine_in (run_in q m 0 s))) same (run_goes s m 0).1))
          where
            same : q.place_in (run_in q m 0 s) - 0 ≡ q.place_in (run_in q m 0 s)
            same = omega arith
