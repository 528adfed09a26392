-- A run that was not refused has read every entry: the search for refusal 9, which the definition puts first, then finds nothing. Over any queue's machine.
use Prim.Native.Nat.{ℕ, ◌+◌, ◌%◌}
use mathlib.Core.Path.{◌≡◌, refl, sym, ap, ◌∙◌}
use mathlib.Core.Bool.{Bool, true, false, cond}
use mathlib.Core.List.{List, [], ◌∷◌}
use native.Mathlib.Omega.{arith}
use lib.Dec.{eqb}
use lib.ListN.{length}
use borrow.Author.Tests.{eqb-true, eqb-false, ne_eqb}
use Rattle.queue_entries.specs.declared.Entry.{Entry}
use Rattle.queue_entries.specs.declared.Entry.TheVariants.{Unreadable, Asks}
use Rattle.std.specs.Prelude.{None}
use Rattle.queue_entries.specs.Schedules.{stops_at, search_by, run_by, schedule_by}

module _ {M D R : Type 0} (refusal : D → ℕ) (machine : D → M) (turned : M → ℕ → ℕ → D) (told : ℕ → ℕ → M → R) (refusal_in : R → ℕ)
    (refusal_is : (k i : ℕ) (m : M) → refusal_in (told k i m) ≡ k)
    (reading : ℕ → ℕ → Entry) (nine : (m : M) (a b : ℕ) → reading a b ≡ Unreadable → refusal (turned m a b) ≡ 9) where
  pub ended_read : (s : List ℕ) (m : M) (i : ℕ) → refusal_in (run_by refusal machine turned told m i s) ≡ 0 → search_by reading i s ≡ None
  unfolding search_by run_by
  ended_read [] m i z = refl
  ended_read (a ∷ []) m i z = refl
  ended_read (a ∷ b ∷ s) m i z =
      go (ended_read s (machine (turned m a b)) (i + 1)) (eqb (refusal (turned m a b)) 0) refl z (reading a b) refl
    where
      go : (refusal_in (run_by refusal machine turned told (machine (turned m a b)) (i + 1) s) ≡ 0 → search_by reading (i + 1) s ≡ None)
          → (c : Bool) → eqb (refusal (turned m a b)) 0 ≡ c
          → refusal_in (cond c (run_by refusal machine turned told (machine (turned m a b)) (i + 1) s) (told (refusal (turned m a b)) i m)) ≡ 0
          → (x : Entry) → reading a b ≡ x → stops_at i x (search_by reading (i + 1) s) ≡ None
      go more false t z x e = absurd (eqb-false _ 0 t (sym (refusal_is (refusal (turned m a b)) i m) ∙ z))
      go more true t z Unreadable e = absurd (omega (arith, eqb-true (refusal (turned m a b)) 0 t, nine m a b e))
      go more true t z (Asks w o) e = more z

  module _ (broken : M → Bool) where
    pub not_refused : (m : M) (s : List ℕ) → broken m ≡ false → (length s % 2 ≡ 1 → ⊥)
        → (r : R) → r ≡ run_by refusal machine turned told m 0 s → refusal_in r ≡ 0 → r ≡ schedule_by refusal machine turned told broken reading m s
    unfolding schedule_by
    not_refused m s whole even r e z = e ∙ sym (simp (whole, ne_eqb _ _ even, ended_read s m 0 (sym (ap refusal_in e) ∙ z)))
