-- What holds of every schedule, over any queue's machine.
use Prim.Native.Nat.{ℕ, zero, suc, ◌+◌, ◌*◌, ◌%◌, ◌<◌, ◌≤◌}
use mathlib.Core.Path.{◌≡◌, refl, sym, ap, ◌∙◌, subst}
use mathlib.Core.Bool.{Bool, true, false, cond}
use mathlib.Core.List.{List, [], ◌∷◌, ◌++◌}
use native.Mathlib.Omega.{arith}
use native.Mathlib.Decide.{dec_lt}
use lib.Dec.{eqb}
use lib.ListN.{length, take, length-take}
use borrow.Author.Tests.{ne_eqb, eq-eqb, eqb-true, eqb-false}
use Rattle.queue_entries.specs.declared.Entry.{Entry}
use Rattle.queue_entries.specs.declared.Entry.TheVariants.{Unreadable}
use Rattle.std.specs.Prelude.{Option, Some, None}
use Rattle.queue_entries.specs.Schedules.{run_by, search_by, searched, schedule_by}
use Rattle.queue_schedules.specs.Reading.{Readable}
use Rattle.queue_schedules.proofs.Searching.{search_read, search_first, read_search, readable_part, found_one}

-- A pick between two, by the test or for either.
pub either : {A : Type 0} (P : A → Type 0) (b : Bool) (x y : A) → (b ≡ true → P x) → (b ≡ false → P y) → P (cond b x y)
either P true x y p q = p refl
either P false x y p q = q refl

pub picked : {A : Type 0} (P : A → Type 0) (b : Bool) (x y : A) → P x → P y → P (cond b x y)
picked P b x y p q = either P b x y (λ h. p) (λ h. q)

-- What an entry gives and a schedule reports, of a machine M.
pub record Queue (M D R : Type 0) : Type 0 where
  pub refusal : D → ℕ
  pub machine : D → M
  pub turn : M → ℕ → ℕ → D
  pub ran : ℕ → ℕ → M → R
  pub refusal_in : R → ℕ
  pub place_in : R → ℕ
  pub machine_in : R → M
  pub refusal_is : (k i : ℕ) (m : M) → refusal_in (ran k i m) ≡ k
  pub place_is : (k i : ℕ) (m : M) → place_in (ran k i m) ≡ i
  pub machine_is : (k i : ℕ) (m : M) → machine_in (ran k i m) ≡ m
  -- a refused entry changes nothing
  pub kept : (m : M) (a b : ℕ) → (refusal (turn m a b) ≡ 0 → ⊥) → machine (turn m a b) ≡ m
  -- 9 is the refusal of two words that can't be read alone
  pub reading : ℕ → ℕ → Entry
  pub only_unread : (m : M) (a b : ℕ) → refusal (turn m a b) ≡ 9 → reading a b ≡ Unreadable

module _ {M D R : Type 0} (q : Queue M D R) where
  abbrev pub run_in : M → ℕ → List ℕ → R
  run_in = run_by q.refusal q.machine q.turn q.ran

  abbrev next : M → ℕ → ℕ → M
  next m a b = q.machine (q.turn m a b)

  abbrev pub taken : M → ℕ → ℕ → Bool
  taken m a b = eqb (q.refusal (q.turn m a b)) 0

  -- ---- one entry
  module _ (m : M) (i : ℕ) where
    pub run_none : run_in m i [] ≡ q.ran 0 i m
    unfolding run_by
    run_none = refl

    pub run_half : (a : ℕ) → run_in m i (a ∷ []) ≡ q.ran 0 i m
    unfolding run_by
    run_half a = refl

    module _ (a b : ℕ) (s : List ℕ) where
      pub run_on : taken m a b ≡ true → run_in m i (a ∷ b ∷ s) ≡ run_in (next m a b) (i + 1) s
      unfolding run_by
      run_on e = simp e

      pub run_halt : taken m a b ≡ false → run_in m i (a ∷ b ∷ s) ≡ q.ran (q.refusal (q.turn m a b)) i m
      unfolding run_by
      run_halt e = simp e

  -- ---- what every entry keeps, every schedule keeps
  module _ (P : M → Type 0) (step : (m : M) (a b : ℕ) → P m → P (next m a b)) where
    pub run_keeps : (s : List ℕ) (m : M) (i : ℕ) → P m → P (q.machine_in (run_in m i s))
    run_keeps [] m i p = subst P (sym (ap q.machine_in (run_none m i) ∙ q.machine_is 0 i m)) p
    run_keeps (a ∷ []) m i p = subst P (sym (ap q.machine_in (run_half m i a) ∙ q.machine_is 0 i m)) p
    run_keeps (a ∷ b ∷ s) m i p = go (run_keeps s (next m a b) (i + 1) (step m a b p)) (taken m a b) refl
      where
        go : P (q.machine_in (run_in (next m a b) (i + 1) s)) → (c : Bool) → taken m a b ≡ c → P (q.machine_in (run_in m i (a ∷ b ∷ s)))
        go more true e = subst (λ (r : R). P (q.machine_in r)) (sym (run_on m i a b s e)) more
        go more false e = subst P (sym (ap q.machine_in (run_halt m i a b s e) ∙ q.machine_is _ i m)) p

  -- ---- refusals are numbered
  module _ (most : ℕ) (low : (m : M) (a b : ℕ) → q.refusal (q.turn m a b) ≤ most) where
    pub run_low : (s : List ℕ) (m : M) (i : ℕ) → q.refusal_in (run_in m i s) ≤ most
    run_low [] m i = omega (arith, ap q.refusal_in (run_none m i), q.refusal_is 0 i m)
    run_low (a ∷ []) m i = omega (arith, ap q.refusal_in (run_half m i a), q.refusal_is 0 i m)
    run_low (a ∷ b ∷ s) m i = go (run_low s (next m a b) (i + 1)) (taken m a b) refl
      where
        go : q.refusal_in (run_in (next m a b) (i + 1) s) ≤ most → (c : Bool) → taken m a b ≡ c → q.refusal_in (run_in m i (a ∷ b ∷ s)) ≤ most
        go more true e = omega (arith, ap q.refusal_in (run_on m i a b s e), more)
        go more false e = omega (arith, ap q.refusal_in (run_halt m i a b s e), q.refusal_is (q.refusal (q.turn m a b)) i m, low m a b)

  -- ---- a refused schedule leaves what the entries before the place leave
  places_rise : (s : List ℕ) (m : M) (i : ℕ) → i ≤ q.place_in (run_in m i s)
  places_rise [] m i = omega (arith, ap q.place_in (run_none m i), q.place_is 0 i m)
  places_rise (a ∷ []) m i = omega (arith, ap q.place_in (run_half m i a), q.place_is 0 i m)
  places_rise (a ∷ b ∷ s) m i = go (places_rise s (next m a b) (i + 1)) (taken m a b) refl
    where
      go : i + 1 ≤ q.place_in (run_in (next m a b) (i + 1) s) → (c : Bool) → taken m a b ≡ c → i ≤ q.place_in (run_in m i (a ∷ b ∷ s))
      go more true e = omega (arith, ap q.place_in (run_on m i a b s e), more)
      go more false e = omega (arith, ap q.place_in (run_halt m i a b s e), q.place_is (q.refusal (q.turn m a b)) i m)

  -- the entries before the place at which a schedule stopped
  stands : (s : List ℕ) (m : M) (i j : ℕ) → (q.refusal_in (run_in m i s) ≡ 0 → ⊥) → q.place_in (run_in m i s) ≡ i + j
      → q.machine_in (run_in m i s) ≡ q.machine_in (run_in m i (take (2 * j) s))
  stands [] m i j h p = absurd (h (ap q.refusal_in (run_none m i) ∙ q.refusal_is 0 i m))
  stands (a ∷ []) m i j h p = absurd (h (ap q.refusal_in (run_half m i a) ∙ q.refusal_is 0 i m))
  stands (a ∷ b ∷ s) m i j h p =
      go (taken m a b) refl j p
      (λ (k : ℕ) (e : taken m a b ≡ true) (r : q.place_in (run_in (next m a b) (i + 1) s) ≡ i + 1 + k).
      stands s (next m a b) (i + 1) k (λ z. h (ap q.refusal_in (run_on m i a b s e) ∙ z)) r)
    where
      go : (c : Bool) → taken m a b ≡ c → (j : ℕ) → q.place_in (run_in m i (a ∷ b ∷ s)) ≡ i + j
          → ((k : ℕ) → taken m a b ≡ true → q.place_in (run_in (next m a b) (i + 1) s) ≡ i + 1 + k
          → q.machine_in (run_in (next m a b) (i + 1) s) ≡ q.machine_in (run_in (next m a b) (i + 1) (take (2 * k) s)))
          → q.machine_in (run_in m i (a ∷ b ∷ s)) ≡ q.machine_in (run_in m i (take (2 * j) (a ∷ b ∷ s)))
      go false e j p more =
          let z : 2 * j ≡ 0 = omega (arith, ap q.place_in (run_halt m i a b s e), q.place_is (q.refusal (q.turn m a b)) i m) in
          ap q.machine_in (run_halt m i a b s e) ∙ q.machine_is _ i m
          ∙ sym (ap (λ (n : ℕ). q.machine_in (run_in m i (take n (a ∷ b ∷ s)))) z ∙ ap q.machine_in (run_none m i) ∙ q.machine_is 0 i m)
      go true e zero p more = absurd (omega (arith, ap q.place_in (run_on m i a b s e), places_rise s (next m a b) (i + 1)))
      go true e (suc k) p more =
          let z : 2 * suc k ≡ suc (suc (2 * k)) = omega arith in
          ap q.machine_in (run_on m i a b s e)
          ∙ more k e (omega (arith, ap q.place_in (run_on m i a b s e)))
          ∙ ap q.machine_in (sym (run_on m i a b (take (2 * k) s) e))
          ∙ ap (λ (n : ℕ). q.machine_in (run_in m i (take n (a ∷ b ∷ s)))) (sym z)

  even_part : (n : ℕ) (s : List ℕ) → (length s % 2 ≡ 1 → ⊥) → length (take (2 * n) s) % 2 ≡ 1 → ⊥
  even_part n s h e = omega (arith, length-take (2 * n) s)

  -- ---- no entry of a schedule that can be read is refused by 9
  pub run_read : (s : List ℕ) (m : M) (i : ℕ) → Readable q.reading s → q.refusal_in (run_in m i s) ≡ 9 → ⊥
  run_read [] m i h e = omega (arith, ap q.refusal_in (run_none m i), q.refusal_is 0 i m)
  run_read (a ∷ []) m i h e = omega (arith, ap q.refusal_in (run_half m i a), q.refusal_is 0 i m)
  run_read (a ∷ b ∷ s) m i h e = go (run_read s (next m a b) (i + 1) h.1) (taken m a b) refl
    where
      go : (q.refusal_in (run_in (next m a b) (i + 1) s) ≡ 9 → ⊥) → (c : Bool) → taken m a b ≡ c → ⊥
      go more true t = more (ap q.refusal_in (sym (run_on m i a b s t)) ∙ e)
      go more false t =
          h.0 (q.only_unread m a b (sym (ap q.refusal_in (run_halt m i a b s t) ∙ q.refusal_is (q.refusal (q.turn m a b)) i m) ∙ e))

  -- ---- the whole of a schedule: 6, 11, 9, then entry by entry
  module _ (broken : M → Bool) where
    abbrev pub schedule_in : M → List ℕ → R
    schedule_in = schedule_by q.refusal q.machine q.turn q.ran broken q.reading

    module _ (m : M) (s : List ℕ) where
      pub schedule_broken : broken m ≡ true → schedule_in m s ≡ q.ran 6 0 m
      unfolding schedule_by
      schedule_broken e = simp e

      module _ (e : broken m ≡ false) where
        pub schedule_odd : length s % 2 ≡ 1 → schedule_in m s ≡ q.ran 11 0 m
        unfolding schedule_by
        schedule_odd o = simp (e, eq-eqb _ _ o)

        module _ (o : length s % 2 ≡ 1 → ⊥) where
          schedule_searched : (f : Option ℕ) → search_by q.reading 0 s ≡ f → schedule_in m s ≡ searched q.refusal q.machine q.turn q.ran m s f
          unfolding schedule_by
          schedule_searched f h = simp (e, ne_eqb _ _ o, h)

          pub schedule_found : (k : ℕ) → search_by q.reading 0 s ≡ Some k → schedule_in m s ≡ q.ran 9 k m
          schedule_found k = schedule_searched (Some k)

          pub schedule_none : search_by q.reading 0 s ≡ None → schedule_in m s ≡ run_in m 0 s
          schedule_none = schedule_searched None

          pub schedule_read : Readable q.reading s → schedule_in m s ≡ run_in m 0 s
          schedule_read h = schedule_none (search_read q.reading s 0 h)

    pub schedule_first : (m : M) (before : List ℕ) (k a b : ℕ) (rest : List ℕ) → broken m ≡ false → length (before ++ a ∷ b ∷ rest) % 2 ≡ 0
        → length before ≡ 2 * k → Readable q.reading before → q.reading a b ≡ Unreadable → schedule_in m (before ++ a ∷ b ∷ rest) ≡ q.ran 9 k m
    schedule_first m before k a b rest e even l h u =
        let z : 0 + k ≡ k = omega arith in
        schedule_found m (before ++ a ∷ b ∷ rest) e (λ z. omega arith) k (search_first q.reading before 0 k a b rest l h u ∙ ap Some z)

    -- which of the four it is
    pub data Ways (m : M) (s : List ℕ) : Type 0 where
      is_broken : broken m ≡ true → Ways m s
      is_odd : broken m ≡ false → length s % 2 ≡ 1 → Ways m s
      is_unread : broken m ≡ false → (length s % 2 ≡ 1 → ⊥) → (k : ℕ) → search_by q.reading 0 s ≡ Some k → Ways m s
      is_read : broken m ≡ false → (length s % 2 ≡ 1 → ⊥) → search_by q.reading 0 s ≡ None → Ways m s

    pub way : (m : M) (s : List ℕ) → Ways m s
    way m s = go (broken m) refl (dec_lt 0 (length s % 2)) (search_by q.reading 0 s) refl
      where
        go : (b : Bool) → broken m ≡ b → Dec (0 < length s % 2) → (f : Option ℕ) → search_by q.reading 0 s ≡ f → Ways m s
        go true e d f h = is_broken e
        go false e (yes l) f h = is_odd e (omega arith)
        go false e (no l) None h = is_read e (λ o. omega arith) h
        go false e (no l) (Some k) h = is_unread e (λ o. omega arith) k h

    -- what holds of a machine as it was, whatever the refusal and place, and of the entries' run, holds of the schedule
    by_way : (P : R → Type 0) (m : M) (s : List ℕ) → ((n k : ℕ) → n ≤ 11 → P (q.ran n k m)) → P (run_in m 0 s) → P (schedule_in m s)
    by_way P m s whole run = go (way m s)
      where
        go : Ways m s → P (schedule_in m s)
        go (is_broken e) = subst P (sym (schedule_broken m s e)) (whole 6 0 (omega arith))
        go (is_odd e o) = subst P (sym (schedule_odd m s e o)) (whole 11 0 (omega arith))
        go (is_unread e o k h) = subst P (sym (schedule_found m s e o k h)) (whole 9 k (omega arith))
        go (is_read e o h) = subst P (sym (schedule_none m s e o h)) run

    pub schedule_low : (most : ℕ) → 11 ≤ most → ((m : M) (a b : ℕ) → q.refusal (q.turn m a b) ≤ most)
        → (m : M) (s : List ℕ) → q.refusal_in (schedule_in m s) ≤ most
    schedule_low most l low m s =
        by_way (λ (r : R). q.refusal_in r ≤ most) m s (λ n k h. omega (arith, q.refusal_is n k m)) (run_low most low s m 0)

    pub schedule_keeps : (P : M → Type 0) → ((m : M) (a b : ℕ) → P m → P (next m a b)) → (m : M) (s : List ℕ) → P m → P (q.machine_in (schedule_in m s))
    schedule_keeps P step m s p =
        by_way (λ (r : R). P (q.machine_in r)) m s (λ n k h. subst P (sym (q.machine_is n k m)) p) (run_keeps P step s m 0 p)

    -- refused by 9, it leaves the machine as it was
    pub schedule_unread : (m : M) (s : List ℕ) → q.refusal_in (schedule_in m s) ≡ 9 → q.machine_in (schedule_in m s) ≡ m
    schedule_unread m s = go (way m s)
      where
        Left : R → Type 0
        Left r = q.refusal_in r ≡ 9 → q.machine_in r ≡ m

        go : Ways m s → Left (schedule_in m s)
        go (is_broken e) = subst Left (sym (schedule_broken m s e)) (λ z. q.machine_is 6 0 m)
        go (is_odd e o) = subst Left (sym (schedule_odd m s e o)) (λ z. q.machine_is 11 0 m)
        go (is_unread e o k h) = subst Left (sym (schedule_found m s e o k h)) (λ z. q.machine_is 9 k m)
        go (is_read e o h) = subst Left (sym (schedule_none m s e o h)) (λ z. absurd (run_read s m 0 (read_search q.reading s 0 h) z))

    -- by any other, what the entries before the place leave
    pub schedule_kept : (m : M) (s : List ℕ) → (q.refusal_in (schedule_in m s) ≡ 0 → ⊥) → (q.refusal_in (schedule_in m s) ≡ 9 → ⊥)
        → q.machine_in (schedule_in m s) ≡ q.machine_in (schedule_in m (take (2 * q.place_in (schedule_in m s)) s))
    schedule_kept m s = go (way m s)
      where
        Stops : R → Type 0
        Stops r = (q.refusal_in r ≡ 0 → ⊥) → (q.refusal_in r ≡ 9 → ⊥) → q.machine_in r ≡ q.machine_in (schedule_in m (take (2 * q.place_in r) s))

        at_0 : (k : ℕ) → q.machine_in (schedule_in m (take (2 * 0) s)) ≡ m → Stops (q.ran k 0 m)
        at_0 k e h u =
            q.machine_is k 0 m ∙ sym e ∙ ap (λ (i : ℕ). q.machine_in (schedule_in m (take (2 * i) s))) (sym (q.place_is k 0 m))

        go : Ways m s → Stops (schedule_in m s)
        go (is_broken e) = subst Stops (sym (schedule_broken m s e)) (at_0 6 (ap q.machine_in (schedule_broken m [] e) ∙ q.machine_is 6 0 m))
        go (is_odd e o) =
            subst Stops (sym (schedule_odd m s e o))
            (at_0 11 (ap q.machine_in (schedule_read m [] e (λ z. omega arith) tt ∙ run_none m 0) ∙ q.machine_is 0 0 m))
        go (is_unread e o k h) = subst Stops (sym (schedule_found m s e o k h)) (λ z u. absurd (u (q.refusal_is 9 k m)))
        go (is_read e o h) =
            subst Stops (sym (schedule_none m s e o h))
            (λ z u. let k = q.place_in (run_in m 0 s) in
            stands s m 0 k z (omega arith)
            ∙ ap q.machine_in (sym (schedule_read m (take (2 * k) s) e (even_part k s o) (readable_part q.reading s k (read_search q.reading s 0 h)))))

    -- one entry by itself
    pub schedule_one : (m : M) (a b : ℕ) → broken m ≡ false → (q.reading a b ≡ Unreadable → q.refusal (q.turn m a b) ≡ 9)
        → (q.refusal_in (schedule_in m (a ∷ b ∷ [])) ≡ q.refusal (q.turn m a b)) × (q.machine_in (schedule_in m (a ∷ b ∷ [])) ≡ next m a b)
    schedule_one m a b e nine = find (search_by q.reading 0 (a ∷ b ∷ [])) refl
      where
        One : R → Type 0
        One r = (q.refusal_in r ≡ q.refusal (q.turn m a b)) × (q.machine_in r ≡ next m a b)

        by_9 : (k : ℕ) → q.reading a b ≡ Unreadable → One (q.ran 9 k m)
        by_9 k u = (q.refusal_is 9 k m ∙ sym (nine u), q.machine_is 9 k m ∙ sym (q.kept m a b (λ z. omega (arith, nine u))))

        go : (c : Bool) → taken m a b ≡ c → One (run_in m 0 (a ∷ b ∷ []))
        go true t =
            let w = run_on m 0 a b [] t ∙ run_none (next m a b) (0 + 1) in
            (ap q.refusal_in w ∙ q.refusal_is 0 _ _ ∙ sym (eqb-true _ 0 t), ap q.machine_in w ∙ q.machine_is 0 _ _)
        go false t =
            let w = run_halt m 0 a b [] t in
            (ap q.refusal_in w ∙ q.refusal_is _ 0 m, ap q.machine_in w ∙ q.machine_is _ 0 m ∙ sym (q.kept m a b (eqb-false _ 0 t)))

        find : (f : Option ℕ) → search_by q.reading 0 (a ∷ b ∷ []) ≡ f → One (schedule_in m (a ∷ b ∷ []))
        find None h = subst One (sym (schedule_none m (a ∷ b ∷ []) e (λ z. omega arith) h)) (go (taken m a b) refl)
        find (Some k) h = subst One (sym (schedule_found m (a ∷ b ∷ []) e (λ z. omega arith) k h)) (by_9 k (found_one q.reading a b k h))
