-- A run of the plain queue, one step a call, along a story: one element more, and a step put in at a moment that has been.
use mathlib.Core.Path.{◌≡◌, refl, sym, ap, ◌∙◌}
use mathlib.Core.Logic.{◌≢◌, ◌⊎◌, inl, inr}
use mathlib.Core.Bool.{false}
use mathlib.Core.List.{List, [], ◌∷◌, ◌++◌}
use Prim.Native.Nat.{ℕ, suc, ◌+◌, ◌≤◌, ◌<◌}
use native.Mathlib.Omega.{arith}
use native.Mathlib.Decide.{ℕ_discrete}
use lib.ListN.{length, take, length-append}
use Rattle.queue_entries.specs.declared.Call.{Call}
use Rattle.queue_plain.specs.Plain.{Queue, Reply, queue, answer_of, left_by}
use Rattle.queue_plain.specs.OneStep.{Step, Follows}
use Rattle.queue_plain.proofs.Stories.{take_more, take_whole, queue_past}
use Rattle.bounded_demands.specs.Stories.{Element, Story, known, queue_at, change_of, actor}
use Rattle.bounded_proof_invariant.proofs.Upd.{upd, upd_same, upd_at, upd_else}

abbrev pub step_by : ℕ → Call → Reply → Step
step_by w c r = record { worker = w; call = c; reply = r }

-- at most one, and not one: none
pub no_step : (l : List Step) → length l ≤ 1 → ((x : Step) → l ≡ x ∷ [] → ⊥) → l ≡ []
no_step [] h no_one = refl
no_step (x ∷ []) h no_one = absurd (no_one x refl)
no_step (x ∷ y ∷ l) h no_one = absurd (omega arith)

pub one_step_lem : (l : List Step) → length l ≤ 1 → (l ≡ []) ⊎ ((x : Step) × (l ≡ x ∷ []))
one_step_lem [] h = inl refl
one_step_lem (x ∷ []) h = inr (x, refl)
one_step_lem (x ∷ y ∷ l) h = absurd (omega arith)

pub first_one : (x y : Step) → x ∷ [] ≡ y ∷ [] → x ≡ y
first_one x y e = cc

pub none_one : {P : Type 0} (x : Step) → [] ≡ x ∷ [] → P
none_one x e = absurd (let q : ◌≡◌ {A = ℕ} 0 1 = cc in omega arith)

module _ (c ed : ℕ) where
  -- the call that a step is of, at its point
  abbrev pub OfCall : Story → ℕ → Step → Type 0
  OfCall st i x = (((known c ed (take i st)).each x.worker).calls ≡ x.call ∷ []) × (((known c ed (take i st)).each x.worker).begun < i)

  pub record Line (st : Story) : Type 0 where
    pub steps : ℕ → List Step
    pub queues : ℕ → Queue
    pub first : queues 0 ≡ queue [] false c
    pub follows : (i : ℕ) → i < length st → Follows (queues i) (steps i) (queues (suc i))
    pub single : (i : ℕ) → length (steps i) ≤ 1
    pub inside : (i : ℕ) (x : Step) → steps i ≡ x ∷ [] → i < length st
    pub own : (i : ℕ) (x : Step) → steps i ≡ x ∷ [] → OfCall st i x
    pub once : (i j : ℕ) (x y : Step) → i < j → steps i ≡ x ∷ [] → steps j ≡ y ∷ [] → x.worker ≡ y.worker → i < ((known c ed (take j st)).each y.worker).begun
    -- closed when the queue of the story is
    pub flags : (i : ℕ) → i ≤ length st → ((queues i).closed ≡ (queue_at c ed i st).closed) × ((queues i).capacity ≡ c)

  -- ---- one element more, with these steps just before it

  module _ (st : Story) (o : Line st) (e : Element) (l : List Step) (q : Queue) (few : length l ≤ 1) (goes : Follows (o.queues (length st)) l q)
      (its : (x : Step) → l ≡ x ∷ [] → OfCall st (length st) x)
      (new : (x : Step) → l ≡ x ∷ [] → (i : ℕ) (y : Step) → o.steps i ≡ y ∷ [] → y.worker ≡ x.worker → i < ((known c ed st).each x.worker).begun)
      (flag : q.closed ≡ (known c ed (st ++ e ∷ [])).queue.closed) (room : q.capacity ≡ c) where
    abbrev n : ℕ
    n = length st

    longer : length (st ++ e ∷ []) ≡ length st + 1
    longer = length-append st (e ∷ []) ∙ omega arith

    kept : (i : ℕ) → i ≤ length st → take i (st ++ e ∷ []) ≡ take i st
    kept i h = take_more i st e h

    abbrev S : ℕ → List Step
    S = upd o.steps n l

    abbrev Q : ℕ → Queue
    Q = upd o.queues (suc n) q

    old_step : (i : ℕ) → i ≢ n → S i ≡ o.steps i
    old_step i ne = upd_else o.steps n i l ne

    old_queue : (i : ℕ) → i ≤ n → Q i ≡ o.queues i
    old_queue i h = upd_else o.queues (suc n) i q (λ z. omega arith)

    whole : take (length st) (st ++ e ∷ []) ≡ st
    whole = kept (length st) (omega arith) ∙ take_whole st

    goes_on : (i : ℕ) → i < length (st ++ e ∷ []) → Dec (i ≡ n) → Follows (Q i) (S i) (Q (suc i))
    goes_on i h (yes z) =
        rw (z, upd_same o.steps n l, upd_same o.queues (suc n) q) (rw (old_queue n (omega arith)) goes)
    goes_on i h (no z) =
        let low : i < length st = omega (arith, longer) in
        rw (old_step i z, old_queue i (omega arith), old_queue (suc i) (omega arith)) (o.follows i low)

    one_at : (i : ℕ) (x : Step) → S i ≡ x ∷ [] → Dec (i ≡ n) → (i < length (st ++ e ∷ [])) × OfCall (st ++ e ∷ []) i x
    one_at i x h (yes z) =
        let is : l ≡ x ∷ [] = sym (upd_same o.steps n l) ∙ ap S (sym z) ∙ h in
        let r = its x is in
        (omega (arith, longer), rw (z, kept n (omega arith)) (r.0, r.1))
    one_at i x h (no z) =
        let was : o.steps i ≡ x ∷ [] = sym (old_step i z) ∙ h in
        let low = o.inside i x was in
        (omega (arith, longer, low), rw (kept i (omega arith)) (o.own i x was))

    once_more : (i j : ℕ) (x y : Step) → i < j → S i ≡ x ∷ [] → S j ≡ y ∷ [] → x.worker ≡ y.worker → Dec (j ≡ n) → i < ((known c ed (take j (st ++ e ∷ []))).each y.worker).begun
    once_more i j x y lt a b same (yes z) =
        let is : l ≡ y ∷ [] = sym (upd_same o.steps n l) ∙ ap S (sym z) ∙ b in
        let was : o.steps i ≡ x ∷ [] = sym (old_step i (λ k. omega arith)) ∙ a in
        rw (z, whole) (new y is i x was same)
    once_more i j x y lt a b same (no z) =
        let was_j : o.steps j ≡ y ∷ [] = sym (old_step j z) ∙ b in
        let low = o.inside j y was_j in
        let was_i : o.steps i ≡ x ∷ [] = sym (old_step i (λ k. omega (arith, low))) ∙ a in
        rw (kept j (omega (arith, low))) (o.once i j x y lt was_i was_j same)

    pub extended : Line (st ++ e ∷ [])
    extended =
        record {
          steps = S;
          queues = Q;
          first = old_queue 0 (omega arith) ∙ o.first;
          follows = λ i h. goes_on i h (ℕ_discrete i n);
          single = λ i. single_at i (ℕ_discrete i n);
          inside = λ i x h. (one_at i x h (ℕ_discrete i n)).0;
          own = λ i x h. (one_at i x h (ℕ_discrete i n)).1;
          once = λ i j x y lt a b same. once_more i j x y lt a b same (ℕ_discrete j n);
          flags = λ i h. flag_at i h (ℕ_discrete i (suc n));
        }
      where
        single_at : (i : ℕ) → Dec (i ≡ n) → length (S i) ≤ 1
        single_at i (yes z) = rw (z, upd_same o.steps n l) few
        single_at i (no z) = rw (old_step i z) (o.single i)

        flag_at : (i : ℕ) → i ≤ length (st ++ e ∷ []) → Dec (i ≡ suc n) → ((Q i).closed ≡ (queue_at c ed i (st ++ e ∷ [])).closed) × ((Q i).capacity ≡ c)
        flag_at i h (yes z) =
            let all : take (suc (length st)) (st ++ e ∷ []) ≡ st ++ e ∷ [] = take_end st e in
            let at : Q i ≡ q = upd_at o.queues (suc n) i q z in
            let here : take i (st ++ e ∷ []) ≡ st ++ e ∷ [] = ap (λ (j : ℕ). take j (st ++ e ∷ [])) z ∙ all in (
              ap (λ (y : Queue). y.closed) at ∙ flag ∙ ap (λ (y : Story). (known c ed y).queue.closed) (sym here),
              ap (λ (y : Queue). y.capacity) at ∙ room,
            )
          where
            take_end : {A : Type 0} (xs : List A) (y : A) → take (suc (length xs)) (xs ++ y ∷ []) ≡ xs ++ y ∷ []
            take_end [] y = refl
            take_end (x ∷ xs) y = ap (λ (z : List _). x ∷ z) (take_end xs y)
        flag_at i h (no z) =
            let low : i ≤ length st = omega (arith, longer) in
            rw (old_queue i low, queue_past actor (change_of ed) c i st e low) (o.flags i low)

    -- what is there now
    pub extended_steps : (i : ℕ) (x : Step) → extended.steps i ≡ x ∷ [] → ((i ≡ length st) × (l ≡ x ∷ [])) ⊎ (o.steps i ≡ x ∷ [])
    unfolding extended
    extended_steps i x h = go (ℕ_discrete i n)
      where
        go : Dec (i ≡ n) → ((i ≡ length st) × (l ≡ x ∷ [])) ⊎ (o.steps i ≡ x ∷ [])
        go (yes z) = inl (z, sym (upd_same o.steps n l) ∙ ap S (sym z) ∙ h)
        go (no z) = inr (sym (old_step i z) ∙ h)

    pub extended_kept : (i : ℕ) → i < length st → extended.steps i ≡ o.steps i
    unfolding extended
    extended_kept i h = old_step i (λ z. omega arith)

    pub extended_new : extended.steps (length st) ≡ l
    unfolding extended
    extended_new = upd_same o.steps n l

    pub extended_queue : (i : ℕ) → i ≤ length st → extended.queues i ≡ o.queues i
    unfolding extended
    extended_queue i h = old_queue i h

    pub extended_last : extended.queues (length (st ++ e ∷ [])) ≡ q
    unfolding extended
    extended_last = let z : length (st ++ e ∷ []) ≡ suc (length st) = omega (arith, longer) in rw z (upd_same o.queues (suc n) q)

  -- ---- a step put in at k, where there was none

  module _ (st : Story) (o : Line st) (k : ℕ) (low : k < length st) (x : Step) (free : o.steps k ≡ []) (its : OfCall st k x)
      (others : (i : ℕ) (y : Step) → o.steps i ≡ y ∷ [] → y.worker ≡ x.worker → i < ((known c ed (take k st)).each x.worker).begun)
      (Q : ℕ → Queue) (first_same : Q 0 ≡ o.queues 0) (same_flags : (i : ℕ) → ((Q i).closed ≡ (o.queues i).closed) × ((Q i).capacity ≡ (o.queues i).capacity))
      (at_k : (x.reply ≡ answer_of (Q k) x.call) × (Q (suc k) ≡ left_by (Q k) x.call))
      (elsewhere : (i : ℕ) → i < length st → i ≢ k → Follows (Q i) (o.steps i) (Q (suc i))) where
    abbrev T : ℕ → List Step
    T = upd o.steps k (x ∷ [])

    was : (i : ℕ) → i ≢ k → T i ≡ o.steps i
    was i ne = upd_else o.steps k i (x ∷ []) ne

    which : (i : ℕ) (y : Step) → T i ≡ y ∷ [] → ((i ≡ k) × (y ≡ x)) ⊎ ((i ≢ k) × (o.steps i ≡ y ∷ []))
    which i y h = go (ℕ_discrete i k)
      where
        go : Dec (i ≡ k) → ((i ≡ k) × (y ≡ x)) ⊎ ((i ≢ k) × (o.steps i ≡ y ∷ []))
        go (yes z) = inl (z, first_one y x (sym h ∙ ap T z ∙ upd_same o.steps k (x ∷ [])))
        go (no z) = inr (z, sym (was i z) ∙ h)

    pub inserted : Line st
    inserted =
        record {
          steps = T;
          queues = Q;
          first = first_same ∙ o.first;
          follows = λ i h. follow i h (ℕ_discrete i k);
          single = λ i. one i (ℕ_discrete i k);
          inside = λ i y h. in_it i y (which i y h);
          own = λ i y h. of_call i y (which i y h);
          once = λ i j y z lt a b same. apart i j y z lt (which i y a) (which j z b) same;
          flags = λ i h. ((same_flags i).0 ∙ (o.flags i h).0, (same_flags i).1 ∙ (o.flags i h).1);
        }
      where
        follow : (i : ℕ) → i < length st → Dec (i ≡ k) → Follows (Q i) (T i) (Q (suc i))
        follow i h (yes z) = rw (z, upd_same o.steps k (x ∷ [])) (at_k.0, at_k.1)
        follow i h (no z) = rw (was i z) (elsewhere i h z)

        one : (i : ℕ) → Dec (i ≡ k) → length (T i) ≤ 1
        one i (yes z) = rw (z, upd_same o.steps k (x ∷ [])) (omega arith)
        one i (no z) = rw (was i z) (o.single i)

        in_it : (i : ℕ) (y : Step) → ((i ≡ k) × (y ≡ x)) ⊎ ((i ≢ k) × (o.steps i ≡ y ∷ [])) → i < length st
        in_it i y (inl h) = omega (arith, h.0)
        in_it i y (inr h) = o.inside i y h.1

        of_call : (i : ℕ) (y : Step) → ((i ≡ k) × (y ≡ x)) ⊎ ((i ≢ k) × (o.steps i ≡ y ∷ [])) → OfCall st i y
        of_call i y (inl h) = rw (h.0, h.1) (its.0, its.1)
        of_call i y (inr h) = o.own i y h.1

        apart : (i j : ℕ) (y z : Step) → i < j → ((i ≡ k) × (y ≡ x)) ⊎ ((i ≢ k) × (o.steps i ≡ y ∷ [])) → ((j ≡ k) × (z ≡ x)) ⊎ ((j ≢ k) × (o.steps j ≡ z ∷ []))
            → y.worker ≡ z.worker → i < ((known c ed (take j st)).each z.worker).begun
        apart i j y z lt (inl a) (inl b) same = absurd (omega (arith, a.0, b.0))
        apart i j y z lt (inr a) (inl b) same = rw (b.0, b.1) (others i y a.1 (same ∙ ap (λ (w : Step). w.worker) b.1))
        apart i j y z lt (inl a) (inr b) same =
            let early : j < ((known c ed (take k st)).each x.worker).begun = others j z b.1 (sym same ∙ ap (λ (w : Step). w.worker) a.1) in
            absurd (omega (arith, early, its.1, a.0))
        apart i j y z lt (inr a) (inr b) same = o.once i j y z lt a.1 b.1 same

    pub inserted_steps : (i : ℕ) (y : Step) → inserted.steps i ≡ y ∷ [] → ((i ≡ k) × (y ≡ x)) ⊎ ((i ≢ k) × (o.steps i ≡ y ∷ []))
    unfolding inserted
    inserted_steps i y h = which i y h

    pub inserted_kept : (i : ℕ) → i ≢ k → inserted.steps i ≡ o.steps i
    unfolding inserted
    inserted_kept i ne = was i ne

    pub inserted_new : inserted.steps k ≡ x ∷ []
    unfolding inserted
    inserted_new = upd_same o.steps k (x ∷ [])

    pub inserted_queue : (i : ℕ) → inserted.queues i ≡ Q i
    unfolding inserted
    inserted_queue i = refl
