-- Runs with their histories: of one list after another, and from what is reached to what is reached.
use Prim.Native.Nat.{ℕ, ◌+◌, ◌%◌}
use mathlib.Core.Path.{◌≡◌, refl, sym, ap, ◌∙◌, subst}
use mathlib.Core.Bool.{Bool, true, false}
use mathlib.Core.List.{List, [], ◌∷◌, ◌++◌, append_assoc, append-nil}
use native.Mathlib.Omega.{arith}
use lib.ListN.{length}
use borrow.Author.Tests.{eq-eqb, eqb-true, eqb-false}
use Rattle.queue_entries.specs.declared.Entry.{Entry}
use Rattle.queue_entries.specs.Entries.{entry_of}
use Rattle.queue_entries.specs.Schedules.{history_by}
use Rattle.queue_schedules.proofs.Schedules.{Queue, run_in, taken, run_none, run_half, run_on, run_halt}

module _ {M D R E : Type 0} (q : Queue M D R) (acts : M → Entry → M → List E) where
  abbrev next : M → ℕ → ℕ → M
  next m a b = q.machine (q.turn m a b)

  abbrev pub history_in : M → List ℕ → List E
  history_in = history_by q.refusal q.machine q.turn acts

  abbrev pub acts_at : M → ℕ → ℕ → List E
  acts_at m a b = acts m (entry_of a b) (next m a b)

  pub history_none : (m : M) → history_in m [] ≡ []
  unfolding history_by
  history_none m = refl

  pub history_half : (m : M) (a : ℕ) → history_in m (a ∷ []) ≡ []
  unfolding history_by
  history_half m a = refl

  module _ (m : M) (a b : ℕ) (s : List ℕ) where
    pub history_on : taken q m a b ≡ true → history_in m (a ∷ b ∷ s) ≡ acts_at m a b ++ history_in (next m a b) s
    unfolding history_by
    history_on e = simp e

    pub history_halt : taken q m a b ≡ false → history_in m (a ∷ b ∷ s) ≡ []
    unfolding history_by
    history_halt e = simp e

  -- What comes after a list of whole entries that were all accepted.
  pub record Onward (m : M) (i : ℕ) (s t : List ℕ) : Type 0 where
    pub run : run_in q m i (s ++ t) ≡ run_in q (q.machine_in (run_in q m i s)) (q.place_in (run_in q m i s)) t
    pub acts_too : history_in m (s ++ t) ≡ history_in m s ++ history_in (q.machine_in (run_in q m i s)) t

  pub onward : (s t : List ℕ) (m : M) (i : ℕ) → length s % 2 ≡ 0 → q.refusal_in (run_in q m i s) ≡ 0 → Onward m i s t
  onward [] t m i even z =
      let e = run_none q m i in
      let w : q.machine_in (run_in q m i []) ≡ m = ap q.machine_in e ∙ q.machine_is 0 i m in
      let p : q.place_in (run_in q m i []) ≡ i = ap q.place_in e ∙ q.place_is 0 i m in
      record { run = rw (w, p); acts_too = rw (w, history_none m) }
  onward (a ∷ []) t m i even z = absurd (omega arith)
  onward (a ∷ b ∷ s) t m i even z = go (λ k. onward s t (next m a b) (i + 1) (omega arith) k) (taken q m a b) refl
    where
      go : (q.refusal_in (run_in q (next m a b) (i + 1) s) ≡ 0 → Onward (next m a b) (i + 1) s t) → (c : Bool) → taken q m a b ≡ c
          → Onward m i (a ∷ b ∷ s) t
      go more true e =
          let r = run_on q m i a b s e in
          let o = more (ap q.refusal_in (sym r) ∙ z) in
          record {
            run = run_on q m i a b (s ++ t) e ∙ o.run ∙ ap (λ (x : R). run_in q (q.machine_in x) (q.place_in x) t) (sym r);
            acts_too =
                history_on m a b (s ++ t) e ∙ ap (λ (l : List E). acts_at m a b ++ l) o.acts_too
                ∙ sym (append_assoc (acts_at m a b) (history_in (next m a b) s) _)
                ∙ ap (λ (l : List E). l ++ history_in (q.machine_in (run_in q (next m a b) (i + 1) s)) t) (sym (history_on m a b s e))
                ∙ ap (λ (x : R). history_in m (a ∷ b ∷ s) ++ history_in (q.machine_in x) t) (sym r);
          }
      go more false e =
          absurd (eqb-false _ 0 e (sym (q.refusal_is (q.refusal (q.turn m a b)) i m) ∙ ap q.refusal_in (sym (run_halt q m i a b s e)) ∙ z))

  -- Each entry that is accepted is one turn more, on the machine and on the history.
  pub one_more : (s : List ℕ) (m : M) (a b : ℕ) → length s % 2 ≡ 0 → q.refusal_in (run_in q m 0 s) ≡ 0
      → q.refusal (q.turn (q.machine_in (run_in q m 0 s)) a b) ≡ 0
      → (q.machine_in (run_in q m 0 (s ++ a ∷ b ∷ [])) ≡ next (q.machine_in (run_in q m 0 s)) a b)
      × (history_in m (s ++ a ∷ b ∷ []) ≡ history_in m s ++ acts_at (q.machine_in (run_in q m 0 s)) a b)
  one_more s m a b even z e =
      let o = onward s (a ∷ b ∷ []) m 0 even z in
      let at = q.machine_in (run_in q m 0 s) in
      let t = eq-eqb _ 0 e in (
        ap q.machine_in (o.run ∙ run_on q at _ a b [] t ∙ run_none q (next at a b) _) ∙ q.machine_is 0 _ _,
        o.acts_too ∙ ap (λ (l : List E). history_in m s ++ l)
            (history_on at a b [] t ∙ ap (λ (l : List E). acts_at at a b ++ l) (history_none (next at a b)) ∙ append-nil (acts_at at a b)),
      )

  -- What every accepted entry leads on from machine and history to machine and history, where W holds of them, every list of entries does, each of whose beginnings leads to where W holds.
  module _ (W P : M → List E → Type 0) (step : (m : M) (h : List E) (a b : ℕ) → P m h → W m h → q.refusal (q.turn m a b) ≡ 0 → P (next m a b) (h ++ acts_at m a b)) where
    abbrev pub Each : ℕ → M → List E → List ℕ → Type 0
    Each i m h s = (before after : List ℕ) → s ≡ before ++ after → W (q.machine_in (run_in q m i before)) (h ++ history_in m before)

    stopped : (m : M) (h : List E) (x : R) (l : List E) → P m h → q.machine_in x ≡ m → l ≡ [] → P (q.machine_in x) (h ++ l)
    stopped m h x l p e n = subst (λ (y : M). P y (h ++ l)) (sym e) (subst (P m) (sym (ap (λ (k : List E). h ++ k) n ∙ append-nil h)) p)

    here : (s : List ℕ) (m : M) (h : List E) (i : ℕ) → Each i m h s → W m h
    here s m h i each =
        let o = each [] s refl in
        subst (λ (y : M). W y h) (ap q.machine_in (run_none q m i) ∙ q.machine_is 0 i m)
        (subst (W (q.machine_in (run_in q m i []))) (ap (λ (k : List E). h ++ k) (history_none m) ∙ append-nil h) o)

    onwards : (a b : ℕ) (s : List ℕ) (m : M) (h : List E) (i : ℕ) → taken q m a b ≡ true → Each i m h (a ∷ b ∷ s) → Each (i + 1) (next m a b) (h ++ acts_at m a b) s
    onwards a b s m h i e each before after z =
        let o = each (a ∷ b ∷ before) after (ap (λ (l : List ℕ). a ∷ b ∷ l) z) in
        subst (λ (x : R). W (q.machine_in x) ((h ++ acts_at m a b) ++ history_in (next m a b) before)) (run_on q m i a b before e)
        (subst (W (q.machine_in (run_in q m i (a ∷ b ∷ before)))) (ap (λ (l : List E). h ++ l) (history_on m a b before e) ∙ sym (append_assoc h (acts_at m a b) (history_in (next m a b) before))) o)

    pub entries_lead_while : (s : List ℕ) (m : M) (h : List E) (i : ℕ) → Each i m h s → P m h → P (q.machine_in (run_in q m i s)) (h ++ history_in m s)
    entries_lead_while [] m h i each p = stopped m h _ _ p (ap q.machine_in (run_none q m i) ∙ q.machine_is 0 i m) (history_none m)
    entries_lead_while (a ∷ []) m h i each p = stopped m h _ _ p (ap q.machine_in (run_half q m i a) ∙ q.machine_is 0 i m) (history_half m a)
    entries_lead_while (a ∷ b ∷ s) m h i each p =
        go (λ (more : Each (i + 1) (next m a b) (h ++ acts_at m a b) s) (z : P (next m a b) (h ++ acts_at m a b)). entries_lead_while s (next m a b)
        (h ++ acts_at m a b) (i + 1) more z) (taken q m a b) refl
      where
        go : (Each (i + 1) (next m a b) (h ++ acts_at m a b) s → P (next m a b) (h ++ acts_at m a b)
            → P (q.machine_in (run_in q (next m a b) (i + 1) s)) ((h ++ acts_at m a b) ++ history_in (next m a b) s))
            → (c : Bool) → taken q m a b ≡ c → P (q.machine_in (run_in q m i (a ∷ b ∷ s))) (h ++ history_in m (a ∷ b ∷ s))
        go more true e =
            subst (λ (x : R). P (q.machine_in x) (h ++ history_in m (a ∷ b ∷ s))) (sym (run_on q m i a b s e))
            (subst (P (q.machine_in (run_in q (next m a b) (i + 1) s)))
            (append_assoc h (acts_at m a b) (history_in (next m a b) s) ∙ ap (λ (l : List E). h ++ l) (sym (history_on m a b s e)))
            (more (onwards a b s m h i e each) (step m h a b p (here (a ∷ b ∷ s) m h i each) (eqb-true _ 0 e))))
        go more false e =
            stopped m h _ _ p (ap q.machine_in (run_halt q m i a b s e) ∙ q.machine_is _ i m) (history_halt m a b s e)

  -- The same where nothing is asked of the way.
  module _ (P : M → List E → Type 0) (step : (m : M) (h : List E) (a b : ℕ) → P m h → q.refusal (q.turn m a b) ≡ 0 → P (next m a b) (h ++ acts_at m a b)) where
    pub entries_lead : (s : List ℕ) (m : M) (h : List E) (i : ℕ) → P m h → P (q.machine_in (run_in q m i s)) (h ++ history_in m s)
    entries_lead s m h i p = entries_lead_while (λ (z : M) (l : List E). Unit {0}) P (λ z l a b o w e. step z l a b o e) s m h i (λ before after e. tt) p
