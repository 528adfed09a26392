-- Alone, the rank of a call falls with every act, and the answer foretold stays.
use Prim.Native.Nat.{ℕ, ◌<◌, ◌≤◌}
use mathlib.Core.Path.{◌≡◌, refl, sym, ap, ◌∙◌, subst}
use mathlib.Core.Bool.{Bool, true, false, cond, true≢false}
use native.Mathlib.Omega.{arith}
use borrow.Author.Tests.{eq-eqb}
use Rattle.single_words.specs.declared.State.{State}
use Rattle.single_words.specs.Words.{state, same, pushed_in, closed_in, filled, unlocked, taken_of}
use Rattle.single_places.specs.declared.Single.{Single}
use Rattle.single_places.specs.declared.Place.{Place}
use Rattle.single_places.specs.declared.Place.TheVariants.{Idle, A1, A2, A3, B1, B2, B3, B4, B5, C1, C2, C3, Len1, Empty1, Full1, Close1, IsClosed1}
use Rattle.single_places.specs.Places.{view_of}
use Rattle.single_acts.specs.declared.Acted.{Acted}
use Rattle.single_acts.specs.Acts.{goes, state_to, value_to, exchanged, act_of}
use Rattle.single_demands.specs.Notions.{most_of}
use Rattle.single_demands.specs.Foretold.{foretold_of}
use Rattle.single_proof_demand2.proofs.Words.{word, pushed_of, closed_of, same_is, unlocked_word}
use Rattle.single_proof_demand2.proofs.Effects.{free, hand_of_worker, Expects, won, lost}
use Rattle.single_proof_demand3.specs.Rank.{rank_of}

-- ---- the numbers
pick_most : (b : Bool) (x y n : ℕ) → x ≤ n → y ≤ n → cond b x y ≤ n
pick_most true x y n p q = p
pick_most false x y n p q = q

pick_some : (b : Bool) (x y : ℕ) → 0 < x → 0 < y → 0 < cond b x y
pick_some true x y p q = p
pick_some false x y p q = q

pub rank_most : (s : Single) (p : Place) → rank_of s p ≤ most_of p
rank_most s (Idle a) = omega arith
rank_most s (A1 x) = pick_most (same s.state (state 0)) _ _ _ (omega arith) (omega arith)
rank_most s (A2 x) = omega arith
rank_most s A3 = omega arith
rank_most s (B1 e x) = pick_most (closed_in s.state) _ _ _ (omega arith) (pick_most (same s.state e) _ _ _ (omega arith) (omega arith))
rank_most s (B2 x) = omega arith
rank_most s B3 = omega arith
rank_most s (B4 x) = omega arith
rank_most s (B5 old) = omega arith
rank_most s (C1 e) = pick_most (same s.state e) _ _ _ (omega arith) (pick_most (pushed_in s.state) _ _ _ (omega arith) (omega arith))
rank_most s C2 = omega arith
rank_most s (C3 v) = omega arith
rank_most s Len1 = omega arith
rank_most s Empty1 = omega arith
rank_most s Full1 = omega arith
rank_most s Close1 = omega arith
rank_most s IsClosed1 = omega arith

pub rank_some : (s : Single) (p : Place) → (view_of p).busy ≡ true → 0 < rank_of s p
rank_some s (Idle a) busy = absurd (true≢false (sym busy))
rank_some s (A1 x) busy = pick_some (same s.state (state 0)) _ _ (omega arith) (omega arith)
rank_some s (A2 x) busy = omega arith
rank_some s A3 busy = omega arith
rank_some s (B1 e x) busy = pick_some (closed_in s.state) _ _ (omega arith) (pick_some (same s.state e) _ _ (omega arith) (omega arith))
rank_some s (B2 x) busy = omega arith
rank_some s B3 busy = omega arith
rank_some s (B4 x) busy = omega arith
rank_some s (B5 old) busy = omega arith
rank_some s (C1 e) busy = pick_some (same s.state e) _ _ (omega arith) (pick_some (pushed_in s.state) _ _ (omega arith) (omega arith))
rank_some s C2 busy = omega arith
rank_some s (C3 v) busy = omega arith
rank_some s Len1 busy = omega arith
rank_some s Empty1 busy = omega arith
rank_some s Full1 busy = omega arith
rank_some s Close1 busy = omega arith
rank_some s IsClosed1 busy = omega arith

-- ---- one act
pub record Alone (s : Single) (p : Place) (a : Acted) : Type 0 where
  pub falls : rank_of a.single a.place < rank_of s p
  pub told : foretold_of a.single a.place ≡ foretold_of s p

module _ (s : Single) (l b c : Bool) (is : s.state ≡ word l b c) where
  -- an unlocked word is as it is with LOCKED cleared
  found_again : l ≡ false → same s.state (unlocked s.state) ≡ true
  unfolding same
  found_again f =
      let u : unlocked s.state ≡ s.state = ap unlocked is ∙ unlocked_word l b c ∙ sym (is ∙ ap (λ (x : Bool). word x b c) f) in
      eq-eqb s.state.0 (unlocked s.state).0 (ap (λ (w : State). w.0) (sym u))

  -- an unlocked word that is not 0 and not closed is pushed
  must_be_pushed : l ≡ false → same s.state (state 0) ≡ false → closed_in s.state ≡ false → pushed_in s.state ≡ true
  unfolding same
  must_be_pushed f t d = go (pushed_in s.state) refl
    where
      go : (y : Bool) → pushed_in s.state ≡ y → y ≡ true
      go true q = refl
      go false q =
          let z : s.state.0 ≡ 0 = ap (λ (w : State). w.0) (is ∙ rw (f, sym (pushed_of s.state l b c is) ∙ q, sym (closed_of s.state l b c is) ∙ d)) in
          absurd (true≢false (sym (eq-eqb s.state.0 0 z) ∙ t))

  push_alone : (x : ℕ) → l ≡ false → Alone s (A1 x) (act_of s (A1 x))
  unfolding goes state_to exchanged pushed_in closed_in
  push_alone x f = go (same s.state (state 0)) refl (closed_in s.state) refl
    where
      go : (t : Bool) → same s.state (state 0) ≡ t → (d : Bool) → closed_in s.state ≡ d → Alone s (A1 x) (act_of s (A1 x))
      go true t d k =
          let z = same_is s.state (state 0) t in
          let open_still : closed_in s.state ≡ false = ap closed_in z in
          let empty : pushed_in s.state ≡ false = ap pushed_in z in
          record { falls = rw t (omega arith); told = rw (t, open_still, empty) }
      go false t true k = record { falls = rw (t, k) (omega arith); told = rw (t, k) }
      go false t false k = record { falls = rw (t, k) (omega arith); told = rw (t, k, must_be_pushed f t k) }

  force_alone : (e : State) (x : ℕ) → l ≡ false → Alone s (B1 e x) (act_of s (B1 e x))
  unfolding goes state_to
  force_alone e x f = go (same s.state e) refl (closed_in s.state) refl (pushed_in s.state) refl
    where
      go : (t : Bool) → same s.state e ≡ t → (d : Bool) → closed_in s.state ≡ d → (y : Bool) → pushed_in s.state ≡ y → Alone s (B1 e x) (act_of s (B1 e x))
      go t g true k y u = record { falls = rw k (omega arith); told = rw k }
      go true t false k true u = let q = won s l b c is e filled t in record { falls = rw (q, t, k, u) (omega arith); told = rw (q, t, k, u) refl }
      go true t false k false u = let q = won s l b c is e filled t in record { falls = rw (q, t, k, u) (omega arith); told = rw (q, t, k, u) refl }
      go false t false k y u =
          let again : act_of s (B1 e x) ≡ goes s (B1 (unlocked s.state) x) = rw (lost s l b c is e filled t, k, t) in
          subst (Alone s (B1 e x)) (sym again) (record { falls = rw (k, t, found_again f) (omega arith); told = refl })

  pop_alone : (e : State) → Expects (C1 e) → l ≡ false → Alone s (C1 e) (act_of s (C1 e))
  unfolding goes state_to
  pop_alone e k f = go (same s.state e) refl (pushed_in s.state) refl (closed_in s.state) refl
    where
      go : (t : Bool) → same s.state e ≡ t → (y : Bool) → pushed_in s.state ≡ y → (d : Bool) → closed_in s.state ≡ d → Alone s (C1 e) (act_of s (C1 e))
      go true t y u d g =
          let full : pushed_in s.state ≡ true = pushed_of s.state false true k.0 (same_is s.state e t ∙ k.1) in
          let q = won s l b c is e (taken_of e) t in
          record { falls = rw (q, t) (omega arith); told = rw (q, t, full) refl }
      go false t true u d g =
          let again : act_of s (C1 e) ≡ goes s (C1 (unlocked s.state)) = rw (lost s l b c is e (taken_of e) t, t, u) in
          subst (Alone s (C1 e)) (sym again) (record { falls = rw (t, u, found_again f) (omega arith); told = refl })
      go false t false u true g = record { falls = rw (t, u, g) (omega arith); told = rw (t, u, g) }
      go false t false u false g = record { falls = rw (t, u, g) (omega arith); told = rw (t, u, g) }

  pub act_alone : (p : Place) → (view_of p).busy ≡ true → Expects p → (hand_of_worker p ≡ free → l ≡ false) → Alone s p (act_of s p)
  unfolding goes state_to value_to
  act_alone (Idle a) busy k f = absurd (true≢false (sym busy))
  act_alone (A1 x) busy k f = push_alone x (f refl)
  act_alone (A2 x) busy k f = record { falls = omega arith; told = refl }
  act_alone A3 busy k f = record { falls = omega arith; told = refl }
  act_alone (B1 e x) busy k f = force_alone e x (f refl)
  act_alone (B2 x) busy k f = record { falls = omega arith; told = refl }
  act_alone B3 busy k f = record { falls = omega arith; told = refl }
  act_alone (B4 x) busy k f = record { falls = omega arith; told = refl }
  act_alone (B5 old) busy k f = record { falls = omega arith; told = refl }
  act_alone (C1 e) busy k f = pop_alone e k (f refl)
  act_alone C2 busy k f = record { falls = omega arith; told = refl }
  act_alone (C3 v) busy k f = record { falls = omega arith; told = refl }
  act_alone Len1 busy k f = record { falls = omega arith; told = refl }
  act_alone Empty1 busy k f = record { falls = omega arith; told = refl }
  act_alone Full1 busy k f = record { falls = omega arith; told = refl }
  act_alone Close1 busy k f = record { falls = omega arith; told = refl }
  act_alone IsClosed1 busy k f = record { falls = omega arith; told = refl }
