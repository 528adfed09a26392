-- Whether another worker has a slot in hand is decided by looking at each.
use mathlib.Core.Path.{◌≡◌, refl, sym, ap, ◌∙◌, subst}
use mathlib.Core.Logic.{◌≢◌}
use mathlib.Core.Bool.{Bool, true, false, true≢false}
use Prim.Native.Nat.{ℕ, zero, suc, ◌%◌, ◌<◌}
use native.Mathlib.Omega.{arith}
use native.Mathlib.Decide.{ℕ_discrete}
use Rattle.bounded_machine.proofs.Kept.{few_workers}
use Rattle.bounded_words.specs.declared.Stamp.{Stamp}
use Rattle.bounded_words.specs.declared.Fixed.{Fixed}
use Rattle.bounded_words.specs.declared.Width.{Width}
use Rattle.bounded_words.specs.Words.{index_of}
use Rattle.bounded_places.specs.declared.Place.{Place}
use Rattle.bounded_machine.specs.declared.Machine.{Machine}
use Rattle.bounded_machine.specs.Machine.{fixed_on}
use Rattle.bounded_demands.specs.Notions.{InHand, hand_p4, hand_p5, hand_f7, hand_f8, hand_f9, hand_o4, hand_o5, OtherHand, OtherHandAt}
use Rattle.bounded_proof_invariant.proofs.Ring.{Shared}
use Rattle.bounded_proof_each_act.proofs.Sight.{Look, Calm, Sees, Laps, Tails, Counts, look, grips, HandAt}
use Rattle.bounded_proof_demand2.proofs.Turns.{stood}
use Rattle.bounded_proof_demand2.proofs.Pictured.{Base, Pictured}
use Rattle.bounded_proof_demand3.proofs.Found.{hand_of}
use Rattle.bounded_proof_demand3.proofs.Solo.{team}
use Rattle.bounded_proof_demand3.proofs.Hand.{hand_busy}

abbrev gripped : Look → Bool
gripped (Calm a) = false
gripped (Sees t v) = grips (v 0)
gripped (Laps t v) = grips (v 0)
gripped (Tails t) = false
gripped (Counts t h) = false

gripped_at : (mark : ℕ) (l : Look) → gripped l ≡ true → (i : ℕ) × HandAt mark l i
gripped_at mark (Calm a) e = absurd (true≢false (sym e))
gripped_at mark (Sees t v) e = (t.0 % mark, (e, refl))
gripped_at mark (Laps t v) e = (t.0 % mark, (e, refl))
gripped_at mark (Tails t) e = absurd (true≢false (sym e))
gripped_at mark (Counts t h) e = absurd (true≢false (sym e))

hand_gripped : (c : ℕ) (p : Place) (t : Stamp) → InHand p t → gripped (look c p) ≡ true
hand_gripped c p t hand_p4 = refl
hand_gripped c p t hand_p5 = refl
hand_gripped c p t hand_f7 = refl
hand_gripped c p t hand_f8 = refl
hand_gripped c p t hand_f9 = refl
hand_gripped c p t hand_o4 = refl
hand_gripped c p t hand_o5 = refl

hand_dec : (p : Place) → Dec ((t : Stamp) × InHand p t)
hand_dec p = go (gripped (look 0 p)) refl
  where
    go : (b : Bool) → gripped (look 0 p) ≡ b → Dec ((t : Stamp) × InHand p t)
    go true e = let g = gripped_at 0 (look 0 p) e in let h = hand_of 0 0 g.0 p g.1 in yes (h.0, h.1)
    go false e = no (λ h. true≢false (sym (hand_gripped 0 p h.0 h.1) ∙ e))

-- the slot in hand is one
hand_one : (p : Place) (t u : Stamp) → InHand p t → InHand p u → t ≡ u
hand_one p t u hand_p4 hand_p4 = refl
hand_one p t u hand_p5 hand_p5 = refl
hand_one p t u hand_f7 hand_f7 = refl
hand_one p t u hand_f8 hand_f8 = refl
hand_one p t u hand_f9 hand_f9 = refl
hand_one p t u hand_o4 hand_o4 = refl
hand_one p t u hand_o5 hand_o5 = refl

-- in hand with the slot of that index
abbrev Grasps : Fixed → ℕ → Place → Type 0
Grasps f i p = (t : Stamp) × InHand p t × (index_of f t ≡ i)

grasps_dec : (f : Fixed) (i : ℕ) (p : Place) → Dec (Grasps f i p)
grasps_dec f i p = go (hand_dec p)
  where
    at : (t : Stamp) → InHand p t → Dec (index_of f t ≡ i) → Dec (Grasps f i p)
    at t h (yes e) = yes (t, h, e)
    at t h (no ne) = no (λ g. ne (ap (index_of f) (hand_one p t g.0 h g.1) ∙ g.2))

    go : Dec ((t : Stamp) × InHand p t) → Dec (Grasps f i p)
    go (yes h) = at h.0 h.1 (ℕ_discrete (index_of f h.0) i)
    go (no z) = no (λ g. z (g.0, g.1))

-- another worker of which this is so, if it is decided of each place
module _ (m : Machine) (w : ℕ) (So : Place → Type 0) (decided : (p : Place) → Dec (So p)) where
  -- among the first so many
  abbrev Among : ℕ → Type 0
  Among k = (v : ℕ) × (v < k) × (v ≢ w) × So (stood m v)

  look_through : (k : ℕ) → Dec (Among k)
  look_through zero = no (λ o. omega (arith, o.1))
  look_through (suc k) = go (look_through k) (ℕ_discrete k w) (decided (stood m k))
    where
      go : Dec (Among k) → Dec (k ≡ w) → Dec (So (stood m k)) → Dec (Among (suc k))
      go (yes o) d h = yes (o.0, omega (arith, o.1), o.2, o.3)
      go (no z) (no ne) (yes h) = yes (k, omega arith, ne, h)
      go (no z) (yes e) h = no (λ o. least o (ℕ_discrete o.0 k) (λ q. o.2 (q ∙ e)))
        where
          least : (o : Among (suc k)) → Dec (o.0 ≡ k) → (o.0 ≡ k → ⊥) → ⊥
          least o (yes q) f = f q
          least o (no q) f = z (o.0, omega (arith, o.1), o.2, o.3)
      go (no z) (no ne) (no h) = no (λ o. least o (ℕ_discrete o.0 k))
        where
          least : (o : Among (suc k)) → Dec (o.0 ≡ k) → ⊥
          least o (yes q) = h (subst (λ (y : ℕ). So (stood m y)) q o.3)
          least o (no q) = z (o.0, omega (arith, o.1), o.2, o.3)

module _ (bits : Width) (c n workers : ℕ) (base : Base bits c n workers) (s : Shared) (m : Machine) (pic : Pictured c n workers s m) where
  -- a worker in hand is one of the machine's
  counted : (v : ℕ) (t : Stamp) → InHand (stood m v) t → v < pic.records
  counted v t h = omega (arith, team bits c n workers base s m pic v (hand_busy (stood m v) t h), few_workers m pic.unbroken)

  pub other_hand : (w : ℕ) → Dec (OtherHand m w)
  other_hand w = go (look_through m w (λ (p : Place). (t : Stamp) × InHand p t) hand_dec pic.records)
    where
      go : Dec (Among m w (λ (p : Place). (t : Stamp) × InHand p t) hand_dec pic.records) → Dec (OtherHand m w)
      go (yes o) = yes (o.0, o.2, o.3.0, o.3.1)
      go (no z) = no (λ o. z (o.0, counted o.0 o.2 o.3, o.1, (o.2, o.3)))

  pub other_hand_at : (w i : ℕ) → Dec (OtherHandAt m w i)
  other_hand_at w i = go (look_through m w (Grasps (fixed_on m.ring) i) (grasps_dec (fixed_on m.ring) i) pic.records)
    where
      go : Dec (Among m w (Grasps (fixed_on m.ring) i) (grasps_dec (fixed_on m.ring) i) pic.records) → Dec (OtherHandAt m w i)
      go (yes o) = yes (o.0, o.2, o.3.0, o.3.1, o.3.2)
      go (no z) = no (λ o. z (o.0, counted o.0 o.2 o.3, o.1, (o.2, o.3, o.4)))
