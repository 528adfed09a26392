-- No slot is in two hands, and what is read was written for that claim.
use mathlib.Core.Path.{◌≡◌, refl, sym, ap, ◌∙◌, subst}
use mathlib.Core.List.{List}
use Prim.Native.Nat.{ℕ, ◌%◌}
use native.Mathlib.Omega.{arith}
use native.Mathlib.Nat.{mod-lt}
use lib.ListN.{get_or}
use Rattle.bounded_words.specs.declared.Stamp.{Stamp}
use Rattle.bounded_words.specs.declared.Fixed.{Fixed}
use Rattle.bounded_words.specs.declared.Width.{Width}
use Rattle.bounded_words.specs.Words.{mark_of, index_of}
use Rattle.bounded_places.specs.declared.Slot.{Slot}
use Rattle.bounded_places.specs.declared.Place.{Place}
use Rattle.bounded_machine.specs.declared.Machine.{Machine}
use Rattle.bounded_machine.specs.declared.Event.{Event}
use Rattle.bounded_machine.specs.Machine.{slot, fixed_on}
use Rattle.bounded_demands.specs.Notions.{InHand, hand_p4, hand_p5, hand_f7, hand_f8, hand_f9, hand_o4, hand_o5, Reads, read_o4, read_f8, value_at, takers_of, LatestIn, ItemIn, WrittenIn}
use Rattle.bounded_proof_invariant.proofs.Ring.{Stage, Fill, Filled, Take, Grab, Swap, Swapped, Cell, Hand, Mine, mine_one, Shared, Latest, Valued, Inv, CellOk}
use Rattle.bounded_proof_each_act.proofs.Stamps.{Ground, word_slot, lap_slot}
use Rattle.bounded_proof_each_act.proofs.Sight.{Age, look, Stands}
use Rattle.bounded_proof_demand2.proofs.Turns.{stood}
use Rattle.bounded_proof_demand2.proofs.Lists.{latest_in}
use Rattle.bounded_proof_demand2.proofs.Pictured.{Base}
use Rattle.bounded_proof_demand2.proofs.Reached.{Reached}

module _ (bits : Width) (c n : ℕ) (g : Ground bits c (mark_of c) n) where
  mine_at : (s : Shared) (w i k : ℕ) (st : Stage) → i ≡ k % c → s.cell (k % c) ≡ Hand st k w → Mine w (s.cell i)
  mine_at s w i k st e q = subst (Mine w) (sym (ap s.cell e ∙ q)) refl

  -- the slot of a worker in hand is its own
  hand_mine : (s : Shared) (w : ℕ) (a : Age) (p : Place) (t : Stamp) → InHand p t → Stands c (mark_of c) n s w a (look c p) → Mine w (s.cell (t.0 % mark_of c))
  hand_mine s w a p t hand_p4 o = mine_at s w _ o.0 Fill (word_slot bits c (mark_of c) n g t o.0 o.1) o.2.0.0
  hand_mine s w a p t hand_p5 o = mine_at s w _ o.0 Filled (word_slot bits c (mark_of c) n g t o.0 o.1) o.2.0
  hand_mine s w a p t hand_f7 o = mine_at s w _ o.0 Grab (lap_slot bits c (mark_of c) n g t o.0 o.1) o.2.0
  hand_mine s w a p t hand_f8 o = mine_at s w _ o.0 Swap (lap_slot bits c (mark_of c) n g t o.0 o.1) o.2.0.0
  hand_mine s w a p t hand_f9 o = mine_at s w _ o.0 Swapped (lap_slot bits c (mark_of c) n g t o.0 o.1) o.2.0.0
  hand_mine s w a p t hand_o4 o = mine_at s w _ o.0 Take (word_slot bits c (mark_of c) n g t o.0 o.1) o.2.0
  hand_mine s w a p t hand_o5 o = mine_at s w _ o.0 Take (word_slot bits c (mark_of c) n g t o.0 o.1) o.2.0.0

  -- what a reader's slot holds
  record Readable (s : Shared) (w : ℕ) (t : Stamp) : Type 0 where
    claim : ℕ
    here : t.0 % mark_of c ≡ claim % c
    latest : Latest s.taker s.head w claim
    valued : Valued c s (claim % c) claim

  cell_ok : (s : Shared) → Inv c s → (k : ℕ) (x : Cell) → s.cell (k % c) ≡ x → CellOk c s (k % c) x
  cell_ok s inv k x e = rw e at (inv.cells (k % c) (mod-lt k g.laws.some))

  readable : (s : Shared) (w : ℕ) (a : Age) (p : Place) (t : Stamp) → Inv c s → Reads p t → Stands c (mark_of c) n s w a (look c p) → Readable s w t
  readable s w a p t inv read_o4 o =
      record {
        claim = o.0;
        here = word_slot bits c (mark_of c) n g t o.0 o.1;
        latest = o.2.1;
        valued = (cell_ok s inv o.0 (Hand Take o.0 w) o.2.0).1.2;
      }
  readable s w a p t inv read_f8 o =
      record {
        claim = o.0;
        here = lap_slot bits c (mark_of c) n g t o.0 o.1;
        latest = o.2.0.1.0;
        valued = (cell_ok s inv o.0 (Hand Swap o.0 w) o.2.0.0).1.2;
      }

module _ (bits : Width) (c n workers : ℕ) (base : Base bits c n workers) (m : Machine) (h : List Event) (r : Reached c n workers m h) where
  index_at : (t : Stamp) → index_of (fixed_on m.ring) t ≡ t.0 % mark_of c
  index_at t = ap (λ (f : Fixed). index_of f t) r.pictured.rule

  pub one_hand : (v w : ℕ) (t u : Stamp) → InHand (stood m v) t → InHand (stood m w) u → index_of (fixed_on m.ring) t ≡ index_of (fixed_on m.ring) u → v ≡ w
  one_hand v w t u a b e =
      let s = r.ring in
      let q : t.0 % mark_of c ≡ u.0 % mark_of c = sym (index_at t) ∙ e ∙ index_at u in
      let x = hand_mine bits c n base.ground s v (r.pictured.ages v) (stood m v) t a (r.pictured.stands v) in
      let y = hand_mine bits c n base.ground s w (r.pictured.ages w) (stood m w) u b (r.pictured.stands w) in
      mine_one v w (s.cell (u.0 % mark_of c)) (rw q at x) y

  pub reads_written : (w : ℕ) (t : Stamp) → Reads (stood m w) t
      → (k : ℕ) × LatestIn (takers_of h) w k × ItemIn h k (value_at m t) × WrittenIn h k (value_at m t)
  reads_written w t a =
      let s = r.ring in
      let d = readable bits c n base.ground s w (r.pictured.ages w) (stood m w) t r.pictured.inv a (r.pictured.stands w) in
      let k = d.claim in
      let l = r.logged in
      let i : index_of (fixed_on m.ring) t ≡ k % c = index_at t ∙ d.here in
      let v : value_at m t ≡ s.item k =
      ap (λ (z : ℕ). (get_or m.ring.slots z (slot 0 0)).value) i
      ∙ ap (λ (z : Slot). z.value) (r.pictured.slots (k % c) (mod-lt k base.ground.laws.some))
      ∙ d.valued.0 in
      let o = l.written k d.valued.1 in (
        k,
        latest_in (takers_of h) s.head s.taker w k l.lists.takers_are d.latest,
        record { made = omega (arith, l.lists.items_are.long, o.0); is = l.lists.items_are.at k o.0 ∙ sym v },
        subst (λ (z : ℕ). WrittenIn h k z) (sym v) o.1,
      )
