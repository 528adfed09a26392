-- Answers are true of the words at the act that gave them.
use mathlib.Core.Path.{◌≡◌, refl, sym, ap, ◌∙◌, subst}
use mathlib.Core.Bool.{Bool, true, false}
use mathlib.Core.List.{List}
use Prim.Native.Nat.{ℕ, ◌+◌, ◌*◌, ◌<◌}
use native.Mathlib.Omega.{arith}
use lib.ListN.{get_or}
use borrow.Author.Tests.{eqb-true}
use Rattle.queue_entries.specs.Limits.{meter_most}
use Rattle.queue_entries.specs.declared.Order.TheVariants.{Act}
use Rattle.queue_entries.specs.declared.Entry.TheVariants.{Asks}
use Rattle.bounded_words.specs.declared.Fixed.{Fixed}
use Rattle.bounded_words.specs.declared.Width.{Width}
use Rattle.bounded_words.specs.declared.Stamp.{Stamp}
use Rattle.bounded_words.specs.Words.{mark_of, unmarked_of, same, lap_behind}
use Rattle.bounded_places.specs.declared.Ends.{Ends}
use Rattle.bounded_places.specs.declared.Answer.{Answer}
use Rattle.bounded_places.specs.declared.Answer.TheVariants.{Yes}
use Rattle.bounded_places.specs.declared.Place.{Place}
use Rattle.bounded_places.specs.declared.Place.TheVariants.{Idle, Empty2, Full2}
use Rattle.bounded_places.specs.Places.{view_of}
use Rattle.bounded_places.specs.declared.Slot.{Slot}
use Rattle.bounded_acts.specs.Acts.{act_of, goes, yes_no}
use Rattle.bounded_machine.specs.declared.Machine.{Machine}
use Rattle.bounded_machine.specs.declared.Did.{Did}
use Rattle.bounded_machine.specs.declared.Event.{Event}
use Rattle.bounded_machine.specs.Machine.{slot, accepted, fixed_on, ends_on}
use Rattle.bounded_machine.specs.Turn.{spot_of, turn, turn_of_by, acted}
use Rattle.bounded_demands.specs.Notions.{with_records, Acts, Truth, holding_at, holds, InWidestWindow}
use Rattle.bounded_proof_invariant.proofs.Width.{Near, turn_long}
use Rattle.bounded_proof_each_act.proofs.Stamps.{fixed, W, unmarked_tail, same_is, behind_is}
use Rattle.bounded_proof_each_act.proofs.Sight.{look, answer_in, ends_of_ring, Stands, Recent}
use Rattle.bounded_proof_each_act.proofs.Steps.{truth}
use Rattle.bounded_proof_demand2.proofs.Turns.{Turned, did, turned, stood}
use Rattle.bounded_proof_demand2.proofs.Pictured.{Base, stepped, result, acted_stood}
use Rattle.bounded_proof_demand2.proofs.Reached.{Reached, young_in}

-- An accepted act, taken apart.
pub record Done (bits : Width) (m : Machine) (w : ℕ) (lose : Bool) (next : Machine) : Type 0 where
  pub team : w < m.count
  pub busy : (view_of (stood m w)).busy ≡ true
  pub early : m.meter < meter_most
  pub is : next ≡ acted bits m w (stood m w) lose

done_by : (bits : Width) (m : Machine) (w : ℕ) (lose : Bool) (next : Machine) (acts : List Event) → Turned bits m (Asks w (Act lose)) next acts → Done bits m w lose next
done_by bits m w lose next acts (did v was l b e) = record { team = l; busy = b; early = e; is = refl }

pub acts_done : {records : ℕ} (bits : Width) (m : Machine) (w : ℕ) (next : Machine) (a : Acts (with_records records bits) m w next) → Done bits m w a.lose next
unfolding turn_of_by accepted
acts_done bits m w next a =
    let q : turn bits m (Asks w (Act a.lose)) ≡ accepted next = ap (turn bits m) (sym a.asks) ∙ a.done in
    let t = turned bits m (Asks w (Act a.lose)) (ap (λ (d : Did). d.refusal) q) in
    let d = done_by bits m w a.lose _ _ t in
    record { team = d.team; busy = d.busy; early = d.early; is = sym (ap (λ (z : Did). z.machine) q) ∙ d.is }

module _ (bits : Width) (c n workers : ℕ) (base : Base bits c n workers) (m : Machine) (h : List Event) (r : Reached c n workers m h) where
  -- where the act of a worker at p leads
  pub leads : {records : ℕ} (w : ℕ) (next : Machine) (p : Place) → Acts (with_records records bits) m w next → stood m w ≡ p
      → (z : Slot) × (lose : Bool) × (stood next w ≡ (act_of bits (fixed c (mark_of c) m.ring.edition) (ends_of_ring c (mark_of c) n r.ring r.pictured.shut) z p lose).place)
  leads w next p act e =
      let d = acts_done bits m w next act in
      let pic = r.pictured in
      let z : Slot = get_or m.ring.slots (spot_of (fixed_on m.ring) (view_of (stood m w)).held) (slot 0 0) in (
        z,
        act.lose,
        ap (λ (x : Machine). stood x w) d.is ∙ acted_stood bits c n workers base r.ring m pic w d.team act.lose d.busy
            ∙ ap (λ (f : Fixed). (act_of bits f (ends_on m.ring) z (stood m w) act.lose).place) pic.rule
            ∙ ap (λ (x : Ends). (act_of bits (fixed c (mark_of c) m.ring.edition) x z (stood m w) act.lose).place) pic.ends
            ∙ ap (λ (x : Place). (act_of bits (fixed c (mark_of c) m.ring.edition) (ends_of_ring c (mark_of c) n r.ring pic.shut) z x act.lose).place) e,
      )

  said_yes : (b : Bool) → Idle (yes_no b) ≡ Idle Yes → b ≡ true
  said_yes true e = refl
  said_yes false e = absurd (let q : ◌≡◌ {A = ℕ} 0 1 = cc in omega arith)

  stood_at : (w : ℕ) (p : Place) → stood m w ≡ p → Stands c (mark_of c) n r.ring w (r.pictured.ages w) (look c p)
  stood_at w p e = subst (λ (z : Place). Stands c (mark_of c) n r.ring w (r.pictured.ages w) (look c z)) e (r.pictured.stands w)

  abbrev E : Ends
  E = ends_of_ring c (mark_of c) n r.ring r.pictured.shut

  abbrev F : Fixed
  F = fixed c (mark_of c) m.ring.edition

  unmarked_is : unmarked_of F E.tail ≡ W c (mark_of c) n r.ring.tail
  unmarked_is = unmarked_tail bits c (mark_of c) n base.ground m.ring.edition r.ring.tail r.pictured.shut

  pub true_answers : {records : ℕ} (w : ℕ) → Recent c (mark_of c) n r.ring (r.pictured.ages w) (look c (stood m w)) → (next : Machine) (a : Answer)
      → Acts (with_records records bits) m w next → stood next w ≡ Idle a → Truth bits (fixed_on m.ring) (ends_on m.ring) a
  true_answers w young next a act e =
      let d = acts_done bits m w next act in
      let pic = r.pictured in
      let st = stepped bits c n workers base r.ring m pic w d.team act.lose d.busy young in
      let p : (result bits c n workers base r.ring m pic w d.team act.lose d.busy).place ≡ Idle a =
      sym (acted_stood bits c n workers base r.ring m pic w d.team act.lose d.busy) ∙ ap (λ (z : Machine). stood z w) (sym d.is) ∙ e in
      let t : Truth bits (fixed c (mark_of c) m.ring.edition) (ends_of_ring c (mark_of c) n r.ring pic.shut) a =
      subst (λ (z : Place). Truth bits (fixed c (mark_of c) m.ring.edition) (ends_of_ring c (mark_of c) n r.ring pic.shut) (answer_in (look c z))) p
      (truth bits c (mark_of c) n m.ring.edition r.ring pic.shut
      (answer_in (look c (result bits c n workers base r.ring m pic w d.team act.lose d.busy).place)) st.says) in
      subst (λ (f : Fixed). Truth bits f (ends_on m.ring) a) (sym pic.rule) (subst (λ (z : Ends). Truth bits (fixed c (mark_of c) m.ring.edition) z a) (sym pic.ends) t)

  -- in the window
  module _ (window : InWidestWindow bits m h) where
    empty_yes_lem : (w : ℕ) (t : Stamp) → stood m w ≡ Empty2 t → same (unmarked_of F E.tail) t ≡ true → unmarked_of F E.tail ≡ E.head
    empty_yes_lem w t at e =
        let o = stood_at w (Empty2 t) at in
        let inv = r.pictured.inv in
        let z : same (W c (mark_of c) n r.ring.tail) (W c (mark_of c) n o.0) ≡ true =
        ap (λ (x : Stamp). same x (W c (mark_of c) n o.0)) (sym unmarked_is) ∙ ap (same (unmarked_of F E.tail)) (sym o.1) ∙ e in
        let young = young_in bits c n workers base m h r window w (ap (λ (p : Place). holds (holding_at p)) at) in
        let near : Near (n * c) r.ring.tail o.0 = omega (arith, young, o.3, o.2, inv.low, inv.high) in
        let q : r.ring.tail ≡ o.0 = eqb-true _ _ (sym (same_is bits c (mark_of c) n base.ground r.ring.tail o.0 near) ∙ z) in
        let even : r.ring.tail ≡ r.ring.head = omega (arith, o.2, inv.low) in
        unmarked_is ∙ ap (W c (mark_of c) n) even

    full_yes_lem : (w : ℕ) (t : Stamp) → stood m w ≡ Full2 t → lap_behind bits F E.head (unmarked_of F t) ≡ true
        → lap_behind bits F E.head (unmarked_of F E.tail) ≡ true
    full_yes_lem w t at e =
        let o = stood_at w (Full2 t) at in
        let inv = r.pictured.inv in
        let u : unmarked_of F t ≡ W c (mark_of c) n o.0 = ap (unmarked_of F) o.2 ∙ unmarked_tail bits c (mark_of c) n base.ground m.ring.edition o.0 o.1 in
        let z : lap_behind bits F (W c (mark_of c) n r.ring.head) (W c (mark_of c) n o.0) ≡ true = ap (lap_behind bits F E.head) (sym u) ∙ e in
        let young = young_in bits c n workers base m h r window w (ap (λ (p : Place). holds (holding_at p)) at) in
        let near : Near (n * c) (r.ring.head + c) o.0 = omega (arith, young, o.4, o.3, inv.low, inv.high, turn_long c (mark_of c) n base.ground.laws) in
        let q : r.ring.head + c ≡ o.0 = eqb-true _ _ (sym (behind_is bits c (mark_of c) n base.ground m.ring.edition r.ring.head o.0 near) ∙ z) in
        let even : r.ring.tail ≡ o.0 = omega (arith, o.3, inv.high) in
        ap (lap_behind bits F E.head) (unmarked_is ∙ ap (W c (mark_of c) n) even) ∙ z

    pub true_empty : {records : ℕ} (w : ℕ) (next : Machine) (t : Stamp) → stood m w ≡ Empty2 t → Acts (with_records records bits) m w next → stood next w ≡ Idle Yes
        → unmarked_of (fixed_on m.ring) m.ring.tail ≡ m.ring.head
    unfolding goes
    true_empty w next t at act e =
        let l = leads w next (Empty2 t) act at in
        let y = empty_yes_lem w t at (said_yes (same (unmarked_of F E.tail) t) (sym l.2 ∙ e)) in
        subst (λ (f : Fixed). unmarked_of f m.ring.tail ≡ m.ring.head) (sym r.pictured.rule)
        (subst (λ (x : Ends). unmarked_of F x.tail ≡ x.head) (sym r.pictured.ends) y)

    pub true_full : {records : ℕ} (w : ℕ) (next : Machine) (t : Stamp) → stood m w ≡ Full2 t → Acts (with_records records bits) m w next → stood next w ≡ Idle Yes
        → lap_behind bits (fixed_on m.ring) m.ring.head (unmarked_of (fixed_on m.ring) m.ring.tail) ≡ true
    unfolding goes
    true_full w next t at act e =
        let l = leads w next (Full2 t) act at in
        let y = full_yes_lem w t at (said_yes (lap_behind bits F E.head (unmarked_of F t)) (sym l.2 ∙ e)) in
        subst (λ (f : Fixed). lap_behind bits f m.ring.head (unmarked_of f m.ring.tail) ≡ true) (sym r.pictured.rule)
        (subst (λ (x : Ends). lap_behind bits F x.head (unmarked_of F x.tail) ≡ true) (sym r.pictured.ends) y)
