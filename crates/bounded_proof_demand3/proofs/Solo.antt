-- A call that alone is scheduled: each act is accepted, lowers the rank and leaves the answer foretold; so it ends.
use mathlib.Core.Path.{◌≡◌, refl, sym, ap, ◌∙◌, subst}
use mathlib.Core.Logic.{◌≢◌}
use mathlib.Core.Bool.{Bool, true, false, cond}
use mathlib.Core.List.{List, [], ◌∷◌, ◌++◌, append_assoc, append-nil}
use Prim.Native.Nat.{ℕ, zero, suc, ◌+◌, ◌*◌, ◌/◌, ◌%◌, ◌≤◌, ◌<◌}
use native.Mathlib.Omega.{arith}
use native.Mathlib.Decide.{ℕ_discrete}
use lib.Dec.{ltb, eqb}
use lib.ListN.{length, get_or, set}
use lib.Seq.{get_or-set_same, get_or-set_other}
use borrow.Author.Tests.{lt-ltb}
use Rattle.queue_entries.specs.Schedules.{run_by, history_by}
use Rattle.queue_entries.specs.Limits.{meter_most}
use Rattle.queue_entries.specs.declared.Order.TheVariants.{Act}
use Rattle.queue_entries.specs.declared.Entry.TheVariants.{Asks}
use Rattle.queue_entries.specs.Entries.{stray_of, order_of, entry_of}
use Rattle.bounded_words.specs.declared.Fixed.{Fixed}
use Rattle.bounded_words.specs.declared.Width.{Width}
use Rattle.bounded_words.specs.Words.{mark_of, index_of}
use Rattle.bounded_places.specs.declared.Slot.{Slot}
use Rattle.bounded_places.specs.declared.Ends.{Ends}
use Rattle.bounded_places.specs.declared.Answer.{Answer}
use Rattle.bounded_places.specs.declared.Place.{Place}
use Rattle.bounded_places.specs.declared.Place.TheVariants.{Idle}
use Rattle.bounded_places.specs.declared.Worker.{Worker}
use Rattle.bounded_places.specs.Places.{view_of}
use Rattle.bounded_acts.specs.declared.Acted.{Acted}
use Rattle.bounded_acts.specs.Acts.{act_of}
use Rattle.bounded_machine.specs.declared.Machine.{Machine}
use Rattle.bounded_machine.specs.declared.Event.{Event}
use Rattle.bounded_machine.specs.declared.Ran.{Ran}
use Rattle.bounded_machine.specs.Machine.{slot, place_of, idler, refused, accepted, fixed_on, ends_on}
use Rattle.bounded_machine.specs.Turn.{verdict_of, carried, turn_at, turn_of_by, spot_of, stored, acted, acted_by}
use Rattle.bounded_machine.specs.Run.{ran, run_at}
use Rattle.bounded_machine.specs.History.{history_at}
use Rattle.bounded_demands.specs.Notions.{acts, InHand, HandsOut, Truth, CallClaim, ItemIn, OtherHand, value_at}
use Rattle.bounded_demands.specs.Foretold.{foretold_of, own_value, foretold}
use Rattle.bounded_proof_invariant.proofs.Ring.{Shared}
use Rattle.bounded_proof_invariant.proofs.Effects.{Loose}
use Rattle.bounded_proof_each_act.proofs.Stamps.{fixed}
use Rattle.bounded_proof_each_act.proofs.Sight.{Age, look, HandAt, ends_of_ring, slot_of_ring, Recent}
use Rattle.bounded_proof_demand2.proofs.Turns.{did, stood, event_of}
use Rattle.bounded_proof_demand2.proofs.Pictured as pictured
use Rattle.bounded_proof_demand2.proofs.Pictured.{Base, Pictured, busy_counted, spot_small, acted_stood, idle_is}
use Rattle.bounded_proof_demand2.proofs.Reached.{Reached, entered, grown, own_next}
use Rattle.bounded_proof_demand2.proofs.Answers.{true_answers}
use Rattle.bounded_proof_demand3.specs.Rank.{rank_of}
use Rattle.bounded_proof_demand3.proofs.Falls.{Finds, loads_of, falls}
use Rattle.bounded_proof_demand3.proofs.Found.{hand_of, loose_of, finds}
use Rattle.bounded_proof_demand3.proofs.Fresh.{leads_on, stays_recent}
use Rattle.bounded_proof_demand3.proofs.Leaves.{Leaves, leaves}

-- code 8 of worker w
pub act_entry : (w : ℕ) → entry_of (16 * w + 8) 0 ≡ Asks w (Act false)
unfolding entry_of stray_of order_of
act_entry w =
    let low : (16 * w + 8) % 16 ≡ 8 = omega arith in
    let top : (16 * w + 8) / 16 ≡ w = omega arith in
    rw (low, top)

abbrev pub own_slot : Machine → Place → Slot
own_slot m p = get_or m.ring.slots (spot_of (fixed_on m.ring) (view_of p).held) (slot 0 0)

abbrev pub rank : Width → Machine → ℕ → ℕ
rank bits m w = rank_of bits (fixed_on m.ring) (ends_on m.ring) (stood m w)

-- another worker stands where it stood
pub acted_else : (bits : Width) (m : Machine) (w v : ℕ) (p : Place) (lose : Bool) → v ≢ w → stood (acted bits m w p lose) v ≡ stood m v
unfolding acted_by stored
acted_else bits m w v p lose ne = ap (λ (z : Worker). z.place) (get_or-set_other m.workers w v _ idler ne)

pub acted_meter : (bits : Width) (m : Machine) (w : ℕ) (p : Place) (lose : Bool) → (acted bits m w p lose).meter ≡ m.meter + 1
unfolding acted_by stored
acted_meter bits m w p lose = refl

pub acted_fixed : (bits : Width) (m : Machine) (w : ℕ) (p : Place) (lose : Bool) → fixed_on (acted bits m w p lose).ring ≡ fixed_on m.ring
unfolding acted_by stored
acted_fixed bits m w p lose = refl

module _ (bits : Width) (c n workers : ℕ) (base : Base bits c n workers) (s : Shared) (m : Machine) (pic : Pictured c n workers s m) (w : ℕ) (busy : (view_of (stood m w)).busy ≡ true) where
  pub team : w < m.count
  team = busy_counted c n workers s m pic w busy

  pub act_turn : m.meter < meter_most → turn_at bits m (16 * w + 8) 0 ≡ accepted (acted bits m w (stood m w) false)
  unfolding turn_of_by
  act_turn early = rw (act_entry w, lt-ltb w m.count team, busy, lt-ltb m.meter meter_most early)

  abbrev p : Place
  p = stood m w

  abbrev i : ℕ
  i = spot_of (fixed_on m.ring) (view_of p).held

  abbrev result : Acted
  result = act_of bits (fixed_on m.ring) (ends_on m.ring) (own_slot m p) p false

  small : i < c
  small = spot_small bits c n workers base s m pic w team false busy

  module _ (free : OtherHand m w → ⊥) where
    -- a slot that is not in the worker's own hand is in none
    pub loose : (j : ℕ) → j < c → (HandAt (mark_of c) (look c p) j → ⊥) → Loose (s.cell j)
    loose j l mine = loose_of (s.cell j) (λ v z. go v (ℕ_discrete v w) (pic.back j l v z))
      where
        go : (v : ℕ) → Dec (v ≡ w) → HandAt (mark_of c) (look c (stood m v)) j → ⊥
        go v (yes e) h = mine (rw e at h)
        go v (no ne) h = let t = hand_of c (mark_of c) j (stood m v) h in free (v, ne, t.0, t.1)

    abbrev next : Machine
    next = acted bits m w p false

    next_stood : stood next w ≡ result.place
    next_stood = acted_stood bits c n workers base s m pic w team false busy

    next_free : OtherHand next w → ⊥
    next_free o = free (o.0, o.1, o.2, subst (λ (q : Place). InHand q o.2) (acted_else bits m w o.0 p false o.1) o.3)

    -- whose word is not too old
    module _ (young : Recent c (mark_of c) n s (pic.ages w) (look c p)) where
      found : Finds bits (fixed_on m.ring) (ends_on m.ring) (own_slot m p) p
      found =
          let at : i ≡ spot_of (fixed c (mark_of c) m.ring.edition) (view_of p).held = ap (λ (f : Fixed). spot_of f (view_of p).held) pic.rule in
          let d : Finds bits (fixed c (mark_of c) m.ring.edition) (ends_of_ring c (mark_of c) n s pic.shut) (slot_of_ring c (mark_of c) n (s.cell i) (s.val i)) p =
          finds bits c (mark_of c) n m.ring.edition base.ground s pic.inv w i (pic.ages w) pic.shut p small at (pic.stands w) young (loose i small) in
          subst (λ (f : Fixed). Finds bits f (ends_on m.ring) (own_slot m p) p) (sym pic.rule)
          (subst (λ (e : Ends). Finds bits (fixed c (mark_of c) m.ring.edition) e (own_slot m p) p) (sym pic.ends)
          (subst (λ (z : Slot). Finds bits (fixed c (mark_of c) m.ring.edition) (ends_of_ring c (mark_of c) n s pic.shut) z p) (sym (pic.slots i small)) d))

      pub rank_falls : rank bits next w < rank bits m w
      unfolding acted_by stored
      rank_falls =
          subst (λ (q : Place). rank_of bits (fixed_on m.ring) result.ends q < rank bits m w) (sym next_stood)
          (falls 0 bits (fixed_on m.ring) (ends_on m.ring) (own_slot m p) p busy
          (loads_of bits (fixed_on m.ring) (ends_on m.ring) (own_slot m p) p found))

      long : i < length m.ring.slots
      long = omega (arith, small, base.few, pic.slots_long)

      slot_there : (j : ℕ) → result.slot ≡ own_slot m p → Dec (j ≡ i) → get_or (set m.ring.slots i result.slot) j (slot 0 0) ≡ get_or m.ring.slots j (slot 0 0)
      slot_there j same (yes e) = rw e (get_or-set_same m.ring.slots i result.slot (slot 0 0) long ∙ same)
      slot_there j same (no ne) = get_or-set_other m.ring.slots i j result.slot (slot 0 0) ne

      first : i ≡ index_of (fixed_on m.ring) m.ring.head → value_at m m.ring.head ≡ (own_slot m p).value
      first e = ap (λ (j : ℕ). (get_or m.ring.slots j (slot 0 0)).value) (sym e)

      pub foretold_stays : foretold bits next w ≡ foretold bits m w
      unfolding acted_by stored
      foretold_stays =
          let f = fixed_on m.ring in
          let k : Leaves bits f (ends_on m.ring) (own_slot m p) i (value_at m m.ring.head) first (foretold bits m w) result =
          leaves bits f (ends_on m.ring) (own_slot m p) i (value_at m m.ring.head) first p busy refl found in
          subst (λ (q : Place). foretold_of bits f result.ends (value_at next next.ring.head) (own_value next q) q ≡ foretold bits m w) (sym next_stood)
          (k (value_at next next.ring.head) (own_value next result.place)
          (λ ends_same slot_same.
          ap (λ (e : Ends). (get_or next.ring.slots (index_of f e.head) (slot 0 0)).value) ends_same
          ∙ ap (λ (z : Slot). z.value) (slot_there (index_of f m.ring.head) slot_same (ℕ_discrete (index_of f m.ring.head) i)))
          (λ e. ap (λ (j : ℕ). (get_or next.ring.slots j (slot 0 0)).value) e ∙ ap (λ (z : Slot). z.value) (get_or-set_same m.ring.slots i result.slot (slot 0 0) long)))

-- The value v is the item of the tail claim that has the number of worker w's head claim, in the call that it is in.
abbrev Claims : List Event → ℕ → ℕ → Type 0
Claims h w v = (k : ℕ) × CallClaim h w k × ItemIn h k v

-- The call ends alone, with the answer a.
pub record Ended (bits : Width) (m : Machine) (h : List Event) (from w most : ℕ) (a : Answer) : Type 0 where
  pub before : ℕ
  pub within : before + 1 ≤ most
  pub accepted_all : (run_at bits m from (acts w (suc before))).refusal ≡ 0
  pub busy_yet : (view_of (place_of (run_at bits m from (acts w before)).machine.workers w)).busy ≡ true
  pub ends : place_of (run_at bits m from (acts w (suc before))).machine.workers w ≡ Idle a
  pub true_then : Truth bits (fixed_on m.ring) (ends_on (run_at bits m from (acts w before)).machine.ring) a
  pub claimed : (v : ℕ) → HandsOut (Idle a) v → Claims (h ++ history_at bits m (acts w before)) w v
  -- and acts past the end change nothing
  pub idle_by : (view_of (place_of (run_at bits m from (acts w most)).machine.workers w)).busy ≡ false

-- one act more before it
pub run_more : (bits : Width) (m next : Machine) (from w k : ℕ) → turn_at bits m (16 * w + 8) 0 ≡ accepted next → run_at bits m from (acts w (suc k)) ≡ run_at bits next (from + 1) (acts w k)
unfolding run_by acts accepted
run_more bits m next from w k e = rw e

history_more : (bits : Width) (m next : Machine) (h : List Event) (w k : ℕ) → turn_at bits m (16 * w + 8) 0 ≡ accepted next
    → (h ++ event_of bits m w false next ∷ []) ++ history_at bits next (acts w k) ≡ h ++ history_at bits m (acts w (suc k))
unfolding history_by acts accepted
history_more bits m next h w k e =
    append_assoc h (event_of bits m w false next ∷ []) (history_at bits next (acts w k))
    ∙ ap (λ (l : List Event). h ++ l) (rw (e, act_entry w))

-- the answer foretold of an idle worker is the one it gave
answered : (bits : Width) (m : Machine) (w : ℕ) (a : Answer) → stood m w ≡ Idle a → foretold bits m w ≡ a
answered bits m w a e = ap (λ (q : Place). foretold_of bits (fixed_on m.ring) (ends_on m.ring) (value_at m m.ring.head) (own_value m q) q) e

-- acts of an idle worker are refused
idle_refused : (bits : Width) (m : Machine) (w : ℕ) → (view_of (stood m w)).busy ≡ false → eqb (turn_at bits m (16 * w + 8) 0).refusal 0 ≡ false
unfolding turn_of_by refused
idle_refused bits m w idle = rw (act_entry w) (go (ltb w m.count))
  where
    go : (b : Bool) → eqb (cond b (carried bits m w (stood m w) (verdict_of m.meter (stood m w) (Act false))) (refused 3 m)).refusal 0 ≡ false
    go true = rw idle
    go false = refl

pub idle_stays : (bits : Width) (m : Machine) (from w k : ℕ) → (view_of (stood m w)).busy ≡ false → (run_at bits m from (acts w k)).machine ≡ m
unfolding run_by acts ran
idle_stays bits m from w zero idle = refl
idle_stays bits m from w (suc k) idle = rw (idle_refused bits m w idle)

-- the last act
last : (bits : Width) (m next : Machine) (h : List Event) (from w : ℕ) (a : Answer) → turn_at bits m (16 * w + 8) 0 ≡ accepted next → (view_of (stood m w)).busy ≡ true → stood next w ≡ Idle a
    → Truth bits (fixed_on m.ring) (ends_on m.ring) a → ((v : ℕ) → HandsOut (Idle a) v → Claims h w v) → (k : ℕ) → Ended bits m h from w (suc k) a
unfolding run_by history_by acts ran accepted
last bits m next h from w a taken busy e t claims k =
    record {
      before = 0;
      within = omega arith;
      accepted_all = rw taken;
      busy_yet = busy;
      ends = ap (λ (z : Ran). place_of z.machine.workers w) (run_more bits m next from w 0 taken) ∙ e;
      true_then = t;
      claimed = rw (append-nil h) claims;
      idle_by =
          ap (λ (z : Ran). (view_of (place_of z.machine.workers w)).busy) (run_more bits m next from w k taken)
          ∙ ap (λ (z : Machine). (view_of (stood z w)).busy) (idle_stays bits next (from + 1) w k (ap (λ (q : Place). (view_of q).busy) e))
          ∙ ap (λ (q : Place). (view_of q).busy) e;
    }

module _ (bits : Width) (c n workers : ℕ) (base : Base bits c n workers) (w : ℕ) where
  -- its own act leaves its word as young as it was
  pub own_young : (m : Machine) (h : List Event) (r : Reached c n workers m h) (l : w < m.count) (busy : (view_of (stood m w)).busy ≡ true)
      (young : Recent c (mark_of c) n r.ring (r.pictured.ages w) (look c (stood m w))) (early : m.meter < meter_most)
      → Recent c (mark_of c) n
      (entered bits c n workers base m h (Asks w (Act false)) (acted bits m w (stood m w) false)
      (event_of bits m w false (acted bits m w (stood m w) false) ∷ []) r young (did w false l busy early)).ring
      ((entered bits c n workers base m h (Asks w (Act false)) (acted bits m w (stood m w) false)
      (event_of bits m w false (acted bits m w (stood m w) false) ∷ []) r young (did w false l busy early)).pictured.ages w)
      (look c (stood (acted bits m w (stood m w) false) w))
  own_young m h r l busy young early =
      own_next bits c n workers base m h r w l false busy young early (λ (u : Shared) (a : Age) (q : Place). Recent c (mark_of c) n u a (look c q))
      (stays_recent c (mark_of c) n r.ring (r.pictured.ages w) base.ground.laws
      (pictured.next bits c n workers base r.ring m r.pictured w l false busy young) (stood m w)
      (act_of bits (fixed_on m.ring) (ends_on m.ring) (own_slot m (stood m w)) (stood m w) false).place
      (leads_on c (mark_of c) n r.ring (r.pictured.ages w) bits (fixed_on m.ring) (ends_on m.ring) (own_slot m (stood m w)) (stood m w) false)
      (grown bits c n workers base m h r w l false busy young) young)

  pub ends_by : (k : ℕ) (m : Machine) (h : List Event) (from : ℕ) (r : Reached c n workers m h) → (view_of (stood m w)).busy ≡ true → m.meter + k ≤ meter_most
      → (OtherHand m w → ⊥) → Recent c (mark_of c) n r.ring (r.pictured.ages w) (look c (stood m w)) → rank bits m w ≤ k → Ended bits m h from w k (foretold bits m w)
  ends_by zero m h from r busy left free young low = absurd (omega (arith, rank_falls bits c n workers base r.ring m r.pictured w busy free young))
  ends_by (suc k) m h from r busy left free young low = go (view_of (stood next w)).busy refl
      (λ b. ends_by k next (h ++ event_of bits m w false next ∷ []) (from + 1) r' b (omega (arith, acted_meter bits m w (stood m w) false)) free' young'
      (omega (arith, falls')))
    where
      next : Machine
      next = acted bits m w (stood m w) false

      early : m.meter < meter_most
      early = omega arith

      mine : w < m.count
      mine = team bits c n workers base r.ring m r.pictured w busy

      taken : turn_at bits m (16 * w + 8) 0 ≡ accepted (acted bits m w (stood m w) false)
      taken = act_turn bits c n workers base r.ring m r.pictured w busy early

      r' : Reached c n workers next (h ++ event_of bits m w false next ∷ [])
      r' = entered bits c n workers base m h (Asks w (Act false)) _ _ r young (did w false mine busy early)

      young' : Recent c (mark_of c) n r'.ring (r'.pictured.ages w) (look c (stood next w))
      young' = own_young m h r mine busy young early

      free' : OtherHand next w → ⊥
      free' = next_free bits c n workers base r.ring m r.pictured w busy free

      falls' : rank bits next w < rank bits m w
      falls' = rank_falls bits c n workers base r.ring m r.pictured w busy free young

      told : foretold bits next w ≡ foretold bits m w
      told = foretold_stays bits c n workers base r.ring m r.pictured w busy free young

      go : (b : Bool) → (view_of (stood next w)).busy ≡ b → ((view_of (stood next w)).busy ≡ true → Ended bits next (h ++ event_of bits m w false next ∷ []) (from + 1) w k (foretold bits next w))
          → Ended bits m h from w (suc k) (foretold bits m w)
      go true e more =
          let d = more e in
          record {
            before = suc d.before;
            within = omega (arith, d.within);
            accepted_all = ap (λ (z : Ran). z.refusal) (run_more bits m next from w (suc d.before) taken) ∙ d.accepted_all;
            busy_yet = ap (λ (z : Ran). (view_of (place_of z.machine.workers w)).busy) (run_more bits m next from w d.before taken) ∙ d.busy_yet;
            ends = ap (λ (z : Ran). place_of z.machine.workers w) (run_more bits m next from w (suc d.before) taken) ∙ d.ends ∙ ap Idle told;
            true_then =
                subst (λ (z : Ran). Truth bits (fixed_on m.ring) (ends_on z.machine.ring) (foretold bits m w)) (sym (run_more bits m next from w d.before taken))
                (subst (λ (f : Fixed). Truth bits f (ends_on (run_at bits next (from + 1) (acts w d.before)).machine.ring) (foretold bits m w)) (acted_fixed bits m w (stood m w) false)
                (subst (λ (a : Answer). Truth bits (fixed_on next.ring) (ends_on (run_at bits next (from + 1) (acts w d.before)).machine.ring) a) told d.true_then));
            claimed =
                λ v out.
                subst (λ (l : List Event). Claims l w v) (history_more bits m next h w d.before taken)
                (d.claimed v (subst (λ (a : Answer). HandsOut (Idle a) v) (sym told) out));
            idle_by = ap (λ (z : Ran). (view_of (place_of z.machine.workers w)).busy) (run_more bits m next from w k taken) ∙ d.idle_by;
          }
      go false e more =
          let i = idle_is (stood next w) e in
          let a : stood next w ≡ Idle (foretold bits m w) = i.1 ∙ ap Idle (sym (answered bits next w i.0 i.1) ∙ told) in
          last bits m next h from w (foretold bits m w) taken busy a
          (true_answers bits c n workers base m h r {records = length m.workers} w young next (foretold bits m w)
          (record { first = 16 * w + 8; second = 0; lose = false; asks = act_entry w; done = taken }) a)
          (λ v out.
          let c = r'.logged.rule h [] (event_of bits m w false next) v refl (subst (λ (q : Place). HandsOut q v) (sym a) out) in
          (c.0, c.1, c.3))
          k
