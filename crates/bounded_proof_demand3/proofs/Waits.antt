-- Whom a call waits for: alone it ends, unless another worker has in hand the very slot that its own end points to.
use mathlib.Core.Path.{◌≡◌, refl, sym, ap, ◌∙◌, subst}
use mathlib.Core.Bool.{Bool, true, false, cond, true≢false}
use mathlib.Core.List.{List, [], ◌∷◌, ◌++◌}
use Prim.Native.Nat.{ℕ, zero, suc, ◌+◌, ◌*◌, ◌%◌, ◌≤◌, ◌<◌}
use native.Mathlib.Omega.{arith}
use native.Mathlib.Decide.{ℕ_discrete}
use lib.ListN.{length}
use Rattle.queue_entries.specs.Limits.{meter_most}
use Rattle.queue_entries.specs.declared.Order.TheVariants.{Act}
use Rattle.queue_entries.specs.declared.Entry.TheVariants.{Asks}
use Rattle.bounded_words.specs.declared.Stamp.{Stamp}
use Rattle.bounded_words.specs.declared.Fixed.{Fixed}
use Rattle.bounded_words.specs.declared.Width.{Width}
use Rattle.bounded_words.specs.declared.Width.TheVariants.{SixtyFour}
use Rattle.bounded_words.specs.Words.{mark_of, index_of, marked_of, unmarked_of, minus, same, one_past, lap_behind, lap_behind_one_past, with_mark}
use Rattle.bounded_places.specs.declared.Slot.{Slot}
use Rattle.bounded_places.specs.declared.Ends.{Ends}
use Rattle.bounded_places.specs.declared.Kind.{Kind}
use Rattle.bounded_places.specs.declared.Kind.TheVariants.{Push, Force}
use Rattle.bounded_places.specs.declared.Answer.TheVariants.{Full, Closed, Empty, PopClosed, Len, Yes, No}
use Rattle.bounded_places.specs.declared.Exchange.{Exchange}
use Rattle.bounded_places.specs.declared.Place.{Place}
use Rattle.bounded_places.specs.declared.Place.TheVariants.{Idle, P1, P2, P3, P4, P5, P6, F6, F7, F8, F9, O1, O2, O3, O4, O5, O6, Len1, Len2, Len3, Empty1, Empty2, Full1, Full2, Close1, IsClosed1}
use Rattle.bounded_places.specs.Places.{view_of}
use Rattle.bounded_acts.specs.declared.Acted.{Acted}
use Rattle.bounded_acts.specs.Acts.{goes, losing, after_tail, end_p3, end_f6, end_o3, tail_to, head_to, full_at, count_of, act_of}
use Rattle.bounded_machine.proofs.Kept.{either, exchanged}
use Rattle.bounded_machine.specs.declared.Machine.{Machine}
use Rattle.bounded_machine.specs.declared.Event.{Event}
use Rattle.bounded_machine.specs.declared.Ran.{Ran}
use Rattle.bounded_machine.specs.Machine.{accepted, fresh_with, fixed_on, ends_on}
use Rattle.bounded_machine.specs.Turn.{turn_at, spot_of, stored, acted, acted_by}
use Rattle.bounded_machine.specs.Run.{run_at}
use Rattle.bounded_demands.specs.Notions.{with_records, AllowedWith, acts, machine_after, acts_of, InHand, InWidestWindow, KeepsWidestWindow, most_beside, OtherHandAt, slot_needed}
use Rattle.bounded_demands.specs.Demands.{WaitsFor, WaitsAt, WaitsForItsSlot, WaitsForItsSlotInWindow}
use Rattle.bounded_proof_invariant.proofs.Ring.{Shared}
use Rattle.bounded_proof_invariant.proofs.Effects.{Loose}
use Rattle.bounded_proof_each_act.proofs.Stamps
use Rattle.bounded_proof_each_act.proofs.Stamps.{fixed, word_slot, W}
use Rattle.bounded_proof_each_act.proofs.Sight.{look, HandAt, ends_of_ring, slot_of_ring, Recent}
use Rattle.bounded_proof_demand2.proofs.Turns.{did, stood, event_of}
use Rattle.bounded_proof_demand2.proofs.Pictured.{Base, Pictured, spot_small, acted_stood}
use Rattle.bounded_proof_demand2.proofs.Reached.{Reached, laps_of, base_of, entered, recent_in, at_end}
use Rattle.bounded_proof_demand2.proofs.Always.{always}
use Rattle.bounded_proof_demand2.proofs.Demand2.{reached}
use Rattle.bounded_proof_demand3.specs.Rank.{rank_beside}
use Rattle.bounded_proof_demand3.proofs.Falls.{Loads, falls, most_beside_lem, eight}
use Rattle.bounded_proof_demand3.proofs.Found.{hand_of, loose_of, loads_beside}
use Rattle.bounded_proof_demand3.proofs.Solo.{team, act_turn, own_slot, acted_else, acted_meter, run_more, idle_stays, own_young}
use Rattle.bounded_proof_demand3.proofs.Way.{other_hand_at}

nothing : {A : Type 0} (j : ℕ) → [] ≡ j ∷ [] → A
nothing j e = let q : ◌≡◌ {A = ℕ} 0 1 = ap length e in absurd (omega (arith, q))

-- The slot that a call needs after an act of its own it needed before.
module _ (bits : Width) (f : Fixed) (e : Ends) (s : Slot) (j : ℕ) where
  abbrev Needs : Place → Type 0
  Needs p = slot_needed f e p ≡ j ∷ []

  abbrev From : Place → Acted → Type 0
  From p a = slot_needed f a.ends a.place ≡ j ∷ [] → Needs p

  by_tail : (p : Place) (k : Kind) (x : ℕ) → (Needs (P1 k x) → Needs p) → slot_needed f e (after_tail f k e.tail x) ≡ j ∷ [] → Needs p
  unfolding after_tail
  by_tail p k x to = either (λ (q : Place). slot_needed f e q ≡ j ∷ [] → Needs p) (marked_of f e.tail) (Idle (Closed x)) (P2 k e.tail x) (λ h n. nothing j n) (λ h n. to n)

  full_needs : (k i : Kind) (t : Stamp) (x : ℕ) → slot_needed f e (full_at k t x) ≡ j ∷ [] → Needs (P2 i t x)
  full_needs Push i t x n = n
  full_needs Force i t x n = n

  pub needed_before : (p : Place) → From p (act_of bits f e s p false)
  unfolding goes losing tail_to head_to
  needed_before (Idle a) n = n
  needed_before (P1 k x) n = by_tail (P1 k x) k x (λ q. q) n
  needed_before (P2 k t x) n =
      either (From (P2 k t x)) (same s.stamp t) (goes e s (P3 k t x)) (cond (lap_behind_one_past bits f s.stamp t) (goes e s (full_at k t x)) (goes e s (P1 k x))) (λ h q. q)
      (λ h. either (From (P2 k t x)) (lap_behind_one_past bits f s.stamp t) (goes e s (full_at k t x)) (goes e s (P1 k x)) (λ g. full_needs k k t x) (λ g q. q)) n
  needed_before (P3 k t x) n =
      exchanged (λ (y : Exchange). From (P3 k t x) (end_p3 bits f e s k t x y)) e.tail t false (λ h g. absurd (true≢false (sym g))) (λ h g q. nothing j q)
      (λ h. by_tail (P3 k t x) k x (λ q. q)) n
  needed_before (P4 t x) n = nothing j n
  needed_before (P5 t) n = nothing j n
  needed_before (P6 t x) n = either (From (P6 t x)) (lap_behind bits f e.head t) (goes e s (Idle (Full x))) (goes e s (P1 Push x)) (λ h q. nothing j q) (λ h q. q) n
  needed_before (F6 t x) n =
      exchanged (λ (y : Exchange). From (F6 t x) (end_f6 bits f e s t x y)) e.head (minus bits t f.lap) false (λ h g. absurd (true≢false (sym g))) (λ h g q. nothing j q) (λ h q. q) n
  needed_before (F7 t x) n = nothing j n
  needed_before (F8 t x) n = nothing j n
  needed_before (F9 t old) n = nothing j n
  needed_before O1 n = n
  needed_before (O2 h) n =
      either (From (O2 h)) (one_past bits s.stamp h) (goes e s (O3 h)) (cond (same s.stamp h) (goes e s (O6 h)) (goes e s O1)) (λ b q. q)
      (λ b. either (From (O2 h)) (same s.stamp h) (goes e s (O6 h)) (goes e s O1) (λ d q. q) (λ d q. q)) n
  needed_before (O3 h) n =
      exchanged (λ (y : Exchange). From (O3 h) (end_o3 bits f e s h y)) e.head h false (λ b g. absurd (true≢false (sym g))) (λ b g q. nothing j q) (λ b q. q) n
  needed_before (O4 h) n = nothing j n
  needed_before (O5 h v) n = nothing j n
  needed_before (O6 h) n =
      either (From (O6 h)) (same (unmarked_of f e.tail) h) (cond (marked_of f e.tail) (goes e s (Idle PopClosed)) (goes e s (Idle Empty))) (goes e s O1)
      (λ b. either (From (O6 h)) (marked_of f e.tail) (goes e s (Idle PopClosed)) (goes e s (Idle Empty)) (λ d q. nothing j q) (λ d q. nothing j q)) (λ b q. q) n
  needed_before Len1 n = nothing j n
  needed_before (Len2 t) n = nothing j n
  needed_before (Len3 t h) n = either (From (Len3 t h)) (same e.tail t) (goes e s (Idle (Len (count_of f t h)))) (goes e s Len1) (λ b q. nothing j q) (λ b q. nothing j q) n
  needed_before Empty1 n = nothing j n
  needed_before (Empty2 h) n = nothing j n
  needed_before Full1 n = nothing j n
  needed_before (Full2 t) n = nothing j n
  needed_before Close1 n =
      either (From Close1) (marked_of f e.tail) (goes e s (Idle No)) (goes (tail_to e (with_mark bits f e.tail)) s (Idle Yes)) (λ b q. nothing j q) (λ b q. nothing j q) n
  needed_before IsClosed1 n = nothing j n

abbrev needs : Machine → ℕ → List ℕ
needs m w = slot_needed (fixed_on m.ring) (ends_on m.ring) (stood m w)

-- nobody else has the slot in hand that it needs
abbrev Free : Machine → ℕ → Type 0
Free m w = (j : ℕ) → needs m w ≡ j ∷ [] → OtherHandAt m w j → ⊥

module _ (bits : Width) (c n workers : ℕ) (base : Base bits c n workers) (s : Shared) (m : Machine) (pic : Pictured c n workers s m) (w : ℕ)
    (busy : (view_of (stood m w)).busy ≡ true) (free : Free m w) where
  p : Place
  p = stood m w

  i : ℕ
  i = spot_of (fixed_on m.ring) (view_of (stood m w)).held

  mine : w < m.count
  mine = team bits c n workers base s m pic w busy

  small : spot_of (fixed_on m.ring) (view_of (stood m w)).held < c
  small = spot_small bits c n workers base s m pic w mine false busy

  index_of_lem : (t : Stamp) → index_of (fixed_on m.ring) t ≡ t.0 % mark_of c
  index_of_lem t = ap (λ (f : Fixed). index_of f t) pic.rule

  -- a slot that it needs and has not in hand is in no hand
  loose : (j : ℕ) → j < c → (HandAt (mark_of c) (look c (stood m w)) j → ⊥) → needs m w ≡ j ∷ [] → Loose (s.cell j)
  loose j l own need = loose_of (s.cell j) (λ v z. go v (ℕ_discrete v w) (pic.back j l v z))
    where
      go : (v : ℕ) → Dec (v ≡ w) → HandAt (mark_of c) (look c (stood m v)) j → ⊥
      go v (yes q) h = own (rw q at h)
      go v (no ne) h = let t = hand_of c (mark_of c) j (stood m v) h in free j need (v, ne, t.0, t.1, index_of_lem t.0 ∙ t.2)

  tail_index : index_of (fixed_on m.ring) m.ring.tail ≡ s.tail % c
  tail_index = index_of_lem m.ring.tail ∙ ap (λ (e : Ends). e.tail.0 % mark_of c) pic.ends ∙ Stamps.index_tail bits c (mark_of c) n base.ground s.tail pic.shut

  head_index : index_of (fixed_on m.ring) m.ring.head ≡ s.head % c
  head_index = index_of_lem m.ring.head ∙ ap (λ (e : Ends). e.head.0 % mark_of c) pic.ends ∙ word_slot bits c (mark_of c) n base.ground (W c (mark_of c) n s.head) s.head refl

  at_tail : (k : Kind) (t : Stamp) (x : ℕ) → stood m w ≡ P2 k t x → s.tail % c ≡ spot_of (fixed_on m.ring) (view_of (stood m w)).held
      → Loose (s.cell (spot_of (fixed_on m.ring) (view_of (stood m w)).held))
  at_tail k t x q e =
      loose (spot_of (fixed_on m.ring) (view_of (stood m w)).held) small
      (λ h. true≢false (sym (subst (λ (z : Place). HandAt (mark_of c) (look c z) (spot_of (fixed_on m.ring) (view_of (stood m w)).held)) q h).0))
      (subst (λ (z : Place). slot_needed (fixed_on m.ring) (ends_on m.ring) z ≡ spot_of (fixed_on m.ring) (view_of (stood m w)).held ∷ []) (sym q) (ap (λ (z : ℕ). z ∷ []) (tail_index ∙ e)))

  at_head : (h : Stamp) → stood m w ≡ O2 h → s.head % c ≡ spot_of (fixed_on m.ring) (view_of (stood m w)).held → Loose (s.cell (spot_of (fixed_on m.ring) (view_of (stood m w)).held))
  at_head t q e =
      loose (spot_of (fixed_on m.ring) (view_of (stood m w)).held) small
      (λ h. true≢false (sym (subst (λ (z : Place). HandAt (mark_of c) (look c z) (spot_of (fixed_on m.ring) (view_of (stood m w)).held)) q h).0))
      (subst (λ (z : Place). slot_needed (fixed_on m.ring) (ends_on m.ring) z ≡ spot_of (fixed_on m.ring) (view_of (stood m w)).held ∷ []) (sym q) (ap (λ (z : ℕ). z ∷ []) (head_index ∙ e)))

  abbrev next : Machine
  next = acted bits m w (stood m w) false

  abbrev result : Acted
  result = act_of bits (fixed_on m.ring) (ends_on m.ring) (own_slot m (stood m w)) (stood m w) false

  next_stood : stood next w ≡ result.place
  next_stood = acted_stood bits c n workers base s m pic w mine false busy

  pub next_free : Free next w
  unfolding acted_by stored
  next_free j need o =
      free j
      (needed_before bits (fixed_on m.ring) (ends_on m.ring) (own_slot m (stood m w)) j (stood m w)
      (subst (λ (q : Place). slot_needed (fixed_on m.ring) result.ends q ≡ j ∷ []) next_stood need))
      (o.0, o.1, o.2, subst (λ (q : Place). InHand q o.2) (acted_else bits m w o.0 (stood m w) false o.1) o.3, o.4)

  module _ (young : Recent c (mark_of c) n s (pic.ages w) (look c (stood m w))) where
    loads : Loads 1 bits (fixed_on m.ring) (ends_on m.ring) (own_slot m (stood m w)) (stood m w)
    loads =
        let j = spot_of (fixed_on m.ring) (view_of (stood m w)).held in
        let at : j ≡ spot_of (fixed c (mark_of c) m.ring.edition) (view_of (stood m w)).held = ap (λ (f : Fixed). spot_of f (view_of (stood m w)).held) pic.rule in
        let d : Loads 1 bits (fixed c (mark_of c) m.ring.edition) (ends_of_ring c (mark_of c) n s pic.shut) (slot_of_ring c (mark_of c) n (s.cell j) (s.val j)) (stood m w) =
        loads_beside bits c (mark_of c) n m.ring.edition base.ground s pic.inv w j (pic.ages w) pic.shut small (stood m w) at (pic.stands w) young at_tail at_head in
        subst (λ (f : Fixed). Loads 1 bits f (ends_on m.ring) (own_slot m (stood m w)) (stood m w)) (sym pic.rule)
        (subst (λ (e : Ends). Loads 1 bits (fixed c (mark_of c) m.ring.edition) e (own_slot m (stood m w)) (stood m w)) (sym pic.ends)
        (subst (λ (z : Slot). Loads 1 bits (fixed c (mark_of c) m.ring.edition) (ends_of_ring c (mark_of c) n s pic.shut) z (stood m w)) (sym (pic.slots j small)) d))

    pub falls_beside : rank_beside 1 bits (fixed_on next.ring) (ends_on next.ring) (stood next w) < rank_beside 1 bits (fixed_on m.ring) (ends_on m.ring) (stood m w)
    unfolding acted_by stored
    falls_beside =
        subst (λ (q : Place). rank_beside 1 bits (fixed_on m.ring) result.ends q < rank_beside 1 bits (fixed_on m.ring) (ends_on m.ring) (stood m w)) (sym next_stood)
        (falls 1 bits (fixed_on m.ring) (ends_on m.ring) (own_slot m (stood m w)) (stood m w) busy loads)

module _ (bits : Width) (c n workers : ℕ) (base : Base bits c n workers) (w : ℕ) where
  -- so it has ended
  over_by : (k : ℕ) (m : Machine) (h : List Event) (from : ℕ) (r : Reached c n workers m h) → (view_of (stood m w)).busy ≡ true → m.meter + k ≤ meter_most → Free m w
      → Recent c (mark_of c) n r.ring (r.pictured.ages w) (look c (stood m w)) → rank_beside 1 bits (fixed_on m.ring) (ends_on m.ring) (stood m w) ≤ k
      → (view_of (stood (run_at bits m from (acts w k)).machine w)).busy ≡ false
  over_by zero m h from r busy left free young low = absurd (omega (arith, falls_beside bits c n workers base r.ring m r.pictured w busy free young))
  over_by (suc k) m h from r busy left free young low =
      ap (λ (z : Ran). (view_of (stood z.machine w)).busy) (run_more bits m next from w k taken)
      ∙ go (view_of (stood next w)).busy refl
      (λ b. over_by k next (h ++ event_of bits m w false next ∷ []) (from + 1) r' b (omega (arith, acted_meter bits m w (stood m w) false)) free' young' (omega (arith, falls')))
    where
      next : Machine
      next = acted bits m w (stood m w) false

      early : m.meter < meter_most
      early = omega arith

      mine : w < m.count
      mine = team bits c n workers base r.ring m r.pictured w busy

      taken : turn_at bits m (16 * w + 8) 0 ≡ accepted (acted bits m w (stood m w) false)
      taken = act_turn bits c n workers base r.ring m r.pictured w busy early

      r' : Reached c n workers next (h ++ event_of bits m w false next ∷ [])
      r' = entered bits c n workers base m h (Asks w (Act false)) _ _ r young (did w false mine busy early)

      young' : Recent c (mark_of c) n r'.ring (r'.pictured.ages w) (look c (stood next w))
      young' = own_young bits c n workers base w m h r mine busy young early

      free' : Free next w
      free' = next_free bits c n workers base r.ring m r.pictured w busy free

      falls' : rank_beside 1 bits (fixed_on next.ring) (ends_on next.ring) (stood next w) < rank_beside 1 bits (fixed_on m.ring) (ends_on m.ring) (stood m w)
      falls' = falls_beside bits c n workers base r.ring m r.pictured w busy free young

      go : (b : Bool) → (view_of (stood next w)).busy ≡ b → ((view_of (stood next w)).busy ≡ true → (view_of (stood (run_at bits next (from + 1) (acts w k)).machine w)).busy ≡ false)
          → (view_of (stood (run_at bits next (from + 1) (acts w k)).machine w)).busy ≡ false
      go true e more = more e
      go false e more = ap (λ (z : Machine). (view_of (stood z w)).busy) (idle_stays bits next (from + 1) w k e) ∙ e

module _ (bits : Width) (c n workers : ℕ) (base : Base bits c n workers) (m : Machine) (h : List Event) (r : Reached c n workers m h) (window : InWidestWindow bits m h) where
  over : (w : ℕ) → m.meter + 8 ≤ meter_most → Free m w → (b : Bool) → (view_of (stood m w)).busy ≡ b → (view_of (stood (run_at bits m 0 (acts w (most_beside (stood m w)))).machine w)).busy ≡ false
  over w left free true e =
      over_by bits c n workers base w (most_beside (stood m w)) m h 0 r e (omega (arith, eight (stood m w))) free (recent_in bits c n workers base m h r window w)
      (omega (arith, most_beside_lem 1 bits (fixed_on m.ring) (ends_on m.ring) (stood m w)))
  over w left free false e = ap (λ (z : Machine). (view_of (stood z w)).busy) (idle_stays bits m 0 w (most_beside (stood m w)) e) ∙ e

  waits : (records : ℕ) → WaitsAt (with_records records bits) m
  waits records w left late = go (needs m w) refl
    where
      ended : Free m w → ⊥
      ended free = true≢false (sym late ∙ over w left free (view_of (stood m w)).busy refl)

      one : (i : ℕ) → needs m w ≡ i ∷ [] → Dec (OtherHandAt m w i) → WaitsFor m w
      one i e (yes o) = record { slot = i; needed = e; hand = o }
      one i e (no z) = absurd (ended (λ j q o. z (subst (λ (y : ℕ). OtherHandAt m w y) (head_one i j (sym e ∙ q)) o)))
        where
          head_one : (a b : ℕ) → a ∷ [] ≡ b ∷ [] → b ≡ a
          head_one a b q = sym (ap (λ (l : List ℕ). first l) q)
            where
              first : List ℕ → ℕ
              first [] = 0
              first (x ∷ l) = x

      go : (l : List ℕ) → needs m w ≡ l → WaitsFor m w
      go [] e = absurd (ended (λ j q o. nothing j (sym e ∙ q)))
      go (i ∷ []) e = one i e (other_hand_at bits c n workers base r.ring m r.pictured w i)
      go (i ∷ k ∷ l) e = absurd (ended (λ j q o. let z : suc (suc (length l)) ≡ 1 = ap length (sym e ∙ q) in absurd (omega (arith, z))))

module _ (bits : Width) (records capacity workers edition : ℕ) (a : AllowedWith records capacity workers edition) (s : List ℕ)
    (keeps : KeepsWidestWindow (with_records records bits) (fresh_with records capacity workers edition) [] s) where
  waits_in : WaitsAt (with_records records bits) (machine_after (with_records records bits) capacity workers edition s)
  waits_in =
      waits bits capacity (laps_of bits capacity) workers (base_of bits records capacity workers edition a) (machine_after (with_records records bits) capacity workers edition s)
      (acts_of (with_records records bits) capacity workers edition s) (reached bits records capacity workers edition a s keeps)
      (at_end bits (fresh_with records capacity workers edition) [] s keeps) records

pub waits_in_window : (bits : Width) (records : ℕ) → WaitsForItsSlotInWindow (with_records records bits)
waits_in_window bits records capacity workers edition a s keeps = waits_in bits records capacity workers edition a s keeps

-- of 64 bits every schedule
pub waits_for_its_slot : (records : ℕ) → WaitsForItsSlot (with_records records SixtyFour)
waits_for_its_slot records capacity workers edition a s = waits_in SixtyFour records capacity workers edition a s (always records capacity workers edition a s)
