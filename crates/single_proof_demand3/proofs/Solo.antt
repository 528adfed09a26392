-- A call that alone is scheduled, with the slot in no other hand, ends.
use Prim.Native.Nat.{ℕ, suc, ◌+◌, ◌*◌, ◌<◌, ◌≤◌}
use mathlib.Core.Path.{◌≡◌, refl, sym, ap, ◌∙◌, subst}
use mathlib.Core.Bool.{Bool, true, false, true≢false}
use mathlib.Core.List.{List}
use native.Mathlib.Omega.{arith}
use native.Mathlib.Decide.{ℕ_discrete, dec_lt}
use lib.Dec.{ltb}
use lib.ListN.{length, get_or-eq_default}
use borrow.Author.Tests.{lt-ltb, ltb-true}
use Rattle.queue_entries.specs.Limits.{workers_most, meter_most}
use Rattle.queue_entries.specs.declared.Call.{Call}
use Rattle.queue_entries.specs.declared.Call.TheVariants as call
use Rattle.queue_entries.specs.declared.Entry.{Entry}
use Rattle.queue_entries.specs.Entries.{entry_of}
use Rattle.queue_schedules.proofs.Alone.{act_entry, Stepped, Ends, ends_by}
use Rattle.single_words.specs.Words.{pushed_in, closed_in}
use Rattle.single_places.specs.declared.Single.{Single}
use Rattle.single_places.specs.declared.Answer.{Answer}
use Rattle.single_places.specs.declared.Place.{Place}
use Rattle.single_places.specs.declared.Place.TheVariants.{Idle, A1, A2, A3, B1, B2, B3, B4, B5, C1, C2, C3, Len1, Empty1, Full1, Close1, IsClosed1}
use Rattle.single_places.specs.declared.Worker.{Worker}
use Rattle.single_places.specs.Places.{view_of, begin_of}
use Rattle.single_acts.specs.Acts.{act_of}
use Rattle.single_machine.specs.declared.Machine.{Machine}
use Rattle.single_machine.specs.declared.Did.{Did}
use Rattle.single_machine.specs.declared.Event.{Event}
use Rattle.single_machine.specs.Machine.{idler, accepted}
use Rattle.single_machine.specs.Broken.{record_fits}
use Rattle.single_machine.specs.Turn.{turn, turn_of, turn_of_by, acted}
use Rattle.single_machine.specs.History.{events_of}
use Rattle.single_machine.proofs.Turns.{single_queue}
use Rattle.single_demands.specs.Notions.{InHand, OtherHand, waiting, closed_by, queue_answer, most_of}
use Rattle.single_demands.specs.Foretold.{foretold, foretold_of}
use Rattle.single_proof_demand2.proofs.Words.{pushed_of, closed_of}
use Rattle.single_proof_demand2.proofs.Effects.{free, hand_of_worker, fills, holding, hand_is}
use Rattle.single_proof_demand2.proofs.Grip.{Grip, loose, held, Rests}
use Rattle.single_proof_demand2.proofs.Turns.{Turned, turned, stood}
use Rattle.single_proof_demand2.proofs.Reached.{Reached, hands, in_row, acted_stood, acted_else, acted_single, acted_meter, one_entry, begin_free}
use Rattle.single_proof_demand2.proofs.Hands.{hand_holds}
use Rattle.single_proof_demand2.proofs.Answers.{did_act}
use Rattle.single_proof_demand3.specs.Rank.{rank_of}
use Rattle.single_proof_demand3.proofs.Falls.{rank_most, rank_some, Alone, act_alone}

-- ---- a busy worker's act
counted : (p : Place) (b : Bool) → (view_of p).busy ≡ true → record_fits p b ≡ true → b ≡ true
unfolding record_fits
counted p b busy h = sym (rw busy) ∙ h

-- an idle worker's place
pub idle_is : (p : Place) → (view_of p).busy ≡ false → (a : Answer) × (p ≡ Idle a)
idle_is (Idle a) h = (a, refl)
idle_is (A1 x) h = absurd (true≢false h)
idle_is (A2 x) h = absurd (true≢false h)
idle_is A3 h = absurd (true≢false h)
idle_is (B1 e x) h = absurd (true≢false h)
idle_is (B2 x) h = absurd (true≢false h)
idle_is B3 h = absurd (true≢false h)
idle_is (B4 x) h = absurd (true≢false h)
idle_is (B5 old) h = absurd (true≢false h)
idle_is (C1 e) h = absurd (true≢false h)
idle_is C2 h = absurd (true≢false h)
idle_is (C3 v) h = absurd (true≢false h)
idle_is Len1 h = absurd (true≢false h)
idle_is Empty1 h = absurd (true≢false h)
idle_is Full1 h = absurd (true≢false h)
idle_is Close1 h = absurd (true≢false h)
idle_is IsClosed1 h = absurd (true≢false h)

module _ (workers : ℕ) (m : Machine) (h : List Event) (r : Reached workers m h) (w : ℕ) where
  -- a busy worker is one of the count
  pub team : (view_of (stood m w)).busy ≡ true → w < m.count
  team busy = go (dec_lt w workers_most)
    where
      go : Dec (w < workers_most) → w < m.count
      go (yes l) = ltb-true w m.count (counted (stood m w) (ltb w m.count) busy (r.unbroken.records w l))
      go (no z) =
          let over : length m.workers ≤ w = omega (arith, r.long) in
          absurd (true≢false (sym busy ∙ ap (λ (y : Worker). (view_of y.place).busy) (get_or-eq_default m.workers idler over)))

  pub act_turn : (view_of (stood m w)).busy ≡ true → m.meter < meter_most → turn_of m (16 * w + 8) 0 ≡ accepted (acted m w (stood m w))
  unfolding turn_of_by
  act_turn busy early = rw (act_entry w, lt-ltb w m.count (team busy), busy, lt-ltb m.meter meter_most early)

  -- ---- whose hand is on the slot
  pub other_hand : Dec (OtherHand m w)
  other_hand = go r.grip
    where
      in_hand : (v : ℕ) → hands m v ≡ free → InHand (stood m v) → ⊥
      in_hand v f i = true≢false (sym i ∙ hand_is (stood m v) ∙ ap holding f)

      go : Grip (hands m) m.single h r.closed → Dec (OtherHand m w)
      go (loose b is none s) = no (λ o. in_hand o.0 (none o.0) o.2)
      go (held u g hu is alone d) = by (ℕ_discrete u w)
        where
          by : Dec (u ≡ w) → Dec (OtherHand m w)
          by (yes e) = no (λ o. in_hand o.0 (alone o.0 (λ q. o.1 (q ∙ e))) o.2)
          by (no ne) = yes (u, ne, hand_is (stood m u) ∙ ap holding hu ∙ hand_holds h m.single.value u g d)

  module _ (none_other : OtherHand m w → ⊥) where
    -- the word is unlocked, unless by w itself
    pub alone_here : (view_of (stood m w)).busy ≡ true → Alone m.single (stood m w) (act_of m.single (stood m w))
    alone_here busy = go r.grip
      where
        go : Grip (hands m) m.single h r.closed → Alone m.single (stood m w) (act_of m.single (stood m w))
        go (loose b is none s) = act_alone m.single false b r.closed is (stood m w) busy (r.expects w) (λ f. refl)
        go (held u g hu is alone d) = act_alone m.single true (fills g) r.closed is (stood m w) busy (r.expects w) (λ f. absurd (by (ℕ_discrete u w) f))
          where
            by : Dec (u ≡ w) → hand_of_worker (stood m w) ≡ free → ⊥
            by (yes e) f = true≢false (sym (hand_holds h m.single.value u g d) ∙ ap holding (sym hu ∙ ap (hands m) e ∙ f))
            by (no ne) f = none_other (u, ne, hand_is (stood m u) ∙ ap holding hu ∙ hand_holds h m.single.value u g d)

    -- ---- a call that has only begun finds a one-slot queue
    pub queue_is : (c : Call) → stood m w ≡ begin_of c → foretold m w ≡ queue_answer c (closed_by h) (waiting h)
    queue_is c at = ap (foretold_of m.single) at ∙ go r.grip
      where
        told : (b : Bool) (d : Bool) → pushed_in m.single.state ≡ b → closed_in m.single.state ≡ d → Rests h m.single.value b → (c : Call)
            → foretold_of m.single (begin_of c) ≡ queue_answer c d (waiting h)
        told true d p k s (call.Push x) = rw (p, k, s.0)
        told false d p k s (call.Push x) = rw (p, k, s)
        told true d p k s (call.ForcePush x) = rw (p, k, s.0)
        told false d p k s (call.ForcePush x) = rw (p, k, s)
        told true d p k s call.Pop = rw (p, s.0)
        told false d p k s call.Pop = rw (p, k, s)
        told true d p k s call.Len = rw (p, s.0)
        told false d p k s call.Len = rw (p, s)
        told true d p k s call.IsEmpty = rw (p, s.0)
        told false d p k s call.IsEmpty = rw (p, s)
        told true d p k s call.IsFull = rw (p, s.0)
        told false d p k s call.IsFull = rw (p, s)
        told b d p k s call.Close = rw k
        told b d p k s call.IsClosed = rw k

        go : Grip (hands m) m.single h r.closed → foretold_of m.single (begin_of c) ≡ queue_answer c (closed_by h) (waiting h)
        go (loose b is none s) =
            told b r.closed (pushed_of m.single.state false b r.closed is) (closed_of m.single.state false b r.closed is) s c
            ∙ ap (λ (d : Bool). queue_answer c d (waiting h)) r.closed_is
        go (held u g hu is alone d) = absurd (by (ℕ_discrete u w))
          where
            by : Dec (u ≡ w) → ⊥
            by (yes e) =
                true≢false (sym (hand_holds h m.single.value u g d) ∙ ap holding (sym hu ∙ ap (hands m) e ∙ ap hand_of_worker at ∙ begin_free c))
            by (no ne) = none_other (u, ne, hand_is (stood m u) ∙ ap holding hu ∙ hand_holds h m.single.value u g d)

-- ---- the call of w, with this answer foretold
module _ (workers : ℕ) (w : ℕ) (a : Answer) where
  pub record Under (n : ℕ) (m : Machine) (h : List Event) : Type 0 where
    pub reached : Reached workers m h
    pub left : m.meter + n ≤ meter_most
    pub none_other : OtherHand m w → ⊥
    pub told : foretold m w ≡ a

  abbrev pub busy : Machine → Bool
  busy m = (view_of (stood m w)).busy

  abbrev pub rank : Machine → ℕ
  rank m = rank_of m.single (stood m w)

  abbrev pub after : Machine → Machine
  after m = (turn_of m (16 * w + 8) 0).machine

  module _ (n : ℕ) (m : Machine) (h : List Event) (u : Under (suc n) m h) (b : busy m ≡ true) where
    early : m.meter < meter_most
    early = omega (arith, u.left)

    turns : turn_of m (16 * w + 8) 0 ≡ accepted (acted m w (stood m w))
    turns = act_turn workers m h u.reached w b early

    pub turn_taken : (turn_of m (16 * w + 8) 0).refusal ≡ 0
    unfolding accepted
    turn_taken = ap (λ (d : Did). d.refusal) turns

    pub turn_is : after m ≡ acted m w (stood m w)
    unfolding accepted
    turn_is = ap (λ (d : Did). d.machine) turns

    abbrev p : Place
    p = stood m w

    row : w < length m.workers
    row = in_row workers m h u.reached w (team workers m h u.reached w b)

    acted_alone : Alone m.single p (act_of m.single p)
    acted_alone = alone_here workers m h u.reached w u.none_other b

    place_is : stood (acted m w p) w ≡ (act_of m.single p).place
    place_is = acted_stood m w p row

    next_none : OtherHand (acted m w p) w → ⊥
    next_none o = u.none_other (o.0, o.1, subst InHand (acted_else m w p o.0 o.1) o.2)

    next_told : foretold (acted m w p) w ≡ a
    next_told =
        ap (λ (s : Single). foretold_of s (stood (acted m w p) w)) (acted_single m w p)
        ∙ ap (foretold_of (act_of m.single p).single) place_is ∙ acted_alone.told ∙ u.told

    next_falls : rank (acted m w p) < rank m
    next_falls =
        subst (λ (s : Single). rank_of s (stood (acted m w p) w) < rank m) (sym (acted_single m w p))
        (subst (λ (q : Place). rank_of (act_of m.single p).single q < rank m) (sym place_is) acted_alone.falls)

    pub stepped : Stepped single_queue events_of w busy rank Under n m h
    stepped =
        record {
          accepted = turn_taken;
          holds =
              record {
                reached = one_entry workers m h (16 * w + 8) 0 u.reached turn_taken;
                left = let e = ap (λ (x : Machine). x.meter) turn_is ∙ acted_meter m w p in omega (arith, u.left);
                none_other = subst (λ (x : Machine). OtherHand x w → ⊥) (sym turn_is) next_none;
                told = ap (λ (x : Machine). foretold x w) turn_is ∙ next_told;
              };
          falls = subst (λ (x : Machine). rank x < rank m) (sym turn_is) next_falls;
        }

-- acts of an idle worker are refused
pub idle_refused : (w : ℕ) (m : Machine) → (view_of (stood m w)).busy ≡ false → (turn_of m (16 * w + 8) 0).refusal ≡ 0 → ⊥
unfolding turn_of_by
idle_refused w m idle e =
    let t = turned m (entry_of (16 * w + 8) 0) e in
    let d = did_act m w false _ _ (subst (λ (x : Entry). Turned m x (turn m (entry_of (16 * w + 8) 0)).machine
    (events_of m (entry_of (16 * w + 8) 0) (turn m (entry_of (16 * w + 8) 0)).machine)) (act_entry w) t) in
    true≢false (sym d.busy ∙ idle)

-- ---- so it ends
module _ (workers : ℕ) (m : Machine) (h : List Event) (r : Reached workers m h) (w : ℕ) where
  pub ended : (view_of (stood m w)).busy ≡ true → m.meter + most_of (stood m w) ≤ meter_most → (OtherHand m w → ⊥)
      → Ends single_queue events_of w (busy workers w (foretold m w)) (rank workers w (foretold m w)) (Under workers w (foretold m w)) m h 0 (most_of (stood m w))
  ended b left none_other =
      ends_by single_queue events_of w (busy workers w (foretold m w)) (rank workers w (foretold m w)) (Under workers w (foretold m w))
      (idle_refused w) (λ x c. rank_some x.single (stood x w) c) (stepped workers w (foretold m w))
      (most_of (stood m w)) m h 0 (record { reached = r; left = left; none_other = none_other; told = refl }) b (rank_most m.single (stood m w))
