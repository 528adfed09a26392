-- A machine as the picture of a ring over claim numbers; a call begun and every act keep it one.
use mathlib.Core.Path.{◌≡◌, refl, sym, ap, ◌∙◌, subst}
use mathlib.Core.Logic.{◌≢◌}
use mathlib.Core.Bool.{Bool, true, false, true≢false}
use mathlib.Core.List.{List}
use Prim.Native.Nat.{ℕ, ◌+◌, ◌≤◌, ◌<◌}
use native.Mathlib.Omega.{arith}
use native.Mathlib.Decide.{dec_lt, ℕ_discrete}
use lib.Dec.{ltb}
use lib.ListN.{length, get_or, set, length-set, get_or-eq_default}
use borrow.Author.Tests.{ltb-true}
use lib.Seq.{get_or-set_same, get_or-set_other}
use Rattle.queue_entries.specs.Limits.{meter_most}
use Rattle.queue_entries.specs.declared.Call.{Call}
use Rattle.queue_entries.specs.declared.Call.TheVariants as call
use Rattle.bounded_words.specs.declared.Fixed.{Fixed}
use Rattle.bounded_words.specs.declared.Width.{Width}
use Rattle.bounded_words.specs.Limits.{slots_most}
use Rattle.bounded_words.specs.Words.{mark_of}
use Rattle.bounded_places.specs.declared.Slot.{Slot}
use Rattle.bounded_places.specs.declared.Ends.{Ends}
use Rattle.bounded_places.specs.declared.Answer.{Answer}
use Rattle.bounded_places.specs.declared.Answer.TheVariants.{Nothing}
use Rattle.bounded_places.specs.declared.Place.{Place}
use Rattle.bounded_places.specs.declared.Place.TheVariants.{Idle, P1, P2, P3, P4, P5, P6, F6, F7, F8, F9, O1, O2, O3, O4, O5, O6, Len1, Len2, Len3, Empty1, Empty2, Full1, Full2, Close1, IsClosed1}
use Rattle.bounded_places.specs.declared.Held.{Held}
use Rattle.bounded_places.specs.declared.Held.TheVariants as held
use Rattle.bounded_places.specs.declared.Worker.{Worker}
use Rattle.bounded_places.specs.Places.{view_of, fits_of, begin_of}
use Rattle.bounded_acts.specs.declared.Acted.{Acted}
use Rattle.bounded_acts.specs.Acts.{act_of}
use Rattle.bounded_machine.specs.declared.Machine.{Machine}
use Rattle.bounded_machine.specs.Machine.{slot, record_of_worker, place_of, idler, fixed_on, ends_on}
use Rattle.bounded_machine.specs.Broken.{place_fits}
use Rattle.bounded_machine.specs.Turn.{spot_of, beginner, record_after, begun, stored, acted, acted_by}
use Rattle.bounded_machine.proofs.Kept.{UnbrokenWith, place_of_lem, few_workers, begun_unbroken, acted_unbroken, word_fits_in, fits_plain}
use Rattle.bounded_demands.specs.Notions.{holding_at}
use Rattle.bounded_proof_invariant.proofs.Upd.{upd, upd_same, upd_else}
use Rattle.bounded_proof_invariant.proofs.Ring.{Mine, Shared, Inv}
use Rattle.bounded_proof_invariant.proofs.Effects.{Effect, Still, Tailed, Taken, Grabbed, Forced, Fills, Swaps, Frees, Gives, after, Course, course, inv_after, mine_after, cell_course, val_course}
use Rattle.bounded_proof_each_act.proofs.Stamps.{Ground, fixed}
use Rattle.bounded_proof_each_act.proofs.Sight.{Age, aged, Calm, look, HandAt, ends_of_ring, slot_of_ring, Stands, Recent, stands_else}
use Rattle.bounded_proof_each_act.proofs.Steps.{Step, step}
use Rattle.bounded_proof_demand2.proofs.Turns.{stood}

-- The constants: a ring by rule, of words of this width.
pub record Base (bits : Width) (c n workers : ℕ) : Type 0 where
  pub ground : Ground bits c (mark_of c) n
  pub few : c ≤ slots_most

pub record Pictured (c n workers : ℕ) (s : Shared) (m : Machine) : Type 0 where
  pub inv : Inv c s
  pub records : ℕ
  pub unbroken : UnbrokenWith records m
  pub rule : fixed_on m.ring ≡ fixed c (mark_of c) m.ring.edition
  pub count : m.count ≡ workers
  pub shut : Bool
  pub ends : ends_on m.ring ≡ ends_of_ring c (mark_of c) n s shut
  pub slots_long : length m.ring.slots ≡ slots_most
  pub slots : (i : ℕ) → i < c → get_or m.ring.slots i (slot 0 0) ≡ slot_of_ring c (mark_of c) n (s.cell i) (s.val i)
  pub workers_long : length m.workers ≡ records
  -- when each worker was given the word that it holds
  pub ages : ℕ → Age
  pub stands : (w : ℕ) → Stands c (mark_of c) n s w (ages w) (look c (stood m w))
  -- whoever has a slot in hand stands at a place that says so
  pub back : (i : ℕ) → i < c → (w : ℕ) → Mine w (s.cell i) → HandAt (mark_of c) (look c (stood m w)) i
  pub claims_few : s.tail ≤ m.meter
  pub meter_few : m.meter ≤ meter_most

fits_counted : (f : Fixed) (p : Place) (b : Bool) → (view_of p).busy ≡ true → place_fits f p b ≡ true → b ≡ true
unfolding place_fits
fits_counted f p true busy h = refl
fits_counted f p false busy h = absurd (true≢false (sym (rw busy at h)))

-- a busy worker is one of the count
pub busy_counted : (c n workers : ℕ) (s : Shared) (m : Machine) → Pictured c n workers s m → (w : ℕ) → (view_of (stood m w)).busy ≡ true → w < m.count
busy_counted c n workers s m pic w busy = go (dec_lt w pic.records)
  where
    go : Dec (w < pic.records) → w < m.count
    go (yes l) = ltb-true w m.count (fits_counted (fixed_on m.ring) (stood m w) (ltb w m.count) busy
        (place_of_lem (fixed_on m.ring) m.meter (record_of_worker m.workers w) (ltb w m.count) (pic.unbroken.fits w l)))
    go (no z) =
        let over : length m.workers ≤ w = omega (arith, pic.workers_long) in
        absurd (true≢false (sym (rw (ap (λ (y : Worker). y.place) (get_or-eq_default m.workers idler over)) at busy)))

-- what holds of the place that changed and of every other holds of all
set_places : (ws : List Worker) (w : ℕ) (r : Worker) (P : ℕ → Place → Type 0) → w < length ws → P w r.place → ((j : ℕ) → j ≢ w → P j (place_of ws j))
    → (j : ℕ) → P j (place_of (set ws w r) j)
set_places ws w r P l new old j = go (ℕ_discrete j w)
  where
    go : Dec (j ≡ w) → P j (place_of (set ws w r) j)
    go (yes e) = rw e (subst (λ (z : Worker). P w z.place) (sym (get_or-set_same ws w r idler l)) new)
    go (no ne) = subst (λ (z : Worker). P j z.place) (sym (get_or-set_other ws w j r idler ne)) (old j ne)

pub idle_is : (p : Place) → (view_of p).busy ≡ false → (a : Answer) × (p ≡ Idle a)
idle_is (Idle a) h = (a, refl)
idle_is (P1 k x) h = absurd (true≢false h)
idle_is (P2 k t x) h = absurd (true≢false h)
idle_is (P3 k t x) h = absurd (true≢false h)
idle_is (P4 t x) h = absurd (true≢false h)
idle_is (P5 t) h = absurd (true≢false h)
idle_is (P6 t x) h = absurd (true≢false h)
idle_is (F6 t x) h = absurd (true≢false h)
idle_is (F7 t x) h = absurd (true≢false h)
idle_is (F8 t x) h = absurd (true≢false h)
idle_is (F9 t old) h = absurd (true≢false h)
idle_is O1 h = absurd (true≢false h)
idle_is (O2 w) h = absurd (true≢false h)
idle_is (O3 w) h = absurd (true≢false h)
idle_is (O4 w) h = absurd (true≢false h)
idle_is (O5 w v) h = absurd (true≢false h)
idle_is (O6 w) h = absurd (true≢false h)
idle_is Len1 h = absurd (true≢false h)
idle_is (Len2 t) h = absurd (true≢false h)
idle_is (Len3 t w) h = absurd (true≢false h)
idle_is Empty1 h = absurd (true≢false h)
idle_is (Empty2 w) h = absurd (true≢false h)
idle_is Full1 h = absurd (true≢false h)
idle_is (Full2 t) h = absurd (true≢false h)
idle_is Close1 h = absurd (true≢false h)
idle_is IsClosed1 h = absurd (true≢false h)

-- an idle worker has nothing in hand
pub idle_hand : (c mark i : ℕ) (p : Place) → (view_of p).busy ≡ false → HandAt mark (look c p) i → ⊥
idle_hand c mark i p h o = let e = (idle_is p h).1 in subst (λ (z : Place). HandAt mark (look c z) i) e o

pub hand_busy : (c mark i : ℕ) (p : Place) → HandAt mark (look c p) i → (view_of p).busy ≡ true
hand_busy c mark i p o = go (view_of p).busy refl
  where
    go : (b : Bool) → (view_of p).busy ≡ b → b ≡ true
    go true e = refl
    go false e = absurd (idle_hand c mark i p e o)

-- a hand is on the slot at the index of its worker's word
pub hand_spot : (c mark ed i : ℕ) (p : Place) → HandAt mark (look c p) i → i ≡ spot_of (fixed c mark ed) (view_of p).held
hand_spot c mark ed i (Idle a) h = absurd h
hand_spot c mark ed i (P1 k x) h = absurd h
hand_spot c mark ed i (P2 k t x) h = sym h.1
hand_spot c mark ed i (P3 k t x) h = sym h.1
hand_spot c mark ed i (P4 t x) h = sym h.1
hand_spot c mark ed i (P5 t) h = sym h.1
hand_spot c mark ed i (P6 t x) h = sym h.1
hand_spot c mark ed i (F6 t x) h = sym h.1
hand_spot c mark ed i (F7 t x) h = sym h.1
hand_spot c mark ed i (F8 t x) h = sym h.1
hand_spot c mark ed i (F9 t old) h = sym h.1
hand_spot c mark ed i O1 h = absurd h
hand_spot c mark ed i (O2 w) h = sym h.1
hand_spot c mark ed i (O3 w) h = sym h.1
hand_spot c mark ed i (O4 w) h = sym h.1
hand_spot c mark ed i (O5 w v) h = sym h.1
hand_spot c mark ed i (O6 w) h = sym h.1
hand_spot c mark ed i Len1 h = absurd h
hand_spot c mark ed i (Len2 t) h = absurd h
hand_spot c mark ed i (Len3 t w) h = absurd h
hand_spot c mark ed i Empty1 h = absurd h
hand_spot c mark ed i (Empty2 w) h = absurd (true≢false (sym h.0))
hand_spot c mark ed i Full1 h = absurd h
hand_spot c mark ed i (Full2 t) h = absurd h
hand_spot c mark ed i Close1 h = absurd h
hand_spot c mark ed i IsClosed1 h = absurd h

-- a call begins with no word
begin_calm : (c : ℕ) (q : Call) → look c (begin_of q) ≡ Calm Nothing
begin_calm c (call.Push x) = refl
begin_calm c (call.ForcePush x) = refl
begin_calm c call.Pop = refl
begin_calm c call.Len = refl
begin_calm c call.IsEmpty = refl
begin_calm c call.IsFull = refl
begin_calm c call.Close = refl
begin_calm c call.IsClosed = refl

-- an act makes at most one claim
grows : (c : ℕ) (s : Shared) (w i : ℕ) (e : Effect) → (after c w i e s).tail ≤ s.tail + 1
grows c s w i Still = omega arith
grows c s w i (Tailed x) = omega arith
grows c s w i Taken = omega arith
grows c s w i Grabbed = omega arith
grows c s w i (Forced k x) = omega arith
grows c s w i (Fills k a) = omega arith
grows c s w i (Swaps k a) = omega arith
grows c s w i (Frees k y) = omega arith
grows c s w i (Gives k y v) = omega arith

spot_below : (f : Fixed) (h : Held) → 0 < f.capacity → fits_of f h ≡ true → spot_of f h < f.capacity
spot_below f held.Nothing pos k = pos
spot_below f (held.End t) pos k = (fits_plain f t k).low
spot_below f (held.Tail t) pos k = pos
spot_below f (held.Both t w) pos k = pos

module _ (bits : Width) (c n workers : ℕ) (base : Base bits c n workers) (s : Shared) (m : Machine) (pic : Pictured c n workers s m) (w : ℕ) (team : w < m.count) where
  abbrev mark : ℕ
  mark = mark_of c

  abbrev ed : ℕ
  ed = m.ring.edition

  seat : w < length m.workers
  seat = omega (arith, pic.workers_long, few_workers m pic.unbroken)

  -- a call begun
  pub begun_pictured : (q : Call) → (view_of (stood m w)).busy ≡ false → Pictured c n workers s (begun m w (begin_of q))
  unfolding begun
  begun_pictured q idle =
      record {
        inv = pic.inv;
        records = pic.records;
        unbroken = begun_unbroken m pic.unbroken w team q;
        rule = pic.rule;
        count = pic.count;
        shut = pic.shut;
        ends = pic.ends;
        slots_long = pic.slots_long;
        slots = pic.slots;
        workers_long = length-set m.workers w (beginner (begin_of q)) ∙ pic.workers_long;
        ages = pic.ages;
        stands =
            set_places m.workers w (beginner (begin_of q)) (λ j p. Stands c mark n s j (pic.ages j) (look c p)) seat (rw (begin_calm c q) tt) (λ j ne. pic.stands j);
        back =
            λ i l j mine.
            set_places m.workers w (beginner (begin_of q)) (λ v p. Mine v (s.cell i) → HandAt mark (look c p) i) seat
            (λ z. absurd (idle_hand c mark i (stood m w) idle (pic.back i l w z)))
            (λ v ne z. pic.back i l v z) j mine;
        claims_few = pic.claims_few;
        meter_few = pic.meter_few;
      }

  pub begun_shut : (q : Call) (idle : (view_of (stood m w)).busy ≡ false) → (begun_pictured q idle).shut ≡ pic.shut
  unfolding begun_pictured
  begun_shut q idle = refl

  pub begun_ages : (q : Call) (idle : (view_of (stood m w)).busy ≡ false) → (begun_pictured q idle).ages ≡ pic.ages
  unfolding begun_pictured
  begun_ages q idle = refl

  module _ (lose : Bool) (busy : (view_of (stood m w)).busy ≡ true) where
    abbrev pub spot : ℕ
    spot = spot_of (fixed_on m.ring) (view_of (stood m w)).held

    abbrev pub result : Acted
    result = act_of bits (fixed_on m.ring) (ends_on m.ring) (get_or m.ring.slots spot (slot 0 0)) (stood m w) lose

    -- its worker's record afterwards
    abbrev pub new_record : Worker
    new_record = record_after (record_of_worker m.workers w) result.place result.loss

    pub spot_small : spot < c
    spot_small =
        let b : spot < m.ring.capacity =
        spot_below (fixed_on m.ring) (view_of (stood m w)).held (subst (λ (f : Fixed). 0 < f.capacity) (sym pic.rule) base.ground.laws.some) (word_fits_in m pic.unbroken w team busy) in
        subst (λ (z : ℕ). spot < z) (ap (λ (f : Fixed). f.capacity) pic.rule) b

    -- where the acting worker stands afterwards
    pub acted_stood : stood (acted bits m w (stood m w) lose) w ≡ result.place
    unfolding acted_by stored record_after
    acted_stood = ap (λ (z : Worker). z.place) (get_or-set_same m.workers w new_record idler seat)

    -- the acting worker's hand is on the slot of its act
    hand_here : (i : ℕ) → HandAt mark (look c (stood m w)) i → i ≡ spot
    hand_here i h = hand_spot c mark ed i (stood m w) h ∙ ap (λ (f : Fixed). spot_of f (view_of (stood m w)).held) (sym pic.rule)

    -- the acting worker has no other slot in hand
    pub alone : (i : ℕ) → i < c → i ≢ spot → Mine w (s.cell i) → ⊥
    alone i l ne mine = ne (hand_here i (pic.back i l w mine))

    -- the ages afterwards
    abbrev pub new_age : Age
    new_age = aged s (pic.ages w) (holding_at result.place)

    abbrev pub new_ages : ℕ → Age
    new_ages = upd pic.ages w new_age

    -- whose word is not too old
    module _ (young : Recent c mark n s (pic.ages w) (look c (stood m w))) where
      -- the act, as an effect on the ring
      pub stepped : Step bits c mark n ed s w spot (pic.ages w) pic.shut (stood m w) result
      stepped =
          let p : Place = stood m w in
          let o : Stands c mark n s w (pic.ages w) (look c p) = pic.stands w in
          let at : spot ≡ spot_of (fixed c mark ed) (view_of p).held = ap (λ (f : Fixed). spot_of f (view_of p).held) pic.rule in
          let same : result ≡ act_of bits (fixed c mark ed) (ends_of_ring c mark n s pic.shut) (slot_of_ring c mark n (s.cell spot) (s.val spot)) p lose =
          ap (λ (f : Fixed). act_of bits f (ends_on m.ring) (get_or m.ring.slots spot (slot 0 0)) p lose) pic.rule
          ∙ ap (λ (e : Ends). act_of bits (fixed c mark ed) e (get_or m.ring.slots spot (slot 0 0)) p lose) pic.ends
          ∙ ap (λ (z : Slot). act_of bits (fixed c mark ed) (ends_of_ring c mark n s pic.shut) z p lose) (pic.slots spot spot_small) in
          subst (Step bits c mark n ed s w spot (pic.ages w) pic.shut p) (sym same)
          (step bits c mark n ed base.ground s pic.inv w spot spot_small (pic.ages w) pic.shut p lose busy at o young)

      abbrev pub effect : Effect
      effect = stepped.effect

      abbrev pub next : Shared
      next = after c w spot effect s

      pub coursed : Course c s next w spot
      coursed = course c s w spot spot_small pic.inv effect stepped.fits

      slots_next : (i : ℕ) → i < c → Dec (i ≡ spot) → get_or (set m.ring.slots spot result.slot) i (slot 0 0) ≡ slot_of_ring c mark n (next.cell i) (next.val i)
      slots_next i l (yes e) =
          let in_list : spot < length m.ring.slots = omega (arith, spot_small, base.few, pic.slots_long) in
          rw e (get_or-set_same m.ring.slots spot result.slot (slot 0 0) in_list ∙ stepped.slot)
      slots_next i l (no ne) =
          get_or-set_other m.ring.slots spot i result.slot (slot 0 0) ne ∙ pic.slots i l
          ∙ sym (rw (cell_course c s next w spot coursed i ne, val_course c s next w spot coursed i ne))

      back_next : (i : ℕ) → i < c → (j : ℕ) → Mine j (next.cell i) → HandAt mark (look c (place_of (set m.workers w new_record) j)) i
      unfolding record_after
      back_next i l =
          λ j mine.
          set_places m.workers w new_record (λ v p. Mine v (next.cell i) → HandAt mark (look c p) i) seat (own (ℕ_discrete i spot)) (λ v ne. other v ne (ℕ_discrete i spot)) j mine
        where
          own : Dec (i ≡ spot) → Mine w (next.cell i) → HandAt mark (look c result.place) i
          own (yes e) z = rw e (stepped.grip (pic.back spot spot_small w) (rw e at z))
          own (no ne) z = absurd (ne (hand_here i (pic.back i l w (rw (cell_course c s next w spot coursed i ne) at z))))

          other : (v : ℕ) → v ≢ w → Dec (i ≡ spot) → Mine v (next.cell i) → HandAt mark (look c (stood m v)) i
          other v ne (yes e) z = rw e (pic.back spot spot_small v (mine_after c s w spot spot_small pic.inv effect stepped.fits v ne (rw e at z)))
          other v ne (no far) z = pic.back i l v (rw (cell_course c s next w spot coursed i far) at z)

      pub acted_pictured : m.meter < meter_most → Pictured c n workers next (acted bits m w (stood m w) lose)
      unfolding acted_by stored record_after
      acted_pictured early =
          record {
            inv = inv_after c s w spot spot_small pic.inv effect stepped.fits;
            records = pic.records;
            unbroken = acted_unbroken m pic.unbroken w team bits lose busy;
            rule = pic.rule;
            count = pic.count;
            shut = stepped.shut;
            ends = stepped.ends;
            slots_long = length-set m.ring.slots spot result.slot ∙ pic.slots_long;
            slots = λ i l. slots_next i l (ℕ_discrete i spot);
            workers_long = length-set m.workers w new_record ∙ pic.workers_long;
            ages = new_ages;
            stands =
                set_places m.workers w new_record (λ j p. Stands c mark n next j (new_ages j) (look c p)) seat (rw (upd_same pic.ages w new_age) stepped.stands)
                (λ j ne. rw (upd_else pic.ages w j new_age ne) (stands_else c mark n s next w spot pic.inv coursed j ne (pic.ages j) (look c (stood m j)) (pic.stands j)));
            back = back_next;
            claims_few = omega (arith, grows c s w spot effect, pic.claims_few);
            meter_few = omega arith;
          }

      pub acted_shut : (early : m.meter < meter_most) → (acted_pictured early).shut ≡ stepped.shut
      unfolding acted_pictured
      acted_shut early = refl

      pub acted_ages : (early : m.meter < meter_most) → (acted_pictured early).ages ≡ new_ages
      unfolding acted_pictured
      acted_ages early = refl

      -- if it has the slot of its act in hand afterwards then it has not answered
      pub holding : Mine w (next.cell spot) → (view_of result.place).busy ≡ true
      holding mine = hand_busy c mark spot result.place (stepped.grip (pic.back spot spot_small w) mine)
