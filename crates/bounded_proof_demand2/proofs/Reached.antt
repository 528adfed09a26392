-- Every machine that a schedule reaches from a fresh one is the picture of a ring, and its history is that ring's.
use mathlib.Core.Path.{◌≡◌, refl, sym, ap, ◌∙◌, subst}
use mathlib.Core.Bool.{Bool, true, false, cond, true≢false}
use mathlib.Core.List.{List, [], ◌∷◌, ◌++◌, append_assoc, append-nil}
use Prim.Native.Nat.{ℕ, zero, suc, ◌+◌, ◌*◌, ◌-◌, ◌/◌, ◌%◌, ◌≤◌, ◌<◌}
use native.Mathlib.Omega.{arith}
use native.Mathlib.Nat.{mod-eq_of_lt, mul-le-mul_left, mul-le-mul_right, div-mul_cancel}
use native.Mathlib.Decide.{dec_lt, ℕ_discrete}
use lib.Dec.{ltb, eqb}
use lib.ListN.{length, get_or, set, replicate, length-append, length-set, length-replicate}
use lib.Seq.{get_or-set_same, get_or-set_other}
use borrow.Author.Tests.{eqb-true, eq-eqb, ne_eqb, le-leb, lt-ltb}
use Rattle.queue_entries.specs.Schedules.{run_by, history_by}
use Rattle.queue_entries.specs.Limits.{meter_most, in_limits}
use Rattle.queue_entries.specs.declared.Call.{Call}
use Rattle.queue_entries.specs.declared.Order.TheVariants.{Begin, Act}
use Rattle.queue_entries.specs.declared.Entry.{Entry}
use Rattle.queue_entries.specs.declared.Entry.TheVariants.{Unreadable, Asks}
use Rattle.queue_entries.specs.Entries.{entry_of}
use Rattle.queue_rows.proofs.Alike.{all_alike}
use Rattle.bounded_words.specs.declared.Fixed.{Fixed}
use Rattle.bounded_words.specs.declared.Width.{Width}
use Rattle.bounded_words.specs.declared.Width.TheVariants.{SixtyFour}
use Rattle.bounded_words.specs.Limits.{slots_most, editions_most}
use Rattle.bounded_words.specs.Words.{stamp, width_of, mark_of, lap_of, fixed_of, marked_of, index_of}
use Rattle.bounded_words.proofs.Marks.{Ruled, ruled, narrow_least}
use Rattle.bounded_places.specs.declared.Slot.{Slot}
use Rattle.bounded_places.specs.declared.Place.{Place}
use Rattle.bounded_places.specs.declared.Place.TheVariants.{Idle}
use Rattle.bounded_places.specs.declared.Answer.TheVariants.{Nothing}
use Rattle.bounded_places.specs.declared.Worker.{Worker}
use Rattle.bounded_places.specs.Places.{inside, view_of, begin_of}
use Rattle.bounded_machine.specs.declared.Machine.{Machine}
use Rattle.bounded_machine.specs.declared.Event.{Event}
use Rattle.bounded_machine.specs.Machine.{slot, empty_slots, stamped, fresh_slots, idler, idlers, record_of_worker, starts, fresh_with}
use Rattle.bounded_machine.specs.Broken.{by_rule, ends_fit, place_fits, record_fits}
use Rattle.bounded_machine.specs.Turn.{turn_at, turn_of_by, begun, acted, acted_by, stored}
use Rattle.bounded_machine.specs.Run.{ran, run_at}
use Rattle.bounded_machine.specs.History.{loss_at, events_of, history_at, moved_of, tally_of}
use Rattle.bounded_machine.proofs.Kept.{UnbrokenWith, ends_of}
use Rattle.bounded_demands.specs.Notions.{of_width, AllowedWith, start, items_of, tailers_of, takers_of, tail_by, head_by, tally, holding_at, holds, is_new, gives_to}
use Rattle.bounded_demands.specs.Notions.{since_from, since, turn_length, InWidestWindow, KeepsWidestWindow}
use Rattle.bounded_proof_invariant.proofs.Width.{word, word_first}
use Rattle.bounded_proof_invariant.proofs.Upd.{upd, upd_same, upd_else}
use Rattle.bounded_proof_invariant.proofs.Ring.{Await, Shared}
use Rattle.bounded_proof_each_act.proofs.Stamps.{fixed, tail_word, index_tail, marked_tail}
use Rattle.bounded_proof_each_act.proofs.Sight.{Age, look, told, ends_of_ring, Young, Recent}
use Rattle.bounded_proof_demand2.proofs.Turns.{Turned, began, did, turned, stood, event_of}
use Rattle.bounded_proof_demand2.proofs.Pictured.{Base, Pictured, begun_pictured, begun_shut, begun_ages, acted_pictured, acted_shut, acted_ages}
use Rattle.bounded_proof_demand2.proofs.Pictured.{new_age, stepped, spot, spot_small, next, result, acted_stood, alone, holding}
use Rattle.bounded_proof_demand2.proofs.Logged.{Logged, logged_after, moved_by, shows}
use Rattle.bounded_proof_demand2.proofs.Window.{Dated, since_end, claims_after, dated_more, dated_own, window_young, recent_of}
use Rattle.bounded_proof_demand2.proofs.Runs.{any_place}

-- how many laps there are to the width
pub laps_of : Width → ℕ → ℕ
laps_of bits c = width_of bits / (2 * mark_of c)

module _ (bits : Width) (records c workers edition : ℕ) (a : AllowedWith records c workers edition) where
  r : Ruled (fixed_of c edition)
  r = ruled (fixed_of c edition) a.slot_some a.slot_most refl refl

  whole : laps_of bits c * (2 * mark_of c) ≡ width_of bits
  unfolding laps_of
  whole = div-mul_cancel _ (r.laps bits)

  -- so many laps that their words fill the width
  pub many : (k : ℕ) → k * (4 * (slots_most + 1)) < width_of bits → k < laps_of bits c
  many k small = go (dec_lt k (laps_of bits c))
    where
      go : Dec (k < laps_of bits c) → k < laps_of bits c
      go (yes l) = l
      go (no z) =
          let few : laps_of bits c ≤ k = omega arith in
          let lap : 2 * mark_of c ≤ 4 * (slots_most + 1) = omega (arith, r.small) in
          absurd (omega (arith, mul-le-mul_left (laps_of bits c) lap, mul-le-mul_right (4 * (slots_most + 1)) few, whole))

  pub base_of : Base bits c (laps_of bits c) workers
  base_of =
      record {
        ground =
            record {
              laws = record { some = a.slot_some; room = r.room; laps = many 2 (omega (arith, narrow_least bits)) };
              whole = whole;
            };
        few = a.slot_most;
      }

-- of 64 bits there are more than acts
pub long : (records c workers edition : ℕ) → AllowedWith records c workers edition → meter_most + 2 * slots_most < laps_of SixtyFour c
long records c workers edition a = many SixtyFour records c workers edition a (meter_most + 2 * slots_most) (omega arith)

-- The fresh machine.

pub fresh_record : (records c workers ed w : ℕ) → record_of_worker (fresh_with records c workers ed).workers w ≡ idler
unfolding fresh_with idlers
fresh_record records c workers ed w = all_alike records w idler

fresh_stood : (records c workers ed w : ℕ) → stood (fresh_with records c workers ed) w ≡ Idle Nothing
fresh_stood records c workers ed w = ap (λ (z : Worker). z.place) (fresh_record records c workers ed w)

pub fresh_records : (records c workers ed : ℕ) → length (fresh_with records c workers ed).workers ≡ records
unfolding fresh_with idlers
fresh_records records c workers ed = length-replicate records idler

pub fresh_seats : (records c workers ed : ℕ) → workers ≤ records → (w : ℕ) → w < (fresh_with records c workers ed).count → w < length (fresh_with records c workers ed).workers
unfolding fresh_with
fresh_seats records c workers ed few w l = omega (arith, fresh_records records c workers ed)

stamped_long : (k : ℕ) (l : List Slot) → length (stamped k l) ≡ length l
unfolding stamped
stamped_long zero l = refl
stamped_long (suc k) l = length-set (stamped k l) k (slot k 0) ∙ stamped_long k l

stamped_at : (k : ℕ) (l : List Slot) (i : ℕ) → k ≤ length l → i < k → get_or (stamped k l) i (slot 0 0) ≡ slot i 0
unfolding stamped
stamped_at zero l i b h = absurd (omega arith)
stamped_at (suc k) l i b h = go (λ (z : i < k). stamped_at k l i (omega arith) z) (ℕ_discrete i k)
  where
    go : (i < k → get_or (stamped k l) i (slot 0 0) ≡ slot i 0) → Dec (i ≡ k) → get_or (set (stamped k l) k (slot k 0)) i (slot 0 0) ≡ slot i 0
    go rest (yes e) =
        let in_list : k < length (stamped k l) = omega (arith, stamped_long k l) in
        rw e (get_or-set_same (stamped k l) k (slot k 0) (slot 0 0) in_list)
    go rest (no ne) = get_or-set_other (stamped k l) k i (slot k 0) (slot 0 0) ne ∙ rest (omega arith)

pub fresh_long : (c : ℕ) → length (fresh_slots c) ≡ slots_most
unfolding fresh_slots empty_slots
fresh_long c = stamped_long c (replicate slots_most (slot 0 0)) ∙ length-replicate slots_most (slot 0 0)

pub fresh_at : (c i : ℕ) → c ≤ slots_most → i < c → get_or (fresh_slots c) i (slot 0 0) ≡ slot i 0
unfolding fresh_slots empty_slots
fresh_at c i few l = stamped_at c (replicate slots_most (slot 0 0)) i (omega (arith, length-replicate slots_most (slot 0 0))) l

pub ring0 : Shared
ring0 =
    record {
      head = 0;
      tail = 0;
      cell = Await;
      val = λ i. 0;
      item = λ k. 0;
      taker = λ k. 0;
      tailer = λ k. 0;
      written = λ k. false;
    }

pub limits_true : (k most : ℕ) → 0 < k → k ≤ most → in_limits k most ≡ true
unfolding in_limits
limits_true k most some few = rw (ne_eqb k 0 (λ e. omega arith)) (le-leb k most few)

rule_true : (c ed : ℕ) → by_rule (fixed_of c ed) ≡ true
unfolding by_rule
rule_true c ed = rw (eq-eqb (mark_of c) (mark_of c) refl) (eq-eqb (lap_of c) (lap_of c) refl)

idle_fits : (c ed : ℕ) (r : Worker) (b : Bool) → r ≡ idler → record_fits (fixed_of c ed) 0 r b ≡ true
unfolding record_fits place_fits
idle_fits c ed r b e = rw e

module _ (bits : Width) (c n workers ed : ℕ) (base : Base bits c n workers) where
  zero_word : word c (mark_of c) n 0 ≡ 0
  zero_word = word_first c (mark_of c) n base.ground.laws 0 base.ground.laws.some

  starts_are : starts ≡ ends_of_ring c (mark_of c) n ring0 false
  unfolding ring0
  starts_are = rw zero_word

  starts_fit : ends_fit (fixed_of c ed) starts ≡ true
  unfolding inside
  starts_fit =
      let some = base.ground.laws.some in
      let i : (tail_word c (mark_of c) n 0 false).0 % mark_of c ≡ 0 % c = index_tail bits c (mark_of c) n base.ground 0 false in
      let m : marked_of (fixed c (mark_of c) ed) (tail_word c (mark_of c) n 0 false) ≡ false = marked_tail bits c (mark_of c) n base.ground ed 0 false in
      let z : 0 % c ≡ 0 = mod-eq_of_lt some in
      let low : index_of (fixed_of c ed) (stamp 0) < c = omega (arith, ap (λ (k : ℕ). k % mark_of c) zero_word) in
      ends_of (fixed_of c ed) starts (record { unmarked = rw zero_word at m; low = low }) (lt-ltb (index_of (fixed_of c ed) (stamp 0)) c low)

  module _ (records : ℕ) (team : workers ≤ records) (some : 0 < workers) (first : 0 < ed) (last : ed ≤ editions_most) where
    fresh_unbroken : UnbrokenWith records (fresh_with records c workers ed)
    unfolding fresh_with
    fresh_unbroken =
        record {
          capacity = limits_true c slots_most base.ground.laws.some base.few;
          count = limits_true workers records some team;
          edition = limits_true ed editions_most first last;
          rule = rule_true c ed;
          ends = starts_fit;
          fits = λ i l. idle_fits c ed _ (ltb i workers) (fresh_record records c workers ed i);
        }

    pub fresh_pictured : Pictured c n workers ring0 (fresh_with records c workers ed)
    unfolding fresh_with ring0
    fresh_pictured =
        record {
          inv = record { low = omega arith; high = omega arith; cells = λ i l. (mod-eq_of_lt l, omega arith, omega arith) };
          records = records;
          unbroken = fresh_unbroken;
          rule = refl;
          count = refl;
          shut = false;
          ends = starts_are;
          slots_long = fresh_long c;
          slots = λ i l. fresh_at c i base.few l ∙ rw (word_first c (mark_of c) n base.ground.laws i l);
          workers_long = fresh_records records c workers ed;
          ages = λ w. record { tail = 0; head = 0 };
          stands = λ w. rw (fresh_stood records c workers ed w) tt;
          back = λ i l w m. absurd m;
          claims_few = omega arith;
          meter_few = omega arith;
        }

pub fresh_dated : (bits : Width) (c n workers ed : ℕ) (base : Base bits c n workers) (records : ℕ) (team : workers ≤ records) (some : 0 < workers) (first : 0 < ed) (last : ed ≤ editions_most) (w : ℕ)
    → Dated ring0 ((fresh_pictured bits c n workers ed base records team some first last).ages w) (since w [])
unfolding ring0 fresh_pictured since_from tally_of
fresh_dated bits c n workers ed base records team some first last w = (refl, refl)

pub nil_split : {A : Type 0} (xs : List A) (y : A) (ys : List A) → [] ≡ xs ++ y ∷ ys → ⊥
nil_split [] y ys e = let q : ◌≡◌ {A = ℕ} 0 1 = cc in omega arith
nil_split (x ∷ xs) y ys e = let q : ◌≡◌ {A = ℕ} 0 1 = cc in omega arith

pub fresh_logged : (c : ℕ) → Logged c ring0 []
unfolding ring0 items_of tailers_of takers_of tally_of
fresh_logged c =
    record {
      lists =
          record {
            items_are = record { long = refl; at = λ k l. absurd (omega arith) };
            tailers_are = record { long = refl; at = λ k l. absurd (omega arith) };
            takers_are = record { long = refl; at = λ k l. absurd (omega arith) };
          };
      written = λ k e. absurd (true≢false (sym e));
      calls = λ i l st k w e t. absurd (let q : ◌≡◌ {A = ℕ} 0 1 = cc in omega arith);
      fifo = start;
      rule = λ earlier later act v e out. absurd (nil_split earlier act later e);
      past = λ earlier later act v k e out l. absurd (nil_split earlier act later e);
      once = λ earlier between later act again v u k e. absurd (nil_split (earlier ++ act ∷ between) again later e);
    }

pub fresh_metered : (records c workers ed : ℕ) → (fresh_with records c workers ed).meter ≡ 0
unfolding fresh_with
fresh_metered records c workers ed = refl

-- the meter rises with each act
begun_meter : (m : Machine) (w : ℕ) (q : Place) → (begun m w q).meter ≡ m.meter
unfolding begun
begun_meter m w q = refl

acted_meter : (bits : Width) (m : Machine) (w : ℕ) (p : Place) (lose : Bool) → (acted bits m w p lose).meter ≡ m.meter + 1
unfolding acted_by stored
acted_meter bits m w p lose = refl

-- What holds of a machine and of the acts behind it, and is kept by each accepted entry on a machine of which W holds, is kept along every list of entries each
-- of whose beginnings leads to such a machine.
module _ (bits : Width) (W P : Machine → List Event → Type 0)
    (kept : (m : Machine) (h : List Event) (en : Entry) (next : Machine) (acts : List Event) → P m h → W m h → Turned bits m en next acts → P next (h ++ acts)) where
  abbrev pub Each : Machine → List Event → List ℕ → Type 0
  Each m h s = (before after : List ℕ) → s ≡ before ++ after → W (run_at bits m 0 before).machine (h ++ history_at bits m before)

  now : (s : List ℕ) (m : Machine) (h : List Event) → Each m h s → W m h
  unfolding run_by history_by ran
  now s m h each = rw (append-nil h) at (each [] s refl)

  one_entry : (m : Machine) (h : List Event) (first second : ℕ) → P m h → W m h → (turn_at bits m first second).refusal ≡ 0
      → P (turn_at bits m first second).machine (h ++ events_of bits m (entry_of first second) (turn_at bits m first second).machine)
  unfolding turn_of_by
  one_entry m h first second p o e = kept m h (entry_of first second) _ _ p o (turned bits m (entry_of first second) e)

  later : (first second : ℕ) (rest : List ℕ) (m : Machine) (h : List Event) → eqb (turn_at bits m first second).refusal 0 ≡ true → Each m h (first ∷ second ∷ rest)
      → Each (turn_at bits m first second).machine (h ++ events_of bits m (entry_of first second) (turn_at bits m first second).machine) rest
  unfolding run_by history_by ran
  later first second rest m h e each before after q =
      let next = (turn_at bits m first second).machine in
      let new = events_of bits m (entry_of first second) (turn_at bits m first second).machine in
      let o : W (run_at bits next (0 + 1) before).machine (h ++ (new ++ history_at bits next before)) =
      rw e at (each (first ∷ second ∷ before) after (ap (λ (l : List ℕ). first ∷ second ∷ l) q)) in
      subst (λ (z : Machine). W z ((h ++ new) ++ history_at bits next before)) (any_place bits before next (0 + 1) 0)
      (subst (W (run_at bits next (0 + 1) before).machine) (sym (append_assoc h new (history_at bits next before))) o)

  pub along : (s : List ℕ) (m : Machine) (h : List Event) (place : ℕ) → Each m h s → P m h → P (run_at bits m place s).machine (h ++ history_at bits m s)
  unfolding run_by history_by ran
  along [] m h place each p = rw (append-nil h) p
  along (first ∷ []) m h place each p = rw (append-nil h) p
  along (first ∷ second ∷ rest) m h place each p =
      go (λ (more : Each (turn_at bits m first second).machine (h ++ events_of bits m (entry_of first second) (turn_at bits m first second).machine) rest)
      (q : P (turn_at bits m first second).machine (h ++ events_of bits m (entry_of first second) (turn_at bits m first second).machine)).
      along rest (turn_at bits m first second).machine (h ++ events_of bits m (entry_of first second) (turn_at bits m first second).machine) (place + 1) more q)
      (eqb (turn_at bits m first second).refusal 0) refl
    where
      go : (Each (turn_at bits m first second).machine (h ++ events_of bits m (entry_of first second) (turn_at bits m first second).machine) rest
          → P (turn_at bits m first second).machine (h ++ events_of bits m (entry_of first second) (turn_at bits m first second).machine)
          → P (run_at bits (turn_at bits m first second).machine (place + 1) rest).machine
          ((h ++ events_of bits m (entry_of first second) (turn_at bits m first second).machine) ++ history_at bits (turn_at bits m first second).machine rest))
          → (b : Bool) → eqb (turn_at bits m first second).refusal 0 ≡ b
          → P (cond b (run_at bits (turn_at bits m first second).machine (place + 1) rest) (ran (turn_at bits m first second).refusal place m)).machine
          (h ++ cond b (events_of bits m (entry_of first second) (turn_at bits m first second).machine ++ history_at bits (turn_at bits m first second).machine rest) [])
      go more true e =
          rw (← append_assoc h (events_of bits m (entry_of first second) (turn_at bits m first second).machine) (history_at bits (turn_at bits m first second).machine rest))
          (more (later first second rest m h e each) (one_entry m h first second p (now (first ∷ second ∷ rest) m h each) (eqb-true _ 0 e)))
      go more false e = rw (append-nil h) p

-- What is kept on any machine.
abbrev pub Any : Machine → List Event → Type 0
Any m h = Unit {0}

pub along_any : (bits : Width) (P : Machine → List Event → Type 0)
    → ((m : Machine) (h : List Event) (en : Entry) (next : Machine) (acts : List Event) → P m h → Turned bits m en next acts → P next (h ++ acts))
    → (s : List ℕ) (m : Machine) (h : List Event) (place : ℕ) → P m h → P (run_at bits m place s).machine (h ++ history_at bits m s)
along_any bits P kept s m h place p = along bits Any P (λ z k en next acts q o t. kept z k en next acts q t) s m h place (λ before after e. tt) p

-- What every reached machine has behind it.
pub record Reached (c n workers : ℕ) (m : Machine) (h : List Event) : Type 0 where
  pub ring : Shared
  pub pictured : Pictured c n workers ring m
  pub logged : Logged c ring h
  pub metered : m.meter ≡ length h
  -- the claims since each worker was given its word
  pub dated : (w : ℕ) → Dated ring (pictured.ages w) (since w h)

module _ (bits : Width) (c n workers : ℕ) (base : Base bits c n workers) where
  -- in the window no worker's word is too old
  module _ (m : Machine) (h : List Event) (r : Reached c n workers m h) (window : InWidestWindow bits m h) (w : ℕ) where
    pub young_in : holds (holding_at (stood m w)) ≡ true → Young c (mark_of c) n r.ring (r.pictured.ages w)
    young_in held =
        let f = fixed c (mark_of c) m.ring.edition in
        window_young bits c (mark_of c) n m.ring.edition base.ground r.ring (r.pictured.ages w) (since w h) (r.dated w)
        (subst (λ (z : Fixed). ((tally (since w h)).tail.0 < turn_length bits z - z.capacity) × ((tally (since w h)).head.0 < turn_length bits z - z.capacity)) r.pictured.rule (window w held))

    pub recent_in : Recent c (mark_of c) n r.ring (r.pictured.ages w) (look c (stood m w))
    recent_in = recent_of bits c (mark_of c) n m.ring.edition base.ground r.ring (r.pictured.ages w) (stood m w) young_in

  -- the word of the worker that an entry asks to act is not too old
  abbrev pub Fit : {m : Machine} {h : List Event} → Reached c n workers m h → Entry → Type 0
  Fit r Unreadable = Unit {0}
  Fit r (Asks w (Begin q)) = Unit {0}
  Fit {m} {h} r (Asks w (Act lose)) = Recent c (mark_of c) n r.ring (r.pictured.ages w) (look c (stood m w))

  abbrev pub fit_in : (m : Machine) (h : List Event) (r : Reached c n workers m h) → InWidestWindow bits m h → (en : Entry) → Fit r en
  fit_in m h r window Unreadable = tt
  fit_in m h r window (Asks w (Begin q)) = tt
  fit_in m h r window (Asks w (Act lose)) = recent_in m h r window w

  module _ (m : Machine) (h : List Event) (r : Reached c n workers m h) (w : ℕ) (l : w < m.count) where
    abbrev pic : Pictured c n workers r.ring m
    pic = r.pictured

    dated_begun : (q : Call) (idle : (view_of (stood m w)).busy ≡ false) (j : ℕ) → Dated r.ring ((begun_pictured bits c n workers base r.ring m pic w l q idle).ages j) (since j (h ++ []))
    dated_begun q idle j = rw (append-nil h, begun_ages bits c n workers base r.ring m pic w l q idle) (r.dated j)

    module _ (lose : Bool) (busy : (view_of (stood m w)).busy ≡ true) (young : Recent c (mark_of c) n r.ring (pic.ages w) (look c (stood m w))) where
      abbrev u : Shared
      u = next bits c n workers base r.ring m pic w l lose busy young

      abbrev new : Event
      new = event_of bits m w lose (acted bits m w (stood m w) lose)

      went : stood (acted bits m w (stood m w) lose) w ≡ (result bits c n workers base r.ring m pic w l lose busy).place
      went = acted_stood bits c n workers base r.ring m pic w l lose busy

      -- what the act claimed
      pub grown : (u.tail ≡ r.ring.tail + length (tail_by (moved_of (result bits c n workers base r.ring m pic w l lose busy).place) 0))
          × (u.head ≡ r.ring.head + length (head_by (moved_of (result bits c n workers base r.ring m pic w l lose busy).place) 0))
      grown =
          let st = stepped bits c n workers base r.ring m pic w l lose busy young in
          let moved_is : moved_of (result bits c n workers base r.ring m pic w l lose busy).place ≡ moved_by (told st.effect) =
          (shows c (result bits c n workers base r.ring m pic w l lose busy).place).1 ∙ ap moved_by st.tells in
          rw moved_is (claims_after c r.ring w (spot bits c n workers base r.ring m pic w l lose busy) st.effect)

      grown_new : (u.tail ≡ r.ring.tail + length (tail_by (moved_of new.after) 0)) × (u.head ≡ r.ring.head + length (head_by (moved_of new.after) 0))
      grown_new = rw went grown

      since_own : since w (h ++ new ∷ []) ≡ cond (is_new (holding_at (result bits c n workers base r.ring m pic w l lose busy).place)) [] (since w h ++ new ∷ [])
      since_own =
          let own : gives_to w new ≡ is_new (holding_at new.after) = ap (λ (b : Bool). cond b (is_new (holding_at new.after)) false) (eq-eqb w w refl) in
          since_end w [] h new ∙ ap (λ (b : Bool). cond b [] (since w h ++ new ∷ [])) (own ∙ ap (λ (p : Place). is_new (holding_at p)) went)

      dated_did : (early : m.meter < meter_most) (j : ℕ) → Dated u ((acted_pictured bits c n workers base r.ring m pic w l lose busy young early).ages j) (since j (h ++ new ∷ []))
      dated_did early j = rw (acted_ages bits c n workers base r.ring m pic w l lose busy young early) (go (ℕ_discrete j w))
        where
          go : Dec (j ≡ w) → Dated u (upd pic.ages w (new_age bits c n workers base r.ring m pic w l lose busy) j) (since j (h ++ new ∷ []))
          go (yes e) =
              rw (e, upd_same pic.ages w (new_age bits c n workers base r.ring m pic w l lose busy), since_own)
              (dated_own r.ring u (pic.ages w) (since w h) new grown_new (r.dated w) (holding_at (result bits c n workers base r.ring m pic w l lose busy).place) (ap holding_at (sym went)))
          go (no ne) =
              rw (upd_else pic.ages w j (new_age bits c n workers base r.ring m pic w l lose busy) ne, since_end j [] h new, ne_eqb w j (λ q. ne (sym q)))
              (dated_more r.ring u (pic.ages j) (since j h) new grown_new (r.dated j))

  -- an accepted entry leads from one to the next
  pub entered : (m : Machine) (h : List Event) (en : Entry) (next_machine : Machine) (acts : List Event) (r : Reached c n workers m h) → Fit r en
      → Turned bits m en next_machine acts → Reached c n workers next_machine (h ++ acts)
  entered m h en next_machine acts r fit (began w call l idle) =
      record {
        ring = r.ring;
        pictured = begun_pictured bits c n workers base r.ring m r.pictured w l call idle;
        logged = rw (append-nil h) r.logged;
        metered = begun_meter m w (begin_of call) ∙ r.metered ∙ ap length (sym (append-nil h));
        dated = dated_begun m h r w l call idle;
      }
  entered m h en next_machine acts r fit (did w lose l busy early) =
      let pic = r.pictured in
      let st = stepped bits c n workers base r.ring m pic w l lose busy fit in
      record {
        ring = next bits c n workers base r.ring m pic w l lose busy fit;
        pictured = acted_pictured bits c n workers base r.ring m pic w l lose busy fit early;
        logged =
            rw (acted_stood bits c n workers base r.ring m pic w l lose busy)
            (logged_after c r.ring pic.inv w _ (spot_small bits c n workers base r.ring m pic w l lose busy) st.effect st.fits h r.logged (stood m w)
            (result bits c n workers base r.ring m pic w l lose busy).place (loss_at bits m w lose) st.tells st.writes
            (alone bits c n workers base r.ring m pic w l lose busy) (holding bits c n workers base r.ring m pic w l lose busy fit));
        metered =
            acted_meter bits m w (stood m w) lose ∙ ap (λ (k : ℕ). k + 1) r.metered
            ∙ sym (length-append h (event_of bits m w lose (acted bits m w (stood m w) lose) ∷ []));
        dated = dated_did m h r w l lose busy fit early;
      }

  -- the ring and the mark behind a machine, and what an entry makes of them
  abbrev pub marked_ring : {m : Machine} {h : List Event} → Reached c n workers m h → Shared × Bool
  marked_ring r = (r.ring, r.pictured.shut)

  module _ (m : Machine) (h : List Event) (r : Reached c n workers m h) (w : ℕ) (l : w < m.count) where
    pub begun_behind : (q : Call) (idle : (view_of (stood m w)).busy ≡ false)
        → marked_ring (entered m h (Asks w (Begin q)) (begun m w (begin_of q)) [] r tt (began w q l idle)) ≡ marked_ring r
    unfolding entered
    begun_behind q idle = ap (λ (b : Bool). (r.ring, b)) (begun_shut bits c n workers base r.ring m r.pictured w l q idle)

    pub did_behind : (lose : Bool) (busy : (view_of (stood m w)).busy ≡ true) (young : Recent c (mark_of c) n r.ring (r.pictured.ages w) (look c (stood m w))) (early : m.meter < meter_most)
        → marked_ring (entered m h (Asks w (Act lose)) (acted bits m w (stood m w) lose) (event_of bits m w lose (acted bits m w (stood m w) lose) ∷ []) r young (did w lose l busy early))
        ≡ (next bits c n workers base r.ring m r.pictured w l lose busy young, (stepped bits c n workers base r.ring m r.pictured w l lose busy young).shut)
    unfolding entered
    did_behind lose busy young early =
        ap (λ (b : Bool). (next bits c n workers base r.ring m r.pictured w l lose busy young, b)) (acted_shut bits c n workers base r.ring m r.pictured w l lose busy young early)

    -- ring, mark and ages afterwards, together
    pub begun_after : (q : Call) (idle : (view_of (stood m w)).busy ≡ false) (Q : Shared → Bool → (ℕ → Age) → Type 0) → Q r.ring r.pictured.shut r.pictured.ages
        → Q (entered m h (Asks w (Begin q)) (begun m w (begin_of q)) [] r tt (began w q l idle)).ring
        (entered m h (Asks w (Begin q)) (begun m w (begin_of q)) [] r tt (began w q l idle)).pictured.shut
        (entered m h (Asks w (Begin q)) (begun m w (begin_of q)) [] r tt (began w q l idle)).pictured.ages
    unfolding entered
    begun_after q idle Q o =
        subst (λ (b : Bool). Q r.ring b (begun_pictured bits c n workers base r.ring m r.pictured w l q idle).ages)
        (sym (begun_shut bits c n workers base r.ring m r.pictured w l q idle))
        (subst (Q r.ring r.pictured.shut) (sym (begun_ages bits c n workers base r.ring m r.pictured w l q idle)) o)

    pub did_after : (lose : Bool) (busy : (view_of (stood m w)).busy ≡ true) (young : Recent c (mark_of c) n r.ring (r.pictured.ages w) (look c (stood m w))) (early : m.meter < meter_most)
        (Q : Shared → Bool → (ℕ → Age) → Type 0)
        → Q (next bits c n workers base r.ring m r.pictured w l lose busy young) (stepped bits c n workers base r.ring m r.pictured w l lose busy young).shut
        (upd r.pictured.ages w (new_age bits c n workers base r.ring m r.pictured w l lose busy))
        → Q (entered m h (Asks w (Act lose)) (acted bits m w (stood m w) lose) (event_of bits m w lose (acted bits m w (stood m w) lose) ∷ []) r young (did w lose l busy early)).ring
        (entered m h (Asks w (Act lose)) (acted bits m w (stood m w) lose) (event_of bits m w lose (acted bits m w (stood m w) lose) ∷ []) r young (did w lose l busy early)).pictured.shut
        (entered m h (Asks w (Act lose)) (acted bits m w (stood m w) lose) (event_of bits m w lose (acted bits m w (stood m w) lose) ∷ []) r young (did w lose l busy early)).pictured.ages
    unfolding entered
    did_after lose busy young early Q o =
        let u = next bits c n workers base r.ring m r.pictured w l lose busy young in
        subst (λ (b : Bool). Q u b (acted_pictured bits c n workers base r.ring m r.pictured w l lose busy young early).ages)
        (sym (acted_shut bits c n workers base r.ring m r.pictured w l lose busy young early))
        (subst (Q u (stepped bits c n workers base r.ring m r.pictured w l lose busy young).shut) (sym (acted_ages bits c n workers base r.ring m r.pictured w l lose busy young early)) o)

    -- the acting worker afterwards
    pub own_next : (lose : Bool) (busy : (view_of (stood m w)).busy ≡ true) (young : Recent c (mark_of c) n r.ring (r.pictured.ages w) (look c (stood m w))) (early : m.meter < meter_most)
        (Q : Shared → Age → Place → Type 0)
        → Q (next bits c n workers base r.ring m r.pictured w l lose busy young) (new_age bits c n workers base r.ring m r.pictured w l lose busy)
        (result bits c n workers base r.ring m r.pictured w l lose busy).place
        → Q (entered m h (Asks w (Act lose)) (acted bits m w (stood m w) lose) (event_of bits m w lose (acted bits m w (stood m w) lose) ∷ []) r young (did w lose l busy early)).ring
        ((entered m h (Asks w (Act lose)) (acted bits m w (stood m w) lose) (event_of bits m w lose (acted bits m w (stood m w) lose) ∷ []) r young (did w lose l busy early)).pictured.ages w)
        (stood (acted bits m w (stood m w) lose) w)
    unfolding entered
    own_next lose busy young early Q o =
        rw (
          acted_ages bits c n workers base r.ring m r.pictured w l lose busy young early,
          upd_same r.pictured.ages w (new_age bits c n workers base r.ring m r.pictured w l lose busy),
          acted_stood bits c n workers base r.ring m r.pictured w l lose busy,
        ) o

  abbrev pub entered_in : (m : Machine) (h : List Event) (en : Entry) (next_machine : Machine) (acts : List Event) → Reached c n workers m h → InWidestWindow bits m h
      → Turned bits m en next_machine acts → Reached c n workers next_machine (h ++ acts)
  entered_in m h en next_machine acts r window t = entered m h en next_machine acts r (fit_in m h r window en) t

  -- and so does every list of entries that keeps the window
  pub entries : (s : List ℕ) (m : Machine) (h : List Event) (place : ℕ) → KeepsWidestWindow (of_width bits) m h s → Reached c n workers m h
      → Reached c n workers (run_at bits m place s).machine (h ++ history_at bits m s)
  entries = along bits (InWidestWindow bits) (Reached c n workers) entered_in

-- the last beginning is the whole
pub at_end : (bits : Width) (m : Machine) (h : List Event) (s : List ℕ) → KeepsWidestWindow (of_width bits) m h s → InWidestWindow bits (run_at bits m 0 s).machine (h ++ history_at bits m s)
at_end bits m h s keeps = keeps s [] (sym (append-nil s))
