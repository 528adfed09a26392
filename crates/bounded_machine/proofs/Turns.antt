-- One turn of the schedule's loop, from what is left of the run.
use Prim.Native.Nat.{ℕ, ◌+◌, ◌*◌, ◌<◌, ◌≤◌}
use mathlib.Core.Path.{◌≡◌, refl, sym, ap, ◌∙◌, subst}
use mathlib.Core.Bool.{Bool, true, false}
use mathlib.Core.List.{List, ◌∷◌}
use native.Mathlib.Omega.{arith}
use lib.Dec.{ltb}
use lib.ListN.{get_or, set, length, drop, drop_of_length-le}
use borrow.Author.Tests.{ne_eqb, ltb-true}
use Rattle.queue_entries.specs.Schedules.{run_by}
use Rattle.queue_entries.proofs.Searching.{two_words}
use Rattle.queue_entries.specs.Limits.{meter_most}
use Rattle.queue_entries.proofs.Pick.{below, above}
use Rattle.queue_entries.specs.declared.Call.{Call}
use Rattle.queue_entries.specs.declared.Order.{Order}
use Rattle.queue_entries.specs.declared.Order.TheVariants.{Begin, Act}
use Rattle.queue_entries.specs.declared.Entry.{Entry}
use Rattle.queue_entries.specs.declared.Entry.TheVariants.{Unreadable, Asks}
use Rattle.queue_entries.specs.Entries.{entry_of}
use Rattle.queue_entries.specs.declared.Verdict.{Verdict}
use Rattle.queue_entries.specs.declared.Verdict.TheVariants.{Refuse, Start, Move}
use Rattle.bounded_words.specs.declared.Width.{Width}
use Rattle.bounded_words.specs.Limits.{slots_most}
use Rattle.bounded_places.specs.declared.Slot.{Slot}
use Rattle.bounded_places.specs.declared.Place.{Place}
use Rattle.bounded_places.specs.declared.Worker.{Worker}
use Rattle.bounded_places.specs.declared.Held.{Held}
use Rattle.bounded_places.specs.declared.Held.TheVariants as held
use Rattle.bounded_places.specs.Places.{view_of, fits_of, begin_of}
use Rattle.bounded_acts.specs.declared.Acted.{Acted}
use Rattle.bounded_acts.specs.Acts.{act_of, Fits}
use Rattle.bounded_machine.specs.declared.Machine.{Machine}
use Rattle.bounded_machine.specs.declared.Did.{Did}
use Rattle.bounded_machine.specs.declared.Ran.{Ran}
use Rattle.bounded_machine.specs.Machine.{slot, machine_of, record_of_worker, place_of, refused, accepted, fixed_on, ends_on}
use Rattle.bounded_machine.specs.Turn.{verdict_of, spot_of, record_after, begun, stored, acted_by, carried, turn, turn_at, turn_of_by}
use Rattle.bounded_machine.specs.Run.{ran, run_at}
use Rattle.bounded_machine.proofs.Kept.{UnbrokenWith, fair_in, ruled_in, few_workers, few_lost, begun_unbroken, stored_unbroken, acted_unbroken, Ok, keeps, word_fits_in, fits_plain, either}

-- ---- what a verdict tells: a refusal has a number, a move is a busy worker's in time
abbrev Sense : ℕ → Place → Verdict → Type 0
Sense meter p (Refuse k) = 0 < k
Sense meter p (Start c) = Unit {0}
Sense meter p (Move lose) = ((view_of p).busy ≡ true) × (meter < meter_most)

sense : (meter : ℕ) (p : Place) (o : Order) → Sense meter p (verdict_of meter p o)
sense meter p (Begin c) = either (Sense meter p) (view_of p).busy (Refuse 4) (Start c) (λ b. omega arith) (λ b. tt)
sense meter p (Act lose) =
    either (Sense meter p) (view_of p).busy _ (Refuse 5)
    (λ b. either (Sense meter p) (ltb meter meter_most) _ (Refuse 7)
    (λ d. either (Sense meter p) lose _ (Move false)
    (λ l. either (Sense meter p) (view_of p).weak (Move true) (Refuse 8) (λ w. (b, ltb-true meter meter_most d)) (λ w. omega arith))
    (λ l. (b, ltb-true meter meter_most d)))
    (λ d. omega arith))
    (λ b. omega arith)

module _ (meter : ℕ) (p : Place) (o : Order) (v : Verdict) (e : v ≡ verdict_of meter p o) where
  pub number_positive : (k : ℕ) → v ≡ Refuse k → 0 < k
  number_positive k h = subst (Sense meter p) (sym e ∙ h) (sense meter p o)

  pub move_busy : (lose : Bool) → v ≡ Move lose → (view_of p).busy ≡ true
  move_busy lose h = (subst (Sense meter p) (sym e ∙ h) (sense meter p o)).0

  pub move_in_time : (lose : Bool) → v ≡ Move lose → meter < meter_most
  move_in_time lose h = (subst (Sense meter p) (sym e ∙ h) (sense meter p o)).1

-- ---- what an act leaves, with the worker's record as the code made it
abbrev pub kept : Machine → ℕ → ℕ → Acted → Worker → Machine
kept m w i a r = machine_of (fixed_on m.ring) a.ends (set m.ring.slots i a.slot) (set m.workers w r) m.count (m.meter + 1)

as_stored : (m : Machine) (w i : ℕ) (a : Acted) (r : Worker) → r ≡ record_after (record_of_worker m.workers w) a.place a.loss → stored m w i a ≡ kept m w i a r
unfolding stored
as_stored m w i a r e = ap (kept m w i a) (sym e)

-- ---- what an entry does
module _ (bits : Width) (m : Machine) (first second : ℕ) (x : Entry) (ex : x ≡ entry_of first second) where
  unread : x ≡ Unreadable → turn_at bits m first second ≡ refused 9 m
  unfolding turn_of_by
  unread h = ap (turn bits m) (sym ex ∙ h)

  module _ (w : ℕ) (o : Order) (h : x ≡ Asks w o) where
    far : m.count ≤ w → turn_at bits m first second ≡ refused 3 m
    unfolding turn_of_by
    far g = ap (turn bits m) (sym ex ∙ h) ∙ sym (above w m.count _ _ _ g refl)

    near : (v : Verdict) → w < m.count → v ≡ verdict_of m.meter (place_of m.workers w) o → turn_at bits m first second ≡ carried bits m w (place_of m.workers w) v
    unfolding turn_of_by
    near v g e = ap (turn bits m) (sym ex ∙ h) ∙ sym (below w m.count _ _ _ g (ap (carried bits m w (place_of m.workers w)) e))

-- ---- one turn
module _ (bits : Width) (s : List ℕ) (n i : ℕ) (m : Machine) (whole : Ran) (back : run_at bits m i (drop (2 * i) s) ≡ whole) (len : length s ≡ 2 * n) (lt : i < n) where
  whole_from : run_at bits m i (get_or s (2 * i) 0 ∷ get_or s (2 * i + 1) 0 ∷ drop (2 * (i + 1)) s) ≡ whole
  whole_from = sym (ap (run_at bits m i) (two_words s i (omega arith))) ∙ back

  stopped : (k : ℕ) → 0 < k → turn_at bits m (get_or s (2 * i) 0) (get_or s (2 * i + 1) 0) ≡ refused k m → ran k i m ≡ whole
  unfolding run_by refused
  stopped k pos h = sym (simp (h, ne_eqb k 0 (λ z. omega arith))) ∙ whole_from

  went : (next : Machine) → turn_at bits m (get_or s (2 * i) 0) (get_or s (2 * i + 1) 0) ≡ accepted next → run_at bits next (i + 1) (drop (2 * (i + 1)) s) ≡ whole
  unfolding run_by accepted
  went next h = sym (simp h) ∙ whole_from

  module _ (x : Entry) (ex : x ≡ entry_of (get_or s (2 * i) 0) (get_or s (2 * i + 1) 0)) where
    pub stop_9 : x ≡ Unreadable → ran 9 i m ≡ whole
    stop_9 h = stopped 9 (omega arith) (unread bits m _ _ x ex h)

    module _ (w : ℕ) (o : Order) (h : x ≡ Asks w o) where
      pub stop_3 : m.count ≤ w → ran 3 i m ≡ whole
      stop_3 g = stopped 3 (omega arith) (far bits m _ _ x ex w o h g)

      module _ (v : Verdict) (g : w < m.count) (e : v ≡ verdict_of m.meter (place_of m.workers w) o) where
        pub stop : (k : ℕ) → v ≡ Refuse k → ran k i m ≡ whole
        stop k q = stopped k (number_positive m.meter (place_of m.workers w) o v e k q) (near bits m _ _ x ex w o h v g e ∙ ap (carried bits m w (place_of m.workers w)) q)

        pub start : (c : Call) (q : Place) → v ≡ Start c → q ≡ begin_of c → run_at bits (begun m w q) (i + 1) (drop (2 * (i + 1)) s) ≡ whole
        start c q k l = went (begun m w q) (near bits m _ _ x ex w o h v g e ∙ ap (carried bits m w (place_of m.workers w)) k ∙ ap (λ (z : Place). accepted (begun m w z)) (sym l))

        pub move : (lose : Bool) (sp : ℕ) (a : Acted) → v ≡ Move lose → sp ≡ spot_of (fixed_on m.ring) (view_of (place_of m.workers w)).held
            → a ≡ act_of bits (fixed_on m.ring) (ends_on m.ring) (get_or m.ring.slots sp (slot 0 0)) (place_of m.workers w) lose
            → (r : Worker) → r ≡ record_after (record_of_worker m.workers w) a.place a.loss → run_at bits (kept m w sp a r) (i + 1) (drop (2 * (i + 1)) s) ≡ whole
        unfolding acted_by
        move lose sp a k es ea r er =
            went (kept m w sp a r)
            (near bits m _ _ x ex w o h v g e ∙ ap (carried bits m w (place_of m.workers w)) k ∙ ap accepted (rw (ea, es)) ∙ ap accepted (as_stored m w sp a r er))

-- ---- after the loop
pub ended : (bits : Width) (s : List ℕ) (n i : ℕ) (m : Machine) (whole : Ran) → run_at bits m i (drop (2 * i) s) ≡ whole → length s ≡ 2 * n → n ≤ i → ran 0 i m ≡ whole
unfolding run_by
ended bits s n i m whole back len ge = sym (ap (run_at bits m i) (drop_of_length-le s {i = 2 * i} (omega arith))) ∙ back

-- ---- what the loop may do on an unbroken machine
module _ {records : ℕ} (m : Machine) (u : UnbrokenWith records m) where
  pub worker_below : (w : ℕ) → w < m.count → w < records
  worker_below w l = omega (arith, few_workers m u)

  module _ (w : ℕ) (l : w < m.count) (h : (view_of (place_of m.workers w)).busy ≡ true) where
    pub fits_in : Fits (fixed_on m.ring) (place_of m.workers w)
    fits_in = record { fair = fair_in m u; held = word_fits_in m u w l h }

    pub spot_below : (sp : ℕ) → sp ≡ spot_of (fixed_on m.ring) (view_of (place_of m.workers w)).held → sp < slots_most
    spot_below sp e = subst (λ (k : ℕ). k < slots_most) (sym e) (spot_fits (view_of (place_of m.workers w)).held (word_fits_in m u w l h))
      where
        spot_fits : (d : Held) → fits_of (fixed_on m.ring) d ≡ true → spot_of (fixed_on m.ring) d < slots_most
        spot_fits held.Nothing k = omega arith
        spot_fits (held.End t) k = omega (arith, (fits_plain (fixed_on m.ring) t k).low, (ruled_in m u).most)
        spot_fits (held.Tail t) k = omega arith
        spot_fits (held.Both t d) k = omega arith

  -- one loss more can be counted while the meter can rise
  pub lost_below : (w : ℕ) → w < m.count → m.meter < meter_most → ((record_of_worker m.workers w).differed < meter_most) × ((record_of_worker m.workers w).failed < meter_most)
  lost_below w l h = (omega (arith, few_lost m u w l), omega (arith, few_lost m u w l))

  -- and it stays unbroken
  module _ (w : ℕ) (l : w < m.count) where
    pub started_unbroken : (c : Call) (q : Place) → q ≡ begin_of c → UnbrokenWith records (begun m w q)
    started_unbroken c q e = subst (λ (x : Place). UnbrokenWith records (begun m w x)) (sym e) (begun_unbroken m u w l c)

    pub moved_unbroken : (bits : Width) (sp : ℕ) (a : Acted) (s : Slot) (lose : Bool) → (view_of (place_of m.workers w)).busy ≡ true
        → a ≡ act_of bits (fixed_on m.ring) (ends_on m.ring) s (place_of m.workers w) lose
        → (r : Worker) → r ≡ record_after (record_of_worker m.workers w) a.place a.loss → UnbrokenWith records (kept m w sp a r)
    moved_unbroken bits sp a s lose h e r er =
        subst (UnbrokenWith records) (as_stored m w sp a r er)
        (stored_unbroken m u w l sp a
        (subst (Ok (fixed_on m.ring) (ruled_in m u)) (sym e)
        (keeps (fixed_on m.ring) (ruled_in m u) bits (ends_on m.ring) s u.ends (place_of m.workers w) lose (word_fits_in m u w l h))))

-- ---- no entry breaks an unbroken machine
module _ {records : ℕ} (bits : Width) (m : Machine) (u : UnbrokenWith records m) where
  carried_unbroken : (w : ℕ) → w < m.count → (o : Order) (v : Verdict) → v ≡ verdict_of m.meter (place_of m.workers w) o
      → UnbrokenWith records (carried bits m w (place_of m.workers w) v).machine
  unfolding refused accepted
  carried_unbroken w l o (Refuse k) e = u
  carried_unbroken w l o (Start c) e = begun_unbroken m u w l c
  carried_unbroken w l o (Move lose) e = acted_unbroken m u w l bits lose (move_busy m.meter (place_of m.workers w) o (Move lose) e lose refl)

  turn_unbroken : (x : Entry) → UnbrokenWith records (turn bits m x).machine
  unfolding refused
  turn_unbroken Unreadable = u
  turn_unbroken (Asks w o) =
      either (λ (d : Did). UnbrokenWith records d.machine) (ltb w m.count) (carried bits m w (place_of m.workers w) (verdict_of m.meter (place_of m.workers w) o)) (refused 3 m)
      (λ b. carried_unbroken w (ltb-true w m.count b) o (verdict_of m.meter (place_of m.workers w) o) refl) (λ b. u)

  pub turn_of_unbroken : (a b : ℕ) → UnbrokenWith records (turn_at bits m a b).machine
  unfolding turn_of_by
  turn_of_unbroken a b = turn_unbroken (entry_of a b)
