-- Where the schedule's loop stands, and one turn of it.
use Prim.Native.Nat.{ℕ, ◌+◌, ◌*◌, ◌%◌, ◌<◌, ◌≤◌}
use mathlib.Core.Path.{◌≡◌, refl, sym, ap, ◌∙◌}
use mathlib.Core.Bool.{Bool, true, false}
use mathlib.Core.List.{List}
use native.Mathlib.Omega.{arith}
use lib.ListN.{get_or, length, drop}
use Rattle.queue_entries.specs.Limits.{workers_most, meter_most}
use Rattle.queue_entries.specs.declared.Call.{Call}
use Rattle.queue_entries.specs.declared.Order.{Order}
use Rattle.queue_entries.specs.declared.Entry.{Entry}
use Rattle.queue_entries.specs.declared.Entry.TheVariants.{Unreadable, Asks}
use Rattle.queue_entries.specs.Entries.{entry_of}
use Rattle.queue_entries.specs.declared.Verdict.{Verdict}
use Rattle.queue_entries.specs.declared.Verdict.TheVariants.{Refuse, Start, Move}
use Rattle.std.specs.Prelude.{Option, Some, None}
use Rattle.queue_entries.specs.Schedules.{search_by}
use Rattle.queue_schedules.proofs.Schedules.{schedule_broken, schedule_odd, schedule_found, schedule_none}
use Rattle.queue_schedules.proofs.Ended.{not_refused}
use Rattle.queue_schedules.proofs.Loops.{loop_ended, loop_stops, loop_goes}
use Rattle.queue_schedules.proofs.Verdicts as verdicts
use Rattle.single_places.specs.declared.Place.{Place}
use Rattle.single_places.specs.Places.{view_of, begin_of}
use Rattle.single_acts.specs.declared.Acted.{Acted}
use Rattle.single_acts.specs.Acts.{act_of}
use Rattle.single_machine.specs.declared.Machine.{Machine}
use Rattle.single_machine.specs.declared.Did.{Did}
use Rattle.single_machine.specs.declared.Ran.{Ran}
use Rattle.single_machine.specs.Machine.{place_of, refused, accepted}
use Rattle.single_machine.specs.Broken.{broken_of}
use Rattle.single_machine.specs.Turn.{verdict_of, begun, stored, acted_by, carried, turn_of}
use Rattle.single_machine.specs.Run.{ran, run_from, run_of}
use Rattle.single_machine.proofs.Kept.{Unbroken, unbroken_of, few_workers, begun_unbroken, acted_unbroken}
use Rattle.single_machine.proofs.Turns.{single_queue, turn_of_unread, ran_refusal, unread, far, near}

-- At entry i of n, with the machine m: what is left of the run is the whole of it.
pub record Stand (s : List ℕ) (n i : ℕ) (m : Machine) (whole : Ran) : Type 0 where
  pub within : i ≤ n
  pub pairs : length s ≡ 2 * n
  pub unbroken : Unbroken m
  pub left : run_from m i (drop (2 * i) s) ≡ whole

-- ---- what is refused of a whole schedule, and what is left of it where nothing is
module _ (m : Machine) (s : List ℕ) (b : Bool) (e : b ≡ broken_of m) where
  pub broken_run : b ≡ true → ran 6 0 m ≡ run_of m s
  broken_run h = sym (schedule_broken single_queue broken_of m s (sym e ∙ h))

  module _ (h : b ≡ false) where
    pub odd_run : length s % 2 ≡ 1 → ran 11 0 m ≡ run_of m s
    odd_run k = sym (schedule_odd single_queue broken_of m s (sym e ∙ h) k)

    module _ (o : length s % 2 ≡ 1 → ⊥) (f : Option ℕ) (g : f ≡ search_by entry_of 0 s) where
      pub unread_run : (i : ℕ) → f ≡ Some i → ran 9 i m ≡ run_of m s
      unread_run i z = sym (schedule_found single_queue broken_of m s (sym e ∙ h) o i (sym g ∙ z))

      pub read_run : f ≡ None → run_from m 0 s ≡ run_of m s
      read_run z = sym (schedule_none single_queue broken_of m s (sym e ∙ h) o (sym g ∙ z))

module _ (m : Machine) (s : List ℕ) (whole : broken_of m ≡ false) where
  pub unrefused_run : (length s % 2 ≡ 1 → ⊥) → (r : Ran) → r ≡ run_from m 0 s → r.refusal ≡ 0 → r ≡ run_of m s
  unrefused_run =
      not_refused (λ (d : Did). d.refusal) (λ (d : Did). d.machine) turn_of ran (λ (q : Ran). q.refusal) ran_refusal entry_of turn_of_unread broken_of m s whole

  pub first_stand : (n : ℕ) → length s ≡ 2 * n → Stand s n 0 m (run_from m 0 s)
  first_stand n k = record { within = omega arith; pairs = k; unbroken = unbroken_of m whole; left = refl }

module _ (s : List ℕ) (n i : ℕ) (m : Machine) (whole : Ran) (at : Stand s n i m whole) where
  pub ended : n ≤ i → ran 0 n m ≡ whole
  ended ge =
      let e : n ≡ i = omega (arith, at.within) in
      ap (λ (k : ℕ). ran 0 k m) e ∙ loop_ended single_queue s n i m whole at.left at.pairs ge

  -- ---- one turn
  module _ (lt : i < n) (x : Entry) (ex : x ≡ entry_of (get_or s (2 * i) 0) (get_or s (2 * i + 1) 0)) where
    stopped : (k : ℕ) → 0 < k → turn_of m (get_or s (2 * i) 0) (get_or s (2 * i + 1) 0) ≡ refused k m → ran k i m ≡ whole
    unfolding refused
    stopped k some e = loop_stops single_queue s n i m whole at.left at.pairs lt k some (ap (λ (d : Did). d.refusal) e)

    went : (next : Machine) → turn_of m (get_or s (2 * i) 0) (get_or s (2 * i + 1) 0) ≡ accepted next → Unbroken next → Stand s n (i + 1) next whole
    unfolding accepted
    went next e u =
        record {
          within = omega arith;
          pairs = at.pairs;
          unbroken = u;
          left = loop_goes single_queue s n i m whole at.left at.pairs lt next (ap (λ (d : Did). d.refusal) e) (ap (λ (d : Did). d.machine) e);
        }

    pub stop_9 : x ≡ Unreadable → ran 9 i m ≡ whole
    stop_9 h = stopped 9 (omega arith) (unread m _ _ x ex h)

    module _ (w : ℕ) (o : Order) (h : x ≡ Asks w o) where
      pub stop_3 : m.count ≤ w → ran 3 i m ≡ whole
      stop_3 g = stopped 3 (omega arith) (far m _ _ x ex w o h g)

      module _ (g : w < m.count) (v : Verdict) (e : v ≡ verdict_of m.meter (place_of m.workers w) o) where
        abbrev p : Place
        p = place_of m.workers w

        pub stop : (k : ℕ) → v ≡ Refuse k → ran k i m ≡ whole
        stop k q =
            stopped k (verdicts.number_positive m.meter (view_of p).busy false o v e k q) (near m _ _ x ex w o h v g e ∙ ap (carried m w p) q)

        pub start : (c : Call) (r : Place) → v ≡ Start c → r ≡ begin_of c → Stand s n (i + 1) (begun m w r) whole
        start c r k l =
            rw l (went (begun m w (begin_of c)) (near m _ _ x ex w o h v g e ∙ ap (carried m w p) k) (begun_unbroken m at.unbroken w g c))

        pub move : (lose : Bool) (a : Acted) → v ≡ Move lose → a ≡ act_of m.single p → Stand s n (i + 1) (stored m w a) whole
        unfolding acted_by
        move lose a k l =
            rw l (went (stored m w (act_of m.single p)) (near m _ _ x ex w o h v g e ∙ ap (carried m w p) k) (acted_unbroken m at.unbroken w g p))

        pub in_time : (lose : Bool) → v ≡ Move lose → m.meter < meter_most
        in_time lose k = verdicts.move_in_time m.meter (view_of p).busy false o v e lose k

  pub worker_below : (w : ℕ) → w < m.count → w < workers_most
  worker_below w l = omega (arith, few_workers m at.unbroken)
