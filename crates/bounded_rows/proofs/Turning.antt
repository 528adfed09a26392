-- One entry on words that stand for a ring and records that are not broken.
use Prim.Native.Nat.{ℕ, ◌+◌, ◌*◌, ◌/◌, ◌%◌, ◌<◌, ◌≤◌}
use mathlib.Core.Path.{◌≡◌, refl, sym, ap, ◌∙◌, subst}
use mathlib.Core.Bool.{Bool, true, false}
use mathlib.Core.List.{List}
use native.Mathlib.Omega.{arith}
use lib.Dec.{leb}
use lib.ListN.{length, get_or, set, length-set}
use Rattle.queue_entries.specs.declared.Call.{Call}
use Rattle.queue_entries.specs.declared.Order.{Order}
use Rattle.queue_entries.specs.declared.Entry.{Entry}
use Rattle.queue_entries.specs.declared.Entry.TheVariants.{Unreadable, Asks}
use Rattle.queue_entries.specs.declared.Verdict.{Verdict}
use Rattle.queue_entries.specs.declared.Verdict.TheVariants.{Refuse, Start, Move}
use Rattle.queue_entries.specs.Entries.{entry_of}
use Rattle.queue_entries.proofs.Pick.{on, below, above}
use Rattle.bounded_words.specs.declared.Width.{Width}
use Rattle.bounded_words.specs.Limits.{slots_most}
use Rattle.bounded_places.specs.declared.Worker.{Worker}
use Rattle.bounded_places.specs.Places.{view_of, begin_of}
use Rattle.bounded_acts.specs.declared.Acted.{Acted}
use Rattle.bounded_acts.specs.Acts.{act_of}
use Rattle.bounded_machine.specs.declared.Machine.{Machine}
use Rattle.bounded_machine.specs.declared.Did.{Did}
use Rattle.bounded_machine.specs.Machine.{slot, machine_of, place_of, refused, accepted}
use Rattle.bounded_machine.specs.Turn.{verdict_of, spot_of, beginner, record_after, begun, stored, acted_by, carried, turn, turn_at, turn_of_by}
use Rattle.bounded_machine.proofs.Kept.{UnbrokenWith}
use Rattle.bounded_machine.proofs.Turns.{turn_of_unbroken, move_busy, move_in_time}
use Rattle.bounded_codes.specs.Codes.{place_in}
use Rattle.bounded_orders.specs.Orders.{records_most}
use Rattle.bounded_step_record.specs.Entries.{slot_of_ring}
use Rattle.bounded_lent.specs.Lent.{held, broken_lent, lent_of}
use Rattle.bounded_lent.proofs.Turning.{unbroken_lent, lent_unbroken, few_lent, spot_below}
use Rattle.bounded_rows.specs.Rows.{
  Words,
  words,
  fixed_in,
  ends_in,
  with_head,
  record_at,
  with_record,
  slot_at,
  with_slot,
  slots_in,
  records_in,
  metered_in,
  stand,
  Moving,
  acted_in,
  after,
  after_of,
  turn_with,
}
use Rattle.bounded_rows.proofs.Lists.{many, long_record, room, get, put, many_slots, get_slot, put_slot, still_placed, same_fixed, new_ends, new_meter}
use Rattle.bounded_rows.proofs.Standing.{Standing, standing, stands, still_standing, as_words}

module _ (h ss rs : List ℕ) (sound : broken_lent (metered_in (words h ss rs)) (records_in rs) ≡ false) (stood : stand (words h ss rs) ≡ true) where
  abbrev before : Machine
  before = held (metered_in (words h ss rs)) (records_in rs)

  ring_fits_lem : UnbrokenWith (length (records_in rs)) before
  ring_fits_lem = unbroken_lent (metered_in (words h ss rs)) (records_in rs) sound

  pub eight_words : length h ≡ 8
  eight_words = (standing (words h ss rs) stood).eight

  module _ (bits : Width) (first second : ℕ) where
    -- the entry answers r and leaves w, which is as sound as what it was handed
    abbrev Leaves : ℕ → Words → Type 0
    Leaves r w = (after r w ≡ after_of (turn_with bits (metered_in (words h ss rs)) (records_in rs) first second)) × (broken_lent (metered_in w) (records_in w.records) ≡ false) × (stand w ≡
        true)

    as_machine : (r : ℕ) (w : Words) → Standing w → length (records_in w.records) ≡ length (records_in rs) → record { refusal = r; machine = held (metered_in w) (records_in w.records) }
        ≡ turn_at bits before first second → Leaves r w
    as_machine r w s as_many left = (
      as_words r w s _ (ap lent_of left),
      lent_unbroken (metered_in w) (records_in w.records) (ap (λ (c : ℕ). leb c records_most) as_many ∙ few_lent (metered_in (words h ss rs)) (records_in rs) sound)
          (subst (λ (c : ℕ). UnbrokenWith c (held (metered_in w) (records_in w.records))) (sym as_many)
          (subst (UnbrokenWith (length (records_in rs))) (sym (ap (λ (x : Did). x.machine) left)) (turn_of_unbroken bits before ring_fits_lem first second))),
      stands w s,
    )

    stays : (r : ℕ) → refused r before ≡ turn_at bits before first second → Leaves r (words h ss rs)
    unfolding refused
    stays r left = as_machine r (words h ss rs) (standing (words h ss rs) stood) refl left

    as_many_with : (n : ℕ) (r : Worker) → length (records_in (with_record rs n r)) ≡ length (records_in rs)
    as_many_with n r = many (with_record rs n r) ∙ ap (λ (k : ℕ). k / 5) (long_record rs n r) ∙ sym (many rs)

    module _ (x : Entry) (ex : x ≡ entry_of first second) where
      pub nine : x ≡ Unreadable → Leaves 9 (words h ss rs)
      unfolding turn_of_by
      nine u = stays 9 (ap (turn bits before) (sym u ∙ ex))

      module _ (n : ℕ) (o : Order) (u : x ≡ Asks n o) where
        asks : turn bits before (Asks n o) ≡ turn_at bits before first second
        unfolding turn_of_by
        asks = ap (turn bits before) (sym u ∙ ex)

        pub three : length rs / 5 ≤ n → Leaves 3 (words h ss rs)
        three g = stays 3 (above n (length (records_in rs)) (refused 3 before) _ (refused 3 before) (omega (arith, g, many rs)) refl ∙ asks)

        module _ (l : n < length rs / 5) where
          low : n < length (records_in rs)
          low = omega (arith, l, many rs)

          pub record_room : n * 5 + 4 < length rs
          record_room = room rs n low

          module _ (v : Verdict) (ev : v ≡ verdict_of (get_or h 6 0) (place_in (get_or rs (n * 5) 0) (get_or rs (n * 5 + 1) 0) (get_or rs (n * 5 + 2) 0)) o) where
            of_words : v ≡ verdict_of (get_or h 6 0) (record_at rs n).place o
            unfolding record_at
            of_words = ev

            of_record : v ≡ verdict_of (get_or h 6 0) (place_of (records_in rs) n) o
            of_record = of_words ∙ ap (λ (r : Worker). verdict_of (get_or h 6 0) r.place o) (sym (get rs n low))

            carries : carried bits before n (place_of (records_in rs) n) v ≡ turn_at bits before first second
            carries = below n (length (records_in rs)) (carried bits before n (place_of (records_in rs) n) v) _ _ low (ap (carried bits before n (place_of (records_in rs) n)) of_record) ∙ asks

            pub stop : (k : ℕ) → v ≡ Refuse k → Leaves k (words h ss rs)
            stop k q = stays k (ap (carried bits before n (place_of (records_in rs) n)) (sym q) ∙ carries)

            -- ---- a call begins: the record alone changes
            module _ (c : Call) (q : v ≡ Start c) where
              abbrev new : Worker
              new = beginner (begin_of c)

              begun_is : record { refusal = 0; machine = held (metered_in (words h ss (with_record rs n new))) (records_in (with_record rs n new)) } ≡ accepted (begun before n (begin_of c))
              unfolding accepted begun
              begun_is =
                  (λ i. record { refusal = 0; machine = machine_of (fixed_in h) (ends_in h) (slots_in ss) (put rs n new low i) (length (put rs n new low i)) (get_or h 6 0) })
                  ∙ ap (λ (m : ℕ). record { refusal = 0; machine = machine_of (fixed_in h) (ends_in h) (slots_in ss) (set (records_in rs) n new) m (get_or h 6 0) }) (length-set (records_in rs) n
                  new)

              standing_begun : Standing (words h ss (with_record rs n new))
              standing_begun = let s = standing (words h ss rs) stood in record {
                eight = s.eight;
                all_slots = s.all_slots;
                fives = ap (λ (m : ℕ). m % 5) (long_record rs n new) ∙ s.fives;
                laid = s.laid;
                places = still_placed rs n new low s.places;
              }

              pub start : (rs' : List ℕ) → rs' ≡ with_record rs n new → Leaves 0 (words h ss rs')
              start rs' e =
                  subst (λ (l : List ℕ). Leaves 0 (words h ss l)) (sym e)
                  (as_machine 0 (words h ss (with_record rs n new)) standing_begun (as_many_with n new) (begun_is ∙ ap (carried bits before n (place_of (records_in rs) n)) (sym q) ∙ carries))

            -- ---- an act
            module _ (lose : Bool) (q : v ≡ Move lose) where
              pub moving : Moving (words h ss rs) n
              moving = record {
                sound = sound;
                stands = stood;
                counted = low;
                busy = move_busy (get_or h 6 0) (record_at rs n).place o v of_words lose q;
                in_time = move_in_time (get_or h 6 0) (record_at rs n).place o v of_words lose q;
              }

              abbrev r : Worker
              r = record_at rs n

              abbrev k : ℕ
              k = slot_of_ring (fixed_in h) r

              abbrev a : Acted
              a = act_of bits (fixed_in h) (ends_in h) (slot_at ss k) r.place lose

              abbrev kept : ℕ → Worker → Acted → Did
              kept j y z =
                  record {
                    refusal = 0;
                    machine = machine_of (fixed_in h) z.ends (set (slots_in ss) j z.slot) (set (records_in rs) n (record_after y z.place z.loss)) (length
                        (records_in rs)) (get_or h 6 0 + 1);
                  }

              -- the slot that the machine's act goes to
              at_slot : k ≡ spot_of (fixed_in h) (view_of (place_of (records_in rs) n)).held
              at_slot =
                  sym (on (view_of r.place).busy (spot_of (fixed_in h) (view_of r.place).held) (spot_of (fixed_in h) (view_of r.place).held) 0 moving.busy refl)
                  ∙ ap (λ (y : Worker). spot_of (fixed_in h) (view_of y.place).held) (sym (get rs n low))

              below_slots : k < length (slots_in ss)
              below_slots = omega (arith, below_most, (standing (words h ss rs) stood).all_slots, many_slots ss)
                where
                  below_most : k < slots_most
                  below_most = subst (λ (j : ℕ). j < slots_most) (ap (slot_of_ring (fixed_in h)) (get rs n low)) (spot_below (metered_in (words h ss rs)) (records_in rs) ring_fits_lem n low)

              slot_is : slot_at ss k ≡ get_or (slots_in ss) (spot_of (fixed_in h) (view_of (place_of (records_in rs) n)).held) (slot 0 0)
              slot_is = sym (get_slot ss k below_slots) ∙ ap (λ (j : ℕ). get_or (slots_in ss) j (slot 0 0)) at_slot

              act_is : a ≡ act_of bits (fixed_in h) (ends_in h) (get_or (slots_in ss) (spot_of (fixed_in h) (view_of (place_of (records_in rs) n)).held) (slot 0 0)) (place_of (records_in rs) n) lose
              act_is = λ i. act_of bits (fixed_in h) (ends_in h) (slot_is i) (sym (get rs n low) i).place lose

              abbrev new_record : Worker
              new_record = record_after r a.place a.loss

              abbrev left : Words
              left = words (with_head h a.ends (get_or h 6 0 + 1)) (with_slot ss k a.slot) (with_record rs n new_record)

              left_is : record { refusal = 0; machine = held (metered_in left) (records_in left.records) } ≡ kept k r a
              left_is =
                  (λ i. record {
                    refusal = 0;
                    machine = machine_of (same_fixed h a.ends (get_or h 6 0 + 1) i) (new_ends h a.ends (get_or h 6 0 + 1) eight_words i) (put_slot ss k a.slot below_slots i) (put rs n new_record low i) (length (put rs n new_record low i)) (new_meter h a.ends (get_or h 6 0 + 1) eight_words i);
                  })
                  ∙ ap (λ (m : ℕ). record { refusal = 0; machine = machine_of (fixed_in h) a.ends (set (slots_in ss) k a.slot) (set (records_in rs) n new_record) m (get_or h 6 0 + 1) })
                  (length-set (records_in rs) n new_record)

              acts : kept k r a ≡ carried bits before n (place_of (records_in rs) n) (Move lose)
              unfolding accepted stored acted_by
              acts = λ i. kept (at_slot i) (sym (get rs n low) i) (act_is i)

              pub move : (h' ss' rs' : List ℕ) → words h' ss' rs' ≡ acted_in bits (words h ss rs) n lose → Leaves 0 (words h' ss' rs')
              unfolding acted_in
              move h' ss' rs' e =
                  subst (Leaves 0) (sym e)
                  (as_machine 0 left (still_standing h ss rs (standing (words h ss rs) stood) a.ends (get_or h 6 0 + 1) k a.slot n new_record low) (as_many_with n new_record) (left_is
                  ∙ acts ∙ ap (carried bits before n (place_of (records_in rs) n)) (sym q) ∙ carries))
