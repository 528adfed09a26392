-- The act of one record, on words that stand for a ring and records that are not broken.
use Prim.Native.Nat.{ℕ, ◌+◌, ◌*◌, ◌<◌}
use mathlib.Core.Path.{◌≡◌, sym, ap, ◌∙◌, subst}
use mathlib.Core.Bool.{Bool, true}
use mathlib.Core.List.{List}
use native.Mathlib.Omega.{arith}
use lib.ListN.{length, get_or}
use Rattle.queue_entries.specs.Limits.{meter_most}
use Rattle.queue_entries.proofs.Pick.{on}
use Rattle.bounded_words.specs.declared.Fixed.{Fixed}
use Rattle.bounded_words.specs.declared.Width.{Width}
use Rattle.bounded_words.specs.Limits.{slots_most}
use Rattle.bounded_words.specs.Words.{Fair}
use Rattle.bounded_places.specs.declared.Ends.{Ends}
use Rattle.bounded_places.specs.declared.Held.{Held}
use Rattle.bounded_places.specs.declared.Slot.{Slot}
use Rattle.bounded_places.specs.declared.Worker.{Worker}
use Rattle.bounded_places.specs.Places.{view_of, fits_of}
use Rattle.bounded_acts.specs.declared.Acted.{Acted}
use Rattle.bounded_acts.specs.Acts.{act_of}
use Rattle.bounded_machine.specs.Broken.{record_fits}
use Rattle.bounded_machine.specs.Turn.{spot_of, record_after}
use Rattle.bounded_machine.proofs.Kept.{UnbrokenWith, few_differed, few_failed, of_record}
use Rattle.bounded_codes.specs.Codes.{place_in}
use Rattle.bounded_step_record.specs.Entries.{slot_of_ring}
use Rattle.bounded_lent.specs.Lent.{held}
use Rattle.bounded_lent.proofs.Turning.{unbroken_lent, fair_lent, record_fits_lem, spot_below}
use Rattle.bounded_rows.specs.Rows.{words, fixed_in, ends_in, with_head, record_at, with_record, slot_at, with_slot, records_in, metered_in, Moving, acted_at, acted_in}
use Rattle.bounded_rows.proofs.Lists.{room, get}
use Rattle.bounded_rows.proofs.Standing.{standing}

module _ (h ss rs : List ℕ) (n : ℕ) (g : Moving (words h ss rs) n) where
  ring_fits_lem : UnbrokenWith (length (records_in rs)) (held (metered_in (words h ss rs)) (records_in rs))
  ring_fits_lem = unbroken_lent (metered_in (words h ss rs)) (records_in rs) g.sound

  pub eight : length h ≡ 8
  eight = (standing (words h ss rs) g.stands).eight

  pub record_room : n * 5 + 4 < length rs
  record_room = room rs n g.counted

  module _ (f : Fixed) (ef : f ≡ fixed_in h) where
    pub fair : Fair f
    fair = subst Fair (sym ef) (fair_lent (metered_in (words h ss rs)) (records_in rs) ring_fits_lem)

    fits : record_fits f (get_or h 6 0) (record_at rs n) true ≡ true
    fits =
        ap (λ (x : Fixed). record_fits x (get_or h 6 0) (record_at rs n) true) ef ∙ ap (λ (x : Worker). record_fits (fixed_in h) (get_or h 6 0) x true) (sym (get rs n g.counted))
        ∙ record_fits_lem (metered_in (words h ss rs)) (records_in rs) ring_fits_lem n g.counted

    module _ (r : Worker) (er : r ≡ record_at rs n) where
      pub word_fits : fits_of f (view_of r.place).held ≡ true
      word_fits = ap (λ (x : Worker). fits_of f (view_of x.place).held) er ∙ of_record f (get_or h 6 0) (record_at rs n) true fits g.busy

      pub few : (r.differed < meter_most) × (r.failed < meter_most)
      few =
          subst (λ (x : Worker). (x.differed < meter_most) × (x.failed < meter_most)) (sym er)
          (omega (arith, few_differed f (get_or h 6 0) (record_at rs n) true fits, g.in_time), omega (arith, few_failed f (get_or h 6 0) (record_at rs n) true fits, g.in_time))

    -- the slot, by the words that the code says are held
    module _ (d : Held) (ed : d ≡ (view_of (place_in (get_or rs (n * 5) 0) (get_or rs (n * 5 + 1) 0) (get_or rs (n * 5 + 2) 0))).held) (k : ℕ) (ek : k ≡ spot_of f d) where
      at_slot : k ≡ slot_of_ring (fixed_in h) (record_at rs n)
      unfolding record_at
      at_slot =
          on (view_of (record_at rs n).place).busy k (spot_of (fixed_in h) (view_of (record_at rs n).place).held) 0 g.busy
          (ek ∙ ap (spot_of f) ed ∙ ap (λ (x : Fixed). spot_of x (view_of (record_at rs n).place).held) ef)

      below : k < slots_most
      below =
          subst (λ (i : ℕ). i < slots_most) (sym (at_slot ∙ ap (slot_of_ring (fixed_in h)) (sym (get rs n g.counted))))
          (spot_below (metered_in (words h ss rs)) (records_in rs) ring_fits_lem n g.counted)

      pub slot_room : k * 2 + 1 < length ss
      slot_room = omega (arith, below, (standing (words h ss rs) g.stands).all_slots)

      module _ (e : Ends) (ee : e ≡ ends_in h) (s : Slot) (es : s ≡ slot_at ss k) (r : Worker) (er : r ≡ record_at rs n) (bits : Width) (lose : Bool) (a : Acted) (ea : a ≡ act_of bits f e s
          r.place lose) where
        act_is : a ≡ act_of bits (fixed_in h) (ends_in h) (slot_at ss k) r.place lose
        act_is = ea ∙ (λ i. act_of bits (ef i) (ee i) (es i) r.place lose)

        pub acted : (after : Worker) → after ≡ record_after r a.place a.loss → (h' ss' rs' : List ℕ) → h' ≡ with_head h a.ends (get_or h 6 0 + 1) → ss' ≡ with_slot ss k a.slot →
            rs' ≡ with_record rs n after
            → words h' ss' rs' ≡ acted_in bits (words h ss rs) n lose
        unfolding acted_in
        acted after ea' h' ss' rs' eh e₂ e₃ =
            (λ i. words (eh i) (e₂ i) ((e₃ ∙ ap (with_record rs n) ea') i))
            ∙ (λ i. words (with_head h (act_is i).ends (get_or h 6 0 + 1)) (with_slot ss k (act_is i).slot) (with_record rs n (record_after r (act_is i).place (act_is i).loss)))
            ∙ (λ i. acted_at bits (words h ss rs) n (at_slot i) (er i) lose)
