-- Words that stand for a ring and records: what is known of them, and that they are one to one.
use Rattle.bounded_machine.specs.Machine.{fixed_on, ends_on, ring_of_parts}
use Prim.Native.Nat.{ℕ, ◌*◌, ◌%◌, ◌<◌}
use mathlib.Core.Path.{◌≡◌, refl, sym, ap, ◌∙◌}
use mathlib.Core.Bool.{true}
use mathlib.Core.List.{List}
use native.Mathlib.Omega.{arith}
use lib.Dec.{eqb}
use lib.ListN.{length, get_or}
use borrow.Author.Tests.{eq-eqb, eqb-true}
use Rattle.queue_entries.proofs.Pick.{both_left, both_right}
use Rattle.bounded_words.specs.Limits.{slots_most}
use Rattle.bounded_places.specs.declared.Ends.{Ends}
use Rattle.bounded_places.specs.declared.Slot.{Slot}
use Rattle.bounded_places.specs.declared.Worker.{Worker}
use Rattle.bounded_orders.specs.declared.Metered.{Metered}
use Rattle.bounded_lent.specs.Lent.{Lent, lent}
use Rattle.bounded_rows.specs.Rows.{Words, words, layout, head_of, words_of, fixed_in, ends_in, records_in, metered_in, shaped}
use Rattle.bounded_rows.specs.Rows.{placed, stand, with_head, with_record, with_slot, after, after_of}
use Rattle.bounded_rows.proofs.Lists.{whole_records, whole_slots, whole_head, records_back, records_placed, records_long, slots_back, slots_long}
use Rattle.bounded_rows.proofs.Lists.{still_placed, same_layout, long_head, long_slot, long_record}

-- ---- what is known of words that stand
pub record Standing (w : Words) : Type 0 where
  pub eight : length w.head ≡ 8
  pub all_slots : length w.slots ≡ slots_most * 2
  pub fives : length w.records % 5 ≡ 0
  pub laid : get_or w.head 7 0 ≡ layout
  pub places : placed w.records ≡ true

module _ (w : Words) where
  pub shaped_all : shaped w ≡ true → (length w.head ≡ 8) × (length w.slots ≡ slots_most * 2) × (length w.records % 5 ≡ 0)
  unfolding shaped
  shaped_all t =
      let rest = both_right (eqb (length w.head) 8) _ t in (
        eqb-true (length w.head) 8 (both_left (eqb (length w.head) 8) _ t),
        eqb-true (length w.slots) (slots_most * 2) (both_left (eqb (length w.slots) (slots_most * 2)) _ rest),
        eqb-true (length w.records % 5) 0 (both_right (eqb (length w.slots) (slots_most * 2)) _ rest),
      )

  pub standing : stand w ≡ true → Standing w
  unfolding stand
  standing t =
      let shape = shaped_all (both_left (shaped w) _ t) in
      let rest = both_right (shaped w) _ t in
      record {
        eight = shape.0;
        all_slots = shape.1;
        fives = shape.2;
        laid = eqb-true (get_or w.head 7 0) layout (both_left (eqb (get_or w.head 7 0) layout) _ rest);
        places = both_right (eqb (get_or w.head 7 0) layout) _ rest;
      }

  pub stands : Standing w → stand w ≡ true
  unfolding stand shaped
  stands s =
      rw (
        eq-eqb (length w.head) 8 s.eight,
        eq-eqb (length w.slots) (slots_most * 2) s.all_slots,
        eq-eqb (length w.records % 5) 0 s.fives,
        eq-eqb (get_or w.head 7 0) layout s.laid,
      ) s.places

  -- read, and written back
  pub same_words : Standing w → words_of (metered_in w) (records_in w.records) ≡ w
  unfolding words_of
  same_words s = λ i. words (whole_head w.head w.slots w.records s.eight s.laid i) (whole_slots w.slots (omega (arith, s.all_slots)) i) (whole_records w.records s.places i)

-- ---- written, and read back
module _ (l : Metered) (ys : List Worker) where
  pub same_ring : metered_in (words_of l ys) ≡ l
  unfolding words_of head_of fixed_in ends_in
  same_ring = λ i. record { ring = ring_of_parts (fixed_on l.ring) (ends_on l.ring) (slots_back l.ring.slots i); meter = l.meter }

  pub same_records : records_in (words_of l ys).records ≡ ys
  unfolding words_of
  same_records = records_back ys

  written_standing : length l.ring.slots ≡ slots_most → Standing (words_of l ys)
  unfolding words_of head_of
  written_standing n = record {
    eight = refl;
    all_slots = slots_long l.ring.slots ∙ ap (λ (k : ℕ). k * 2) n;
    fives = omega (arith, records_long ys);
    laid = refl;
    places = records_placed ys;
  }

  pub written_stand : length l.ring.slots ≡ slots_most → stand (words_of l ys) ≡ true
  written_stand n = stands (words_of l ys) (written_standing n)

-- ---- what a turn stores leaves words that stand
module _ (h ss rs : List ℕ) (s : Standing (words h ss rs)) (e : Ends) (m k : ℕ) (x : Slot) (i : ℕ) (r : Worker) (low : i < length (records_in rs)) where
  pub still_standing : Standing (words (with_head h e m) (with_slot ss k x) (with_record rs i r))
  still_standing = record {
    eight = long_head h e m ∙ s.eight;
    all_slots = long_slot ss k x ∙ s.all_slots;
    fives = ap (λ (n : ℕ). n % 5) (long_record rs i r) ∙ s.fives;
    laid = same_layout h e m ∙ s.laid;
    places = still_placed rs i r low s.places;
  }

-- an answer with what the words stand for is an answer with the words
pub as_words : (r : ℕ) (w : Words) → Standing w → (x : Lent) → lent r (metered_in w) (records_in w.records) ≡ x → after r w ≡ after_of x
as_words r w s x e = ap (after r) (sym (same_words w s)) ∙ ap after_of e
