-- Words and machines are one to one; shapes.
use Prim.Native.Nat.{ℕ, ◌+◌, ◌*◌, ◌/◌, ◌%◌, ◌<◌, ◌≤◌}
use mathlib.Core.Path.{◌≡◌, refl, sym, ap, ◌∙◌, subst}
use mathlib.Core.Bool.{Bool, true, false}
use mathlib.Core.List.{List, [], ◌∷◌}
use native.Mathlib.Omega.{arith}
use native.Mathlib.Decide.{ℕ_discrete, dec_lt}
use lib.Dec.{eqb}
use lib.ListN.{length, get_or, set}
use borrow.Author.Tests.{eq-eqb, ne_eqb, eqb-true, lt-ltb, ltb-true}
use Rattle.queue_entries.specs.Limits.{workers_most, all}
use Rattle.queue_entries.proofs.Pick.{both_left, both_right}
use Rattle.queue_schedules.proofs.Records.{every, all_of}
use Rattle.unbounded_words.specs.declared.Pointer.{Pointer}
use Rattle.unbounded_words.specs.Words.{sizes, index, number_of}
use Rattle.unbounded_places.specs.declared.Slot.{Slot}
use Rattle.unbounded_places.specs.declared.Block.{Block}
use Rattle.unbounded_places.specs.declared.Ends.{Ends}
use Rattle.unbounded_places.specs.declared.Place.{Place}
use Rattle.unbounded_places.specs.declared.Worker.{Worker}
use Rattle.unbounded_acts.specs.Acts.{new_block}
use Rattle.unbounded_machine.specs.declared.Machine.{Machine}
use Rattle.unbounded_machine.specs.Machine.{slot, block_at, idler, place_of, machine_of}
use Rattle.unbounded_codes.specs.declared.Coded.{Coded}
use Rattle.unbounded_codes.specs.Codes.{five, code_of, pointer_in, place_in, stands_for, Said, SaidOf}
use Rattle.unbounded_codes.proofs.Codes.{pointer_back, word_back, read_back}
use Rattle.unbounded_codes.proofs.Standing.{written_stands, written_back}
use Rattle.unbounded_rows.specs.Rows.{Words, words, layout, head_from, bit, slot_of_word, slot_place, header_word, slot_word, pooled, pool_of, word_of}
use Rattle.unbounded_rows.specs.Rows.{record_word, records_of, words_of, word_at, ends_in, block_in, slot_in, record_in, blocks_in, slots_in, records_in, machine_in}
use Rattle.unbounded_rows.specs.Rows.{shaped, laid_out_rows, bit_at, bits, placed_at, placed, stand, Sayable, with_blocks, with_slots, five_at, with_record}
use Rattle.unbounded_rows.proofs.Points.{long_from, get_row, is_row, still_in, Taken, one_taken, all_taken}
use Rattle.unbounded_rows.proofs.Places.{head_part, slot_part, next_at, free_at, state_at, value_at, word_at_lem, place_slot, place_slot_next, place_past}
use Rattle.unbounded_rows.proofs.Places.{place_past_next, place_even, place_odd, place_in_lem, slot_even, slot_odd, slot_in_lem}

-- ---- eight words
eight : (P : List ℕ → Type 0) → ((a b c d e f g h : ℕ) → P (a ∷ b ∷ c ∷ d ∷ e ∷ f ∷ g ∷ h ∷ [])) → (ws : List ℕ) → length ws ≡ 8 → P ws
eight P k [] n = absurd (omega (arith, n))
eight P k (a ∷ []) n = absurd (omega (arith, n))
eight P k (a ∷ b ∷ []) n = absurd (omega (arith, n))
eight P k (a ∷ b ∷ c ∷ []) n = absurd (omega (arith, n))
eight P k (a ∷ b ∷ c ∷ d ∷ []) n = absurd (omega (arith, n))
eight P k (a ∷ b ∷ c ∷ d ∷ e ∷ []) n = absurd (omega (arith, n))
eight P k (a ∷ b ∷ c ∷ d ∷ e ∷ f ∷ []) n = absurd (omega (arith, n))
eight P k (a ∷ b ∷ c ∷ d ∷ e ∷ f ∷ g ∷ []) n = absurd (omega (arith, n))
eight P k (a ∷ b ∷ c ∷ d ∷ e ∷ f ∷ g ∷ h ∷ []) n = k a b c d e f g h
eight P k (a ∷ b ∷ c ∷ d ∷ e ∷ f ∷ g ∷ h ∷ more ∷ rest) n = absurd (omega (arith, n))

abbrev set_eight : List ℕ → ℕ → ℕ → ℕ → ℕ → ℕ → ℕ → ℕ → ℕ → List ℕ
set_eight ws a b c d e f g h = set (set (set (set (set (set (set (set ws 0 a) 1 b) 2 c) 3 d) 4 e) 5 f) 6 g) 7 h

pub head_put : (ws : List ℕ) (e : Ends) (count meter f b : ℕ) → length ws ≡ 8 → f ≡ number_of sizes e.front → b ≡ number_of sizes e.back
    → set_eight ws e.head.0 f e.tail.0 b count meter 0 layout ≡ head_from e count meter
unfolding head_from
head_put ws e count meter f b n ef eb =
    eight (λ (ws : List ℕ). set_eight ws e.head.0 f e.tail.0 b count meter 0 layout ≡ head_from e count meter)
    (λ _ _ _ _ _ _ _ _. (λ i. e.head.0 ∷ ef i ∷ e.tail.0 ∷ eb i ∷ count ∷ meter ∷ 0 ∷ layout ∷ [])) ws n

whole_head : (ws : List ℕ) → length ws ≡ 8 → laid_out_rows ws ≡ true → head_from (ends_in ws) (word_at ws 4) (word_at ws 5) ≡ ws
unfolding head_from ends_in laid_out_rows
whole_head ws n =
    eight (λ (ws : List ℕ). laid_out_rows ws ≡ true → head_from (ends_in ws) (word_at ws 4) (word_at ws 5) ≡ ws)
    (λ a b c d e f g h l.
    let none : g ≡ 0 = eqb-true g 0 (both_left (eqb g 0) _ l) in
    let number : h ≡ layout = eqb-true h layout (both_right (eqb g 0) _ l) in
    (λ i. a ∷ word_back b i ∷ c ∷ word_back d i ∷ e ∷ f ∷ sym none i ∷ sym number i ∷ [])) ws n

-- ---- the pool, read and written again
module _ (ws : List ℕ) (n : length ws ≡ 4096) (h : bits ws ≡ true) where
  bit_there : (k : ℕ) → k < 64 → word_at ws (k * 64 + 1) < 2
  unfolding bits bit_at
  bit_there k l = ltb-true (word_at ws (k * 64 + 1)) 2 (every 64 0 (bit_at ws) h k (omega arith) (omega (arith, l)))

  block_there : (k : ℕ) → k < 64 → block_at (blocks_in ws) k ≡ block_in ws k
  unfolding blocks_in
  block_there k l = get_row new_block 64 k (block_in ws) l

  slot_there : (j : ℕ) → j < 1984 → get_or (slots_in ws) j (slot 0 0) ≡ slot_in ws j
  unfolding slots_in
  slot_there j l = get_row (slot 0 0) 1984 j (slot_in ws) l

  two_ways : (a : ℕ) → a < 2 → bit (eqb a 1) ≡ a
  two_ways a l = go (ℕ_discrete a 1)
    where
      go : Dec (a ≡ 1) → bit (eqb a 1) ≡ a
      go (yes e) = ap bit (eq-eqb a 1 e) ∙ sym e
      go (no e) = let none : a ≡ 0 = omega (arith, e, l) in ap bit (ne_eqb a 1 e) ∙ sym none

  word_again : (p : ℕ) → p < 4096 → word_at ws p ≡ pooled (header_word (blocks_in ws)) (slot_word (slots_in ws)) p
  unfolding block_in slot_in
  word_again p l = go (ℕ_discrete (p % 64) 0) (ℕ_discrete (p % 64) 1) (ℕ_discrete (p % 2) 0)
    where
      k_in : p / 64 < 64
      k_in = omega (arith, l)

      go : Dec (p % 64 ≡ 0) → Dec (p % 64 ≡ 1) → Dec (p % 2 ≡ 0) → word_at ws p ≡ pooled (header_word (blocks_in ws)) (slot_word (slots_in ws)) p
      go (yes r) a b =
          let same : p ≡ p / 64 * 64 = omega (arith, r) in
          ap (word_at ws) same ∙ sym (word_back (word_at ws (p / 64 * 64))) ∙ ap (λ (g : Block). number_of sizes g.next) (sym (block_there (p / 64) k_in))
          ∙ next_at (blocks_in ws) (slot_word (slots_in ws)) p (p / 64) r refl
      go (no z) (yes r) b =
          let same : p ≡ p / 64 * 64 + 1 = omega (arith, r) in
          ap (word_at ws) same ∙ sym (two_ways (word_at ws (p / 64 * 64 + 1)) (bit_there (p / 64) k_in)) ∙ ap (λ (g : Block). bit g.free) (sym (block_there (p / 64) k_in))
          ∙ free_at (blocks_in ws) (slot_word (slots_in ws)) p (p / 64) r refl
      go (no z) (no o) (yes r) =
          let past : 2 ≤ p % 64 = omega (arith, z, o) in
          ap (word_at ws) (sym (slot_even p past r)) ∙ ap (λ (s : Slot). s.state) (sym (slot_there (slot_of_word p) (slot_in_lem p past l)))
          ∙ state_at (header_word (blocks_in ws)) (slots_in ws) p (slot_of_word p) past refl r
      go (no z) (no o) (no r) =
          let past : 2 ≤ p % 64 = omega (arith, z, o) in
          let odd : p % 2 ≡ 1 = omega (arith, r) in
          ap (word_at ws) (sym (slot_odd p past odd)) ∙ ap (λ (s : Slot). s.value) (sym (slot_there (slot_of_word p) (slot_in_lem p past l)))
          ∙ value_at (header_word (blocks_in ws)) (slots_in ws) p (slot_of_word p) past refl odd

  whole_pool : pool_of (blocks_in ws) (slots_in ws) ≡ ws
  unfolding pool_of
  whole_pool = sym (is_row 0 4096 (pooled (header_word (blocks_in ws)) (slot_word (slots_in ws))) ws n word_again)

-- ---- the records, read and written again
module _ (ws : List ℕ) (n : length ws ≡ 80) (h : placed ws ≡ true) where
  place_there : (i : ℕ) → i < workers_most → place_of (records_in ws) i ≡ (record_in ws i).place
  unfolding records_in
  place_there i l = ap (λ (y : Worker). y.place) (get_row idler workers_most i (record_in ws) l)

  abbrev five_in : ℕ → Coded
  five_in i = five (word_at ws (i * 5)) (word_at ws (i * 5 + 1)) (word_at ws (i * 5 + 2)) (word_at ws (i * 5 + 3)) (word_at ws (i * 5 + 4))

  code_there : (i : ℕ) → i < workers_most → code_of (place_of (records_in ws) i) ≡ five_in i
  unfolding record_in placed placed_at
  code_there i l =
      ap code_of (place_there i l)
      ∙ written_back (word_at ws (i * 5)) (word_at ws (i * 5 + 1)) (word_at ws (i * 5 + 2)) (word_at ws (i * 5 + 3)) (word_at ws (i * 5 + 4))
      (every workers_most 0 (placed_at ws) h i (omega arith) (omega (arith, l)))

  word_of_lem : (i t : ℕ) → t < 5 → word_of (five_in i) t ≡ word_at ws (i * 5 + t)
  unfolding five
  word_of_lem i t l = go (dec_lt t 1) (dec_lt t 2) (dec_lt t 3) (dec_lt t 4)
    where
      at : (k : ℕ) → t ≡ k → word_of (five_in i) k ≡ word_at ws (i * 5 + k) → word_of (five_in i) t ≡ word_at ws (i * 5 + t)
      at k e w = subst (λ (j : ℕ). word_of (five_in i) j ≡ word_at ws (i * 5 + j)) (sym e) w

      nought : i * 5 ≡ i * 5 + 0
      nought = omega arith

      go : Dec (t < 1) → Dec (t < 2) → Dec (t < 3) → Dec (t < 4) → word_of (five_in i) t ≡ word_at ws (i * 5 + t)
      go (yes a) b c d = at 0 (omega (arith, a)) (ap (word_at ws) nought)
      go (no a) (yes b) c d = at 1 (omega (arith, a, b)) refl
      go (no a) (no b) (yes c) d = at 2 (omega (arith, b, c)) refl
      go (no a) (no b) (no c) (yes d) = at 3 (omega (arith, c, d)) refl
      go (no a) (no b) (no c) (no d) = at 4 (omega (arith, l, d)) refl

  whole_records : records_of (records_in ws) ≡ ws
  unfolding records_of
  whole_records = sym (is_row 0 80 (record_word (records_in ws)) ws n again)
    where
      again : (p : ℕ) → p < 80 → word_at ws p ≡ record_word (records_in ws) p
      again p l =
          let same : p ≡ p / 5 * 5 + p % 5 = omega arith in
          ap (word_at ws) same ∙ sym (word_of_lem (p / 5) (p % 5) (omega arith)) ∙ ap (λ (x : Coded). word_of x (p % 5)) (sym (code_there (p / 5) (omega (arith, l))))
          ∙ word_at_lem (records_in ws) p (p / 5) (p % 5) refl refl

-- ---- a machine, written and read again
module _ (gs : List Block) (ss : List Slot) where
  pool_at : (p : ℕ) → p < 4096 → word_at (pool_of gs ss) p ≡ pooled (header_word gs) (slot_word ss) p
  unfolding pool_of
  pool_at p l = get_row 0 4096 p (pooled (header_word gs) (slot_word ss)) l

  blocks_back : length gs ≡ 64 → ((k : ℕ) → Said (block_at gs k).next) → blocks_in (pool_of gs ss) ≡ gs
  unfolding blocks_in block_in
  blocks_back n said = sym (is_row new_block 64 (block_in (pool_of gs ss)) gs n each)
    where
      free_back : (b : Bool) → b ≡ eqb (bit b) 1
      free_back true = refl
      free_back false = refl

      each : (k : ℕ) → k < 64 → block_at gs k ≡ block_in (pool_of gs ss) k
      each k l =
          let next : (block_at gs k).next ≡ pointer_in (word_at (pool_of gs ss) (k * 64)) =
          sym (pointer_back (block_at gs k).next (said k)) ∙ ap pointer_in (next_at gs (slot_word ss) (k * 64) k (omega arith) (omega arith) ∙ sym (pool_at (k * 64) (omega (arith, l)))) in
          let free : (block_at gs k).free ≡ eqb (word_at (pool_of gs ss) (k * 64 + 1)) 1 =
          free_back (block_at gs k).free
          ∙ ap (λ (a : ℕ). eqb a 1) (free_at gs (slot_word ss) (k * 64 + 1) k (omega arith) (omega arith) ∙ sym (pool_at (k * 64 + 1) (omega (arith, l)))) in
          λ i. record { next = next i; free = free i }

  slots_back : length ss ≡ 1984 → slots_in (pool_of gs ss) ≡ ss
  unfolding slots_in slot_in
  slots_back n = sym (is_row (slot 0 0) 1984 (slot_in (pool_of gs ss)) ss n each)
    where
      each : (j : ℕ) → j < 1984 → get_or ss j (slot 0 0) ≡ slot_in (pool_of gs ss) j
      each j l =
          let state = state_at (header_word gs) ss (slot_place j) j (place_past j) (place_slot j) (place_even j) ∙ sym (pool_at (slot_place j) (omega (arith, place_in_lem j l))) in
          let value = value_at (header_word gs) ss (slot_place j + 1) j (place_past_next j) (place_slot_next j) (place_odd j) ∙ sym (pool_at (slot_place j + 1) (omega (arith, place_in_lem j l))) in
          λ i. slot (state i) (value i)

  bits_there : bits (pool_of gs ss) ≡ true
  unfolding bits bit_at
  bits_there = all_of 64 0 (bit_at (pool_of gs ss)) (λ k a l. lt-ltb (word_at (pool_of gs ss) (k * 64 + 1)) 2 (small k (omega (arith, l))))
    where
      few : (b : Bool) → bit b < 2
      few true = omega arith
      few false = omega arith

      small : (k : ℕ) → k < 64 → word_at (pool_of gs ss) (k * 64 + 1) < 2
      small k l = subst (λ (a : ℕ). a < 2) (free_at gs (slot_word ss) (k * 64 + 1) k (omega arith) (omega arith) ∙ sym (pool_at (k * 64 + 1) (omega (arith, l)))) (few (block_at gs k).free)

module _ (ys : List Worker) where
  record_at : (i t : ℕ) → i < workers_most → t < 5 → word_at (records_of ys) (i * 5 + t) ≡ word_of (code_of (place_of ys i)) t
  unfolding records_of
  record_at i t l m = get_row 0 80 (i * 5 + t) (record_word ys) (omega (arith, l, m)) ∙ sym (word_at_lem ys (i * 5 + t) i t (omega (arith, m)) (omega (arith, m)))

  abbrev Fives : (ℕ → ℕ → ℕ → ℕ → ℕ → Type 0) → ℕ → Type 0
  Fives P i = P (word_at (records_of ys) (i * 5)) (word_at (records_of ys) (i * 5 + 1)) (word_at (records_of ys) (i * 5 + 2)) (word_at (records_of ys) (i * 5 + 3)) (word_at (records_of ys) (i * 5 + 4))

  -- what holds of a place's five words holds of the words of its record
  fives : (P : ℕ → ℕ → ℕ → ℕ → ℕ → Type 0) (i : ℕ) → i < workers_most
      → P (code_of (place_of ys i)).code (code_of (place_of ys i)).first (code_of (place_of ys i)).second (code_of (place_of ys i)).third (code_of (place_of ys i)).fourth → Fives P i
  fives P i l h =
      let nought : i * 5 ≡ i * 5 + 0 = omega arith in
      let e0 = ap (word_at (records_of ys)) nought ∙ record_at i 0 l (omega arith) in
      let e1 = record_at i 1 l (omega arith) in
      let e2 = record_at i 2 l (omega arith) in
      let e3 = record_at i 3 l (omega arith) in
      let e4 = record_at i 4 l (omega arith) in
      subst (λ (a : ℕ). P a (word_at (records_of ys) (i * 5 + 1)) (word_at (records_of ys) (i * 5 + 2)) (word_at (records_of ys) (i * 5 + 3)) (word_at (records_of ys) (i * 5 + 4))) (sym e0)
      (subst (λ (a : ℕ). P (code_of (place_of ys i)).code a (word_at (records_of ys) (i * 5 + 2)) (word_at (records_of ys) (i * 5 + 3)) (word_at (records_of ys) (i * 5 + 4))) (sym e1)
      (subst (λ (a : ℕ). P (code_of (place_of ys i)).code (code_of (place_of ys i)).first a (word_at (records_of ys) (i * 5 + 3)) (word_at (records_of ys) (i * 5 + 4))) (sym e2)
      (subst (λ (a : ℕ). P (code_of (place_of ys i)).code (code_of (place_of ys i)).first (code_of (place_of ys i)).second a (word_at (records_of ys) (i * 5 + 4))) (sym e3)
      (subst (λ (a : ℕ). P (code_of (place_of ys i)).code (code_of (place_of ys i)).first (code_of (place_of ys i)).second (code_of (place_of ys i)).third a) (sym e4) h))))

  module _ (said : (i : ℕ) → SaidOf (place_of ys i)) where
    records_back : length ys ≡ workers_most → records_in (records_of ys) ≡ ys
    unfolding records_in record_in
    records_back n = sym (is_row idler workers_most (record_in (records_of ys)) ys n each)
      where
        each : (i : ℕ) → i < workers_most → get_or ys i idler ≡ record_in (records_of ys) i
        each i l =
            let place : place_of ys i ≡ (record_in (records_of ys) i).place = fives (λ (a b c d e : ℕ). place_of ys i ≡ place_in a b c d e) i l (sym (read_back (place_of ys i) (said i))) in
            λ k. record { place = place k }

    placed_there : placed (records_of ys) ≡ true
    unfolding placed placed_at
    placed_there = all_of workers_most 0 (placed_at (records_of ys)) (λ i a l. fives (λ (a b c d e : ℕ). stands_for a b c d e ≡ true) i (omega (arith, l)) (written_stands (place_of ys i) (said i)))

-- ---- shapes
module _ (h p rs : List ℕ) where
  pub shape_1 : (length h ≡ 8 → ⊥) → false ≡ shaped (words h p rs)
  unfolding shaped
  shape_1 a = sym (rw (ne_eqb (length h) 8 a) refl)

  pub shape_2 : length h ≡ 8 → (length p ≡ 4096 → ⊥) → false ≡ shaped (words h p rs)
  unfolding shaped
  shape_2 a b = sym (rw (eq-eqb (length h) 8 a, ne_eqb (length p) 4096 b) refl)

  pub shape_3 : length h ≡ 8 → length p ≡ 4096 → eqb (length rs) 80 ≡ shaped (words h p rs)
  unfolding shaped
  shape_3 a b = sym (rw (eq-eqb (length h) 8 a, eq-eqb (length p) 4096 b) refl)

  pub record Shape : Type 0 where
    pub head_words : length h ≡ 8
    pub pool_words : length p ≡ 4096
    pub record_words : length rs ≡ 80

  pub shape_of : shaped (words h p rs) ≡ true → Shape
  unfolding shaped
  shape_of s =
      let rest = both_right (eqb (length h) 8) _ s in
      record {
        head_words = eqb-true (length h) 8 (both_left (eqb (length h) 8) _ s);
        pool_words = eqb-true (length p) 4096 (both_left (eqb (length p) 4096) _ rest);
        record_words = eqb-true (length rs) 80 (both_right (eqb (length p) 4096) _ rest);
      }

  module _ (s : Bool) (es : s ≡ shaped (words h p rs)) where
    pub no_shape : s ≡ false → false ≡ stand (words h p rs)
    unfolding stand
    no_shape f = sym (rw (sym es ∙ f) refl)

    module _ (hs : s ≡ true) where
      pub head_long : length h ≡ 8
      head_long = (shape_of (sym es ∙ hs)).head_words

      pub pool_long : length p ≡ 4096
      pool_long = (shape_of (sym es ∙ hs)).pool_words

      pub records_long : length rs ≡ 80
      records_long = (shape_of (sym es ∙ hs)).record_words

      module _ (l : Bool) (el : l ≡ laid_out_rows h) where
        pub not_laid : l ≡ false → false ≡ stand (words h p rs)
        unfolding stand
        not_laid f = sym (rw (sym es ∙ hs, sym el ∙ f) refl)

        module _ (hl : l ≡ true) (b : Bool) (eb : b ≡ bits p) where
          pub no_bits : b ≡ false → false ≡ stand (words h p rs)
          unfolding stand
          no_bits f = sym (rw (sym es ∙ hs, sym el ∙ hl, sym eb ∙ f) refl)

          pub by_places : b ≡ true → (r : Bool) → r ≡ placed rs → r ≡ stand (words h p rs)
          unfolding stand
          by_places hb r e = e ∙ sym (rw (sym es ∙ hs, sym el ∙ hl, sym eb ∙ hb) refl)

module _ (h : List ℕ) where
  pub not_nought : (word_at h 6 ≡ 0 → ⊥) → false ≡ laid_out_rows h
  unfolding laid_out_rows
  not_nought n = sym (rw (ne_eqb (word_at h 6) 0 n) refl)

  pub by_layout : word_at h 6 ≡ 0 → eqb (word_at h 7) layout ≡ laid_out_rows h
  unfolding laid_out_rows
  by_layout e = sym (rw (eq-eqb (word_at h 6) 0 e) refl)

-- ---- one to one
pub record Standing (w : Words) : Type 0 where
  pub head_words : length w.head ≡ 8
  pub pool_words : length w.pool ≡ 4096
  pub record_words : length w.records ≡ 80
  pub laid_out : laid_out_rows w.head ≡ true
  pub all_bits : bits w.pool ≡ true
  pub all_placed : placed w.records ≡ true

pub standing : (w : Words) → stand w ≡ true → Standing w
unfolding stand
standing w s =
    let shape = shape_of w.head w.pool w.records (both_left (shaped w) _ s) in
    let rest = both_right (shaped w) _ s in
    let more = both_right (laid_out_rows w.head) _ rest in
    record {
      head_words = shape.head_words;
      pool_words = shape.pool_words;
      record_words = shape.record_words;
      laid_out = both_left (laid_out_rows w.head) _ rest;
      all_bits = both_left (bits w.pool) _ more;
      all_placed = both_right (bits w.pool) _ more;
    }

-- what stands for a machine is written as it was
pub same_words : (w : Words) → stand w ≡ true → words_of (machine_in w) ≡ w
unfolding machine_in
same_words w s =
    let x = standing w s in
    let head = whole_head w.head x.head_words x.laid_out in
    let pool = whole_pool w.pool x.pool_words x.all_bits in
    let records = whole_records w.records x.record_words x.all_placed in
    λ i. words (head i) (pool i) (records i)

-- a machine that has words is written as words that stand for it, and read as it was
pub written_stand : (m : Machine) → Sayable m → stand (words_of m) ≡ true
unfolding stand shaped laid_out_rows head_from pool_of records_of
written_stand m s =
    rw (
      eq-eqb (length (pool_of m.blocks m.slots)) 4096 (long_from 0 4096 0 (pooled (header_word m.blocks) (slot_word m.slots))),
      eq-eqb (length (records_of m.workers)) 80 (long_from 0 80 0 (record_word m.workers)),
      bits_there m.blocks m.slots,
      placed_there m.workers s.place_said,
    )
    refl

pub same_machine : (m : Machine) → Sayable m → machine_in (words_of m) ≡ m
unfolding machine_in head_from ends_in
same_machine m s =
    let front = pointer_back m.ends.front s.front_said in
    let back = pointer_back m.ends.back s.back_said in
    let blocks = blocks_back m.blocks m.slots s.blocks_all s.next_said in
    let slots = slots_back m.blocks m.slots s.slots_all in
    let workers = records_back m.workers s.place_said s.workers_all in
    λ i. machine_of (record { head = m.ends.head; front = front i; tail = m.ends.tail; back = back i }) (blocks i) (slots i) (workers i) m.count m.meter

-- ---- a machine that is read
module _ (h p rs : List ℕ) where
  pub machine_read : (e : Ends) (gs : List Block) (ss : List Slot) (ys : List Worker) → e ≡ ends_in h → gs ≡ blocks_in p → ss ≡ slots_in p → ys ≡ records_in rs
      → machine_of e gs ss ys (word_at h 4) (word_at h 5) ≡ machine_in (words h p rs)
  unfolding machine_in
  machine_read e gs ss ys ee eg es ey = λ i. machine_of (ee i) (eg i) (es i) (ey i) (word_at h 4) (word_at h 5)

  pub ends_read : (f b : Pointer) → f ≡ pointer_in (word_at h 1) → b ≡ pointer_in (word_at h 3) → record { head = index (word_at h 0); front = f; tail = index (word_at h 2); back = b } ≡ ends_in h
  unfolding ends_in
  ends_read f b ef eb = λ i. record { head = index (word_at h 0); front = ef i; tail = index (word_at h 2); back = eb i }

pub block_read : (ws : List ℕ) (k : ℕ) (n : Pointer) (b : Bool) → n ≡ pointer_in (word_at ws (k * 64)) → b ≡ eqb (word_at ws (k * 64 + 1)) 1 → record { next = n; free = b } ≡ block_in ws k
unfolding block_in
block_read ws k n b en eb = λ i. record { next = en i; free = eb i }

pub record_read : (ws : List ℕ) (i : ℕ) (p : Place)
    → p ≡ place_in (word_at ws (i * 5)) (word_at ws (i * 5 + 1)) (word_at ws (i * 5 + 2)) (word_at ws (i * 5 + 3)) (word_at ws (i * 5 + 4)) → record { place = p } ≡ record_in ws i
unfolding record_in
record_read ws i p e = λ k. record { place = e k }

pub placed_read : (ws : List ℕ) (i : ℕ) (b : Bool)
    → b ≡ stands_for (word_at ws (i * 5)) (word_at ws (i * 5 + 1)) (word_at ws (i * 5 + 2)) (word_at ws (i * 5 + 3)) (word_at ws (i * 5 + 4)) → b ≡ placed_at ws i
unfolding placed_at
placed_read ws i b e = e

-- ---- a pool that is written
pub pool_put : (ws p q : List ℕ) (gs : List Block) (ss : List Slot) → p ≡ with_blocks ws gs → q ≡ with_slots p ss → q ≡ pool_of gs ss
unfolding with_blocks with_slots pool_of
pool_put ws p q gs ss ep eq =
    eq
    ∙ is_row 0 4096 (pooled (header_word gs) (slot_word ss)) (with_slots p ss) (long_from 0 4096 0 (pooled (word_at p) (slot_word ss)))
    (λ j l. get_row 0 4096 j (pooled (word_at p) (slot_word ss)) l ∙ go j l (dec_lt (j % 64) 2))
  where
    go : (j : ℕ) → j < 4096 → Dec (j % 64 < 2) → pooled (word_at p) (slot_word ss) j ≡ pooled (header_word gs) (slot_word ss) j
    go j l (yes h) =
        sym (head_part (word_at p) (slot_word ss) j h) ∙ ap (λ (r : List ℕ). word_at r j) ep ∙ get_row 0 4096 j (pooled (header_word gs) (word_at ws)) l
        ∙ sym (head_part (header_word gs) (word_at ws) j h) ∙ head_part (header_word gs) (slot_word ss) j h
    go j l (no h) = let past : 2 ≤ j % 64 = omega (arith, h) in sym (slot_part (word_at p) (slot_word ss) j past) ∙ slot_part (header_word gs) (slot_word ss) j past

pub record_put : (ws : List ℕ) (i : ℕ) (r : Worker) (x : Coded) → x ≡ code_of r.place → five_at ws (i * 5) x ≡ with_record ws i r
unfolding with_record
record_put ws i r x e = ap (five_at ws (i * 5)) e

-- ---- room for the next word
module _ (h : List ℕ) (n : length h ≡ 8) (a b c d : ℕ) where
  room_4 : (j : ℕ) → j < 8 → j < length (set (set (set (set h 0 a) 1 b) 2 c) 3 d)
  room_4 j l =
      still_in (set (set (set h 0 a) 1 b) 2 c) j 3 d (still_in (set (set h 0 a) 1 b) j 2 c (still_in (set h 0 a) j 1 b (still_in h j 0 a (omega (arith, n, l)))))

  pub after_four : 4 < length (set (set (set (set h 0 a) 1 b) 2 c) 3 d)
  after_four = room_4 4 (omega arith)

  module _ (e : ℕ) where
    room_5 : (j : ℕ) → j < 8 → j < length (set (set (set (set (set h 0 a) 1 b) 2 c) 3 d) 4 e)
    room_5 j l = still_in (set (set (set (set h 0 a) 1 b) 2 c) 3 d) j 4 e (room_4 j l)

    pub after_five : 5 < length (set (set (set (set (set h 0 a) 1 b) 2 c) 3 d) 4 e)
    after_five = room_5 5 (omega arith)

    module _ (f : ℕ) where
      room_6 : (j : ℕ) → j < 8 → j < length (set (set (set (set (set (set h 0 a) 1 b) 2 c) 3 d) 4 e) 5 f)
      room_6 j l = still_in (set (set (set (set (set h 0 a) 1 b) 2 c) 3 d) 4 e) j 5 f (room_5 j l)

      pub after_six : 6 < length (set (set (set (set (set (set h 0 a) 1 b) 2 c) 3 d) 4 e) 5 f)
      after_six = room_6 6 (omega arith)

      pub after_seven : (g : ℕ) → 7 < length (set (set (set (set (set (set (set h 0 a) 1 b) 2 c) 3 d) 4 e) 5 f) 6 g)
      after_seven g = still_in (set (set (set (set (set (set h 0 a) 1 b) 2 c) 3 d) 4 e) 5 f) 7 6 g (room_6 7 (omega arith))

module _ (ws : List ℕ) (i a : ℕ) (h : i * 5 + 4 < length ws) where
  pub after_code : i * 5 + 1 < length (set ws (i * 5) a)
  after_code = still_in ws (i * 5 + 1) (i * 5) a (omega (arith, h))

  module _ (b : ℕ) where
    pub after_first : i * 5 + 2 < length (set (set ws (i * 5) a) (i * 5 + 1) b)
    after_first = still_in (set ws (i * 5) a) (i * 5 + 2) (i * 5 + 1) b (still_in ws (i * 5 + 2) (i * 5) a (omega (arith, h)))

    pub after_second : (c : ℕ) → i * 5 + 3 < length (set (set (set ws (i * 5) a) (i * 5 + 1) b) (i * 5 + 2) c)
    after_second c =
        still_in (set (set ws (i * 5) a) (i * 5 + 1) b) (i * 5 + 3) (i * 5 + 2) c
        (still_in (set ws (i * 5) a) (i * 5 + 3) (i * 5 + 1) b (still_in ws (i * 5 + 3) (i * 5) a (omega (arith, h))))

-- ---- rows that were read to their end
module _ (ws : List ℕ) (i : ℕ) where
  pub blocks_read : (all : List Block) → Taken new_block 64 (block_in ws) i all → 64 ≤ i → all ≡ blocks_in ws
  unfolding blocks_in
  blocks_read all z h = all_taken new_block 64 (block_in ws) i all z h

  pub slots_read : (all : List Slot) → Taken (slot 0 0) 1984 (slot_in ws) i all → 1984 ≤ i → all ≡ slots_in ws
  unfolding slots_in
  slots_read all z h = all_taken (slot 0 0) 1984 (slot_in ws) i all z h

  pub slot_taken : (all : List Slot) → Taken (slot 0 0) 1984 (slot_in ws) i all → i < 1984
      → Taken (slot 0 0) 1984 (slot_in ws) (i + 1) (set all i (slot (word_at ws (slot_place i)) (word_at ws (slot_place i + 1))))
  unfolding slot_in
  slot_taken all z l = one_taken (slot 0 0) 1984 (slot_in ws) i all z l (slot (word_at ws (slot_place i)) (word_at ws (slot_place i + 1))) refl

  pub records_read : (all : List Worker) → Taken idler workers_most (record_in ws) i all → workers_most ≤ i → all ≡ records_in ws
  unfolding records_in
  records_read all z h = all_taken idler workers_most (record_in ws) i all z h
