-- What holds along the loops that write the words, and along those that judge them.
use Prim.Native.Nat.{ℕ, ◌+◌, ◌-◌, ◌*◌, ◌/◌, ◌%◌, ◌<◌, ◌≤◌}
use mathlib.Core.Path.{◌≡◌, refl, sym, ap, ◌∙◌, subst}
use mathlib.Core.Bool.{Bool, true, false}
use mathlib.Core.List.{List}
use native.Mathlib.Omega.{arith}
use native.Mathlib.Decide.{ℕ_discrete, dec_lt}
use lib.ListN.{length, get_or, set, length-set}
use borrow.Author.Tests.{lt-ltb, le-ltb}
use Rattle.queue_entries.specs.Limits.{workers_most, all}
use Rattle.queue_entries.proofs.Limits.{all_more, all_failed, all_passed}
use Rattle.unbounded_words.specs.Words.{sizes, number_of}
use Rattle.unbounded_places.specs.declared.Slot.{Slot}
use Rattle.unbounded_places.specs.declared.Block.{Block}
use Rattle.unbounded_places.specs.declared.Worker.{Worker}
use Rattle.unbounded_machine.specs.Machine.{slot, block_at, idler, place_of}
use Rattle.unbounded_codes.specs.declared.Coded.{Coded}
use Rattle.unbounded_codes.specs.Codes.{code_of}
use Rattle.unbounded_rows.specs.Rows.{bit, slot_of_word, slot_place, header_word, slot_word, pooled, with_blocks, with_slots, record_word, records_of, five_at}
use Rattle.unbounded_rows.specs.Rows.{with_record, word_at, bit_at, bits, placed_at, placed}
use Rattle.unbounded_rows.proofs.Points.{Right, here, still, still_in, is_row}
use Rattle.unbounded_rows.proofs.Places.{head_part, slot_part, next_at, free_at, state_at, value_at, word_at_lem, place_slot, place_slot_next, place_past}
use Rattle.unbounded_rows.proofs.Places.{place_past_next, place_even, place_odd, place_in_lem, slot_even, slot_odd, slot_in_lem}

-- ---- two words that are stored
module _ (g : ℕ → ℕ) (zs : List ℕ) (q a b : ℕ) (l : q + 1 < length zs) (ea : a ≡ g q) (eb : b ≡ g (q + 1)) where
  abbrev two : List ℕ
  two = set (set zs q a) (q + 1) b

  two_long : length two ≡ length zs
  two_long = length-set (set zs q a) (q + 1) b ∙ length-set zs q a

  two_still : (p : ℕ) → Right g zs p → Right g two p
  two_still p r = still g (set zs q a) (q + 1) b (still_in zs (q + 1) q a l) eb p (still g zs q a (omega (arith, l)) ea p r)

  two_here : (p : ℕ) → p ≡ q → Right g two p
  two_here p h = still g (set zs q a) (q + 1) b (still_in zs (q + 1) q a l) eb p (here g zs q a (omega (arith, l)) ea p h)

  two_next : (p : ℕ) → p ≡ q + 1 → Right g two p
  two_next p h = here g (set zs q a) (q + 1) b (still_in zs (q + 1) q a l) eb p h

-- ---- headers of blocks
module _ (ws : List ℕ) (gs : List Block) where
  abbrev HeaderRight : List ℕ → ℕ → Type 0
  HeaderRight zs p = Right (pooled (header_word gs) (word_at ws)) zs p

  pub record Headed (k : ℕ) (zs : List ℕ) : Type 0 where
    pub low : k ≤ 64
    pub long : length zs ≡ 4096
    pub slots : (p : ℕ) → 2 ≤ p % 64 → HeaderRight zs p
    pub so_far : (p : ℕ) → p % 64 < 2 → p / 64 < k → HeaderRight zs p

  pub none_headed : length ws ≡ 4096 → Headed 0 ws
  none_headed e = record { low = omega arith; long = e; slots = λ p r. slot_part (header_word gs) (word_at ws) p r; so_far = λ p a l. absurd (omega (arith, l)) }

  module _ (k : ℕ) (zs : List ℕ) (z : Headed k zs) where
    module _ (l : k < 64) where
      header_in : k * 64 + 1 < length zs
      header_in = omega (arith, l, z.long)

      pub header_first : k * 64 < length zs
      header_first = omega (arith, l, z.long)

      pub header_next : (a : ℕ) → k * 64 + 1 < length (set zs (k * 64) a)
      header_next a = still_in zs (k * 64 + 1) (k * 64) a header_in

      pub one_headed : (a b : ℕ) → a ≡ number_of sizes (block_at gs k).next → b ≡ bit (block_at gs k).free → Headed (k + 1) (set (set zs (k * 64) a) (k * 64 + 1) b)
      one_headed a b ea eb = record {
        low = omega (arith, l);
        long = two_long (pooled (header_word gs) (word_at ws)) zs (k * 64) a b header_in wa wb ∙ z.long;
        slots = λ p r. two_still (pooled (header_word gs) (word_at ws)) zs (k * 64) a b header_in wa wb p (z.slots p r);
        so_far = λ p r m. go p r m (ℕ_discrete p (k * 64)) (ℕ_discrete p (k * 64 + 1));
      }
        where
          wa : a ≡ pooled (header_word gs) (word_at ws) (k * 64)
          wa = ea ∙ next_at gs (word_at ws) (k * 64) k (omega arith) (omega arith)

          wb : b ≡ pooled (header_word gs) (word_at ws) (k * 64 + 1)
          wb = eb ∙ free_at gs (word_at ws) (k * 64 + 1) k (omega arith) (omega arith)

          go : (p : ℕ) → p % 64 < 2 → p / 64 < k + 1 → Dec (p ≡ k * 64) → Dec (p ≡ k * 64 + 1) → HeaderRight (set (set zs (k * 64) a) (k * 64 + 1) b) p
          go p r m (yes h) other = two_here (pooled (header_word gs) (word_at ws)) zs (k * 64) a b header_in wa wb p h
          go p r m (no n) (yes h) = two_next (pooled (header_word gs) (word_at ws)) zs (k * 64) a b header_in wa wb p h
          go p r m (no n) (no n') = two_still (pooled (header_word gs) (word_at ws)) zs (k * 64) a b header_in wa wb p (z.so_far p r (earlier (dec_lt (p / 64) k)))
            where
              near : p / 64 ≡ k → Dec (0 < p % 64) → ⊥
              near x (yes y) = n' (omega (arith, x, r, y))
              near x (no y) = n (omega (arith, x, y))

              earlier : Dec (p / 64 < k) → p / 64 < k
              earlier (yes x) = x
              earlier (no x) = absurd (near (omega (arith, x, m)) (dec_lt 0 (p % 64)))

    pub all_headed : 64 ≤ k → zs ≡ with_blocks ws gs
    unfolding with_blocks
    all_headed h = is_row 0 4096 (pooled (header_word gs) (word_at ws)) zs z.long (λ p l. go p l (dec_lt (p % 64) 2))
      where
        go : (p : ℕ) → p < 4096 → Dec (p % 64 < 2) → HeaderRight zs p
        go p l (yes r) = z.so_far p r (omega (arith, l, h))
        go p l (no r) = z.slots p (omega (arith, r))

-- ---- and slots
module _ (ws : List ℕ) (ss : List Slot) where
  abbrev SlotRight : List ℕ → ℕ → Type 0
  SlotRight zs p = Right (pooled (word_at ws) (slot_word ss)) zs p

  pub record Filled (j : ℕ) (zs : List ℕ) : Type 0 where
    pub low : j ≤ 1984
    pub long : length zs ≡ 4096
    pub headers : (p : ℕ) → p % 64 < 2 → SlotRight zs p
    pub so_far : (p : ℕ) → 2 ≤ p % 64 → slot_of_word p < j → SlotRight zs p

  pub none_filled : length ws ≡ 4096 → Filled 0 ws
  none_filled e = record { low = omega arith; long = e; headers = λ p r. head_part (word_at ws) (slot_word ss) p r; so_far = λ p r l. absurd (omega (arith, l)) }

  module _ (j : ℕ) (zs : List ℕ) (z : Filled j zs) where
    module _ (l : j < 1984) where
      pub slot_first : slot_place j < length zs
      slot_first = omega (arith, place_in_lem j l, z.long)

      slot_both : slot_place j + 1 < length zs
      slot_both = omega (arith, place_in_lem j l, z.long)

      pub slot_next : (a : ℕ) → slot_place j + 1 < length (set zs (slot_place j) a)
      slot_next a = still_in zs (slot_place j + 1) (slot_place j) a slot_both

      pub one_filled : (s : Slot) → s ≡ get_or ss j (slot 0 0) → Filled (j + 1) (set (set zs (slot_place j) s.state) (slot_place j + 1) s.value)
      one_filled s es = record {
        low = omega (arith, l);
        long = two_long (pooled (word_at ws) (slot_word ss)) zs (slot_place j) s.state s.value slot_both wa wb ∙ z.long;
        headers = λ p r. two_still (pooled (word_at ws) (slot_word ss)) zs (slot_place j) s.state s.value slot_both wa wb p (z.headers p r);
        so_far = λ p r m. go p r m (ℕ_discrete p (slot_place j)) (ℕ_discrete p (slot_place j + 1));
      }
        where
          wa : s.state ≡ pooled (word_at ws) (slot_word ss) (slot_place j)
          wa = ap (λ (x : Slot). x.state) es ∙ state_at (word_at ws) ss (slot_place j) j (place_past j) (place_slot j) (place_even j)

          wb : s.value ≡ pooled (word_at ws) (slot_word ss) (slot_place j + 1)
          wb = ap (λ (x : Slot). x.value) es ∙ value_at (word_at ws) ss (slot_place j + 1) j (place_past_next j) (place_slot_next j) (place_odd j)

          go : (p : ℕ) → 2 ≤ p % 64 → slot_of_word p < j + 1 → Dec (p ≡ slot_place j) → Dec (p ≡ slot_place j + 1)
              → SlotRight (set (set zs (slot_place j) s.state) (slot_place j + 1) s.value) p
          go p r m (yes h) other = two_here (pooled (word_at ws) (slot_word ss)) zs (slot_place j) s.state s.value slot_both wa wb p h
          go p r m (no n) (yes h) = two_next (pooled (word_at ws) (slot_word ss)) zs (slot_place j) s.state s.value slot_both wa wb p h
          go p r m (no n) (no n') =
              two_still (pooled (word_at ws) (slot_word ss)) zs (slot_place j) s.state s.value slot_both wa wb p (z.so_far p r (earlier (dec_lt (slot_of_word p) j)))
            where
              even_there : slot_of_word p ≡ j → p % 2 ≡ 0 → p ≡ slot_place j
              even_there x y = sym (slot_even p r y) ∙ ap (λ (i : ℕ). slot_place i) x

              odd_there : slot_of_word p ≡ j → p % 2 ≡ 1 → p ≡ slot_place j + 1
              odd_there x y = sym (slot_odd p r y) ∙ ap (λ (i : ℕ). slot_place i + 1) x

              near : slot_of_word p ≡ j → Dec (p % 2 ≡ 0) → ⊥
              near x (yes y) = n (even_there x y)
              near x (no y) = n' (odd_there x (omega (arith, y)))

              earlier : Dec (slot_of_word p < j) → slot_of_word p < j
              earlier (yes x) = x
              earlier (no x) = absurd (near (omega (arith, x, m)) (ℕ_discrete (p % 2) 0))

    pub all_filled : 1984 ≤ j → zs ≡ with_slots ws ss
    unfolding with_slots
    all_filled h = is_row 0 4096 (pooled (word_at ws) (slot_word ss)) zs z.long (λ p l. go p l (dec_lt (p % 64) 2))
      where
        go : (p : ℕ) → p < 4096 → Dec (p % 64 < 2) → SlotRight zs p
        go p l (yes r) = z.headers p r
        go p l (no r) = let past : 2 ≤ p % 64 = omega (arith, r) in z.so_far p past (omega (arith, slot_in_lem p past l, h))

-- ---- records that are stored
module _ (g : ℕ → ℕ) (zs : List ℕ) (q : ℕ) (x : Coded) (l : q + 4 < length zs) (e0 : x.code ≡ g q) (e1 : x.first ≡ g (q + 1)) (e2 : x.second ≡ g (q + 2)) (e3 : x.third ≡ g (q + 3))
    (e4 : x.fourth ≡ g (q + 4)) where
  abbrev z1 : List ℕ
  z1 = set zs q x.code

  abbrev z2 : List ℕ
  z2 = set z1 (q + 1) x.first

  abbrev z3 : List ℕ
  z3 = set z2 (q + 2) x.second

  abbrev z4 : List ℕ
  z4 = set z3 (q + 3) x.third

  l0 : q < length zs
  l0 = omega (arith, l)

  l1 : q + 1 < length z1
  l1 = still_in zs (q + 1) q x.code (omega (arith, l))

  l2 : q + 2 < length z2
  l2 = still_in z1 (q + 2) (q + 1) x.first (still_in zs (q + 2) q x.code (omega (arith, l)))

  l3 : q + 3 < length z3
  l3 = still_in z2 (q + 3) (q + 2) x.second (still_in z1 (q + 3) (q + 1) x.first (still_in zs (q + 3) q x.code (omega (arith, l))))

  l4 : q + 4 < length z4
  l4 = still_in z3 (q + 4) (q + 3) x.third (still_in z2 (q + 4) (q + 2) x.second (still_in z1 (q + 4) (q + 1) x.first (still_in zs (q + 4) q x.code l)))

  from1 : (p : ℕ) → Right g z1 p → Right g (five_at zs q x) p
  from1 p r = still g z4 (q + 4) x.fourth l4 e4 p (still g z3 (q + 3) x.third l3 e3 p (still g z2 (q + 2) x.second l2 e2 p (still g z1 (q + 1) x.first l1 e1 p r)))

  from2 : (p : ℕ) → Right g z2 p → Right g (five_at zs q x) p
  from2 p r = still g z4 (q + 4) x.fourth l4 e4 p (still g z3 (q + 3) x.third l3 e3 p (still g z2 (q + 2) x.second l2 e2 p r))

  from3 : (p : ℕ) → Right g z3 p → Right g (five_at zs q x) p
  from3 p r = still g z4 (q + 4) x.fourth l4 e4 p (still g z3 (q + 3) x.third l3 e3 p r)

  five_still : (p : ℕ) → Right g zs p → Right g (five_at zs q x) p
  five_still p r = from1 p (still g zs q x.code l0 e0 p r)

  five_here : (p t : ℕ) → p ≡ q + t → t < 5 → Right g (five_at zs q x) p
  five_here p t h m = go (dec_lt t 1) (dec_lt t 2) (dec_lt t 3) (dec_lt t 4)
    where
      go : Dec (t < 1) → Dec (t < 2) → Dec (t < 3) → Dec (t < 4) → Right g (five_at zs q x) p
      go (yes a) b c d = from1 p (here g zs q x.code l0 e0 p (omega (arith, h, a)))
      go (no a) (yes b) c d = from2 p (here g z1 (q + 1) x.first l1 e1 p (omega (arith, h, a, b)))
      go (no a) (no b) (yes c) d = from3 p (here g z2 (q + 2) x.second l2 e2 p (omega (arith, h, b, c)))
      go (no a) (no b) (no c) (yes d) = still g z4 (q + 4) x.fourth l4 e4 p (here g z3 (q + 3) x.third l3 e3 p (omega (arith, h, c, d)))
      go (no a) (no b) (no c) (no d) = here g z4 (q + 4) x.fourth l4 e4 p (omega (arith, h, m, d))

pub long_record : (ws : List ℕ) (i : ℕ) (r : Worker) → length (with_record ws i r) ≡ length ws
unfolding with_record
long_record ws i r = simp length-set

module _ (ys : List Worker) where
  pub record Stored (i : ℕ) (zs : List ℕ) : Type 0 where
    pub low : i ≤ workers_most
    pub long : length zs ≡ 80
    pub so_far : (p : ℕ) → p / 5 < i → Right (record_word ys) zs p

  pub none_stored : (zs : List ℕ) → length zs ≡ 80 → Stored 0 zs
  none_stored zs e = record { low = omega arith; long = e; so_far = λ p l. absurd (omega (arith, l)) }

  module _ (i : ℕ) (zs : List ℕ) (z : Stored i zs) where
    pub one_stored : i < workers_most → (zs' : List ℕ) → zs' ≡ with_record zs i (get_or ys i idler) → Stored (i + 1) zs'
    unfolding with_record
    one_stored l zs' e = record {
      low = omega (arith, l);
      long = ap length e ∙ long_record zs i (get_or ys i idler) ∙ z.long;
      so_far = λ p m. subst (λ (r : List ℕ). Right (record_word ys) r p) (sym e) (go p m (dec_lt (p / 5) i));
    }
      where
        room : i * 5 + 4 < length zs
        room = omega (arith, l, z.long)

        at : (t : ℕ) → t < 5 → (i * 5 + t) / 5 ≡ i
        at t h = omega (arith, h)

        rest : (t : ℕ) → t < 5 → (i * 5 + t) % 5 ≡ t
        rest t h = omega (arith, h)

        w0 : (code_of (place_of ys i)).code ≡ record_word ys (i * 5)
        w0 = word_at_lem ys (i * 5) i 0 (omega arith) (omega arith)

        go : (p : ℕ) → p / 5 < i + 1 → Dec (p / 5 < i) → Right (record_word ys) (five_at zs (i * 5) (code_of (place_of ys i))) p
        go p m (yes h) =
            five_still (record_word ys) zs (i * 5) (code_of (place_of ys i)) room w0 (word_at_lem ys (i * 5 + 1) i 1 (at 1 (omega arith)) (rest 1 (omega arith)))
            (word_at_lem ys (i * 5 + 2) i 2 (at 2 (omega arith)) (rest 2 (omega arith))) (word_at_lem ys (i * 5 + 3) i 3 (at 3 (omega arith)) (rest 3 (omega arith)))
            (word_at_lem ys (i * 5 + 4) i 4 (at 4 (omega arith)) (rest 4 (omega arith))) p (z.so_far p h)
        go p m (no h) =
            five_here (record_word ys) zs (i * 5) (code_of (place_of ys i)) room w0 (word_at_lem ys (i * 5 + 1) i 1 (at 1 (omega arith)) (rest 1 (omega arith)))
            (word_at_lem ys (i * 5 + 2) i 2 (at 2 (omega arith)) (rest 2 (omega arith))) (word_at_lem ys (i * 5 + 3) i 3 (at 3 (omega arith)) (rest 3 (omega arith)))
            (word_at_lem ys (i * 5 + 4) i 4 (at 4 (omega arith)) (rest 4 (omega arith))) p (p % 5) (omega (arith, m, h)) (omega arith)

    pub all_stored : workers_most ≤ i → zs ≡ records_of ys
    unfolding records_of
    all_stored h = is_row 0 80 (record_word ys) zs z.long (λ p l. z.so_far p (omega (arith, l, h)))

-- ---- words that are judged
module _ (n : ℕ) (test : ℕ → Bool) where
  pub record Judged (i : ℕ) : Type 0 where
    pub low : i ≤ n
    pub back : all (n - i) i test ≡ all n 0 test

  pub begins : Judged 0
  begins = let whole : n - 0 ≡ n = omega arith in record { low = omega arith; back = ap (λ (k : ℕ). all k 0 test) whole }

  module _ (i : ℕ) (z : Judged i) where
    pub none_left : n ≤ i → true ≡ all n 0 test
    none_left h = all_passed test n i (all n 0 test) z.back h

    module _ (l : i < n) (t : Bool) (e : t ≡ test i) where
      pub fails : t ≡ false → false ≡ all n 0 test
      fails h = all_failed test n i (all n 0 test) z.back t l e h

      pub goes_on : t ≡ true → Judged (i + 1)
      goes_on h = record { low = omega (arith, l); back = all_more test n i (all n 0 test) z.back t l e h }

module _ (ws : List ℕ) where
  pub record Bits (k : ℕ) : Type 0 where
    pub long : length ws ≡ 4096
    pub judged : Judged 64 (bit_at ws) k

  pub bits_begin : length ws ≡ 4096 → Bits 0
  bits_begin e = record { long = e; judged = begins 64 (bit_at ws) }

  module _ (k : ℕ) (z : Bits k) where
    pub bits_end : 64 ≤ k → true ≡ bits ws
    unfolding bits
    bits_end h = none_left 64 (bit_at ws) k z.judged h

    pub bit_in : k < 64 → k * 64 + 1 < length ws
    bit_in l = omega (arith, l, z.long)

    pub no_bit : k < 64 → 2 ≤ word_at ws (k * 64 + 1) → false ≡ bits ws
    unfolding bits bit_at
    no_bit l h = fails 64 (bit_at ws) k z.judged l false (sym (le-ltb (word_at ws (k * 64 + 1)) 2 h)) refl

    pub bits_more : k < 64 → word_at ws (k * 64 + 1) < 2 → Bits (k + 1)
    unfolding bit_at
    bits_more l h = record { long = z.long; judged = goes_on 64 (bit_at ws) k z.judged l true (sym (lt-ltb (word_at ws (k * 64 + 1)) 2 h)) refl }

  pub record Places (i : ℕ) : Type 0 where
    pub long : length ws ≡ 80
    pub judged : Judged workers_most (placed_at ws) i

  pub places_begin : length ws ≡ 80 → Places 0
  places_begin e = record { long = e; judged = begins workers_most (placed_at ws) }

  module _ (i : ℕ) (z : Places i) where
    pub places_end : workers_most ≤ i → true ≡ placed ws
    unfolding placed
    places_end h = none_left workers_most (placed_at ws) i z.judged h

    pub place_room : i < workers_most → i * 5 + 4 < length ws
    place_room l = omega (arith, l, z.long)

    module _ (l : i < workers_most) (t : Bool) (e : t ≡ placed_at ws i) where
      pub no_place : t ≡ false → false ≡ placed ws
      unfolding placed
      no_place h = fails workers_most (placed_at ws) i z.judged l t e h

      pub places_more : t ≡ true → Places (i + 1)
      places_more h = record { long = z.long; judged = goes_on workers_most (placed_at ws) i z.judged l t e h }
