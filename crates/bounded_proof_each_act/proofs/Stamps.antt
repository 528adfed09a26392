-- Document 01's functions and tests on words, read as claim numbers.
use mathlib.Core.Path.{◌≡◌, refl, sym, ap, ◌∙◌}
use mathlib.Core.Bool.{Bool, true, false, cond}
use Prim.Native.Nat.{ℕ, ◌+◌, ◌*◌, ◌-◌, ◌/◌, ◌%◌, ◌≤◌, ◌<◌}
use native.Mathlib.Omega.{arith}
use native.Mathlib.Nat.{mod-eq_of_lt, add-mod_right, mul-le-mul_right}
use native.Mathlib.Decide.{dec_lt}
use lib.Dec.{ltb, eqb}
use borrow.Author.Tests.{lt-ltb, le-ltb, eq-eqb, ne_eqb, eqb-true, eqb-false}
use Rattle.bounded_words.specs.declared.Stamp.{Stamp}
use Rattle.bounded_words.specs.declared.Fixed.{Fixed}
use Rattle.bounded_words.specs.declared.Width.{Width}
use Rattle.bounded_words.specs.Words.{stamp, width_of, marked_of, unmarked_of, plus, minus, with_mark, next_of, same, one_past, lap_behind, lap_behind_one_past}
use Rattle.bounded_acts.specs.Acts.{forced_tail}
use Rattle.bounded_proof_invariant.proofs.Width.{word, Wide, Near, below, index_word, index_marked, clear_word, set_word, marked_below, lap_word, lap_full}
use Rattle.bounded_proof_invariant.proofs.Width.{lap_back, next_within, next_over, word_one, word_odd}

-- The constants of a ring, with so many laps to the width.
pub record Ground (bits : Width) (c mark n : ℕ) : Type 0 where
  pub laws : Wide c mark n
  pub whole : n * (2 * mark) ≡ width_of bits

abbrev pub fixed : ℕ → ℕ → ℕ → Fixed
fixed c mark ed = record { mark = mark; lap = 2 * mark; capacity = c; edition = ed }

-- the word of claim k; tail's, marked or not; the stamp of a slot, full or not
abbrev pub W : ℕ → ℕ → ℕ → ℕ → Stamp
W c mark n k = stamp (word c mark n k)

abbrev pub tail_word : ℕ → ℕ → ℕ → ℕ → Bool → Stamp
tail_word c mark n k b = stamp (cond b (word c mark n k + mark) (word c mark n k))

abbrev pub slot_word : ℕ → ℕ → ℕ → Bool → ℕ → Stamp
slot_word c mark n b k = stamp (cond b (word c mark n k + 1) (word c mark n k))

-- a test that holds exactly where two numbers agree
test_is : (x y j k : ℕ) → (j ≡ k → x ≡ y) → (x ≡ y → j ≡ k) → eqb x y ≡ eqb j k
test_is x y j k to from = go (eqb j k) refl
  where
    go : (b : Bool) → eqb j k ≡ b → eqb x y ≡ b
    go true e = eq-eqb x y (to (eqb-true j k e))
    go false e = ne_eqb x y (λ q. eqb-false j k e (from q))

module _ (bits : Width) (c mark n : ℕ) (g : Ground bits c mark n) where
  -- sums
  pub plus_one : (k : ℕ) → plus bits (W c mark n k) 1 ≡ stamp (word c mark n k + 1)
  unfolding plus
  plus_one k =
      let l : word c mark n k + 1 < width_of bits = rw g.whole at (below c mark n g.laws k) in
      ap stamp (mod-eq_of_lt l)

  pub plus_lap : (k : ℕ) → plus bits (W c mark n k) (2 * mark) ≡ W c mark n (k + c)
  unfolding plus
  plus_lap k = ap stamp (rw g.whole at (lap_word c mark n g.laws k))

  pub full_lap : (k : ℕ) → plus bits (stamp (word c mark n k + 1)) (2 * mark) ≡ stamp (word c mark n (k + c) + 1)
  unfolding plus
  full_lap k = ap stamp (rw g.whole at (lap_full c mark n g.laws k))

  -- a lap is less than the width
  short : 2 * mark < width_of bits
  short = omega (arith, g.whole, g.laws.room, mul-le-mul_right (2 * mark) g.laws.laps)

  pub minus_lap : (k : ℕ) → minus bits (W c mark n (k + c)) (2 * mark) ≡ W c mark n k
  unfolding minus
  minus_lap k = rw (mod-eq_of_lt short) (ap stamp (rw g.whole at (lap_back c mark n g.laws k)))

  over_lap : (w : ℕ) → plus bits (stamp w) (2 * mark) ≡ stamp ((w + 2 * mark) % (n * (2 * mark)))
  unfolding plus
  over_lap w = ap (λ (z : ℕ). stamp ((w + 2 * mark) % z)) (sym g.whole)

  pub next_is : (ed k : ℕ) → next_of bits (fixed c mark ed) (W c mark n k) ≡ W c mark n (k + 1)
  unfolding next_of
  next_is ed k = rw (index_word c mark n g.laws k) (go (dec_lt (k % c + 1) c))
    where
      go : Dec (k % c + 1 < c)
          → cond (ltb (k % c + 1) c) (plus bits (W c mark n k) 1) (plus bits (stamp (word c mark n k - k % c)) (2 * mark)) ≡ W c mark n (k + 1)
      go (yes l) = rw (lt-ltb (k % c + 1) c l) (plus_one k ∙ ap stamp (sym (next_within c mark n g.laws k l)))
      go (no z) =
          let l : c ≤ k % c + 1 = omega arith in
          rw (le-ltb (k % c + 1) c l) (over_lap (word c mark n k - k % c) ∙ ap stamp (sym (next_over c mark n g.laws k l)))

  -- next(t) less a lap, a lap behind
  pub next_back : (ed k : ℕ) → minus bits (next_of bits (fixed c mark ed) (W c mark n (k + c))) (2 * mark) ≡ W c mark n (k + 1)
  next_back ed k =
      let q : k + c + 1 ≡ k + 1 + c = omega arith in
      rw (next_is ed (k + c), q) (minus_lap (k + 1))

  -- the slot of a claim's word, and of a word a lap on
  pub word_slot : (t : Stamp) (k : ℕ) → t ≡ W c mark n k → t.0 % mark ≡ k % c
  word_slot t k e = ap (λ (z : Stamp). z.0 % mark) e ∙ index_word c mark n g.laws k

  pub lap_slot : (t : Stamp) (k : ℕ) → t ≡ W c mark n (k + c) → t.0 % mark ≡ k % c
  lap_slot t k e = word_slot t (k + c) e ∙ add-mod_right k c

  -- the mark
  pub index_tail : (k : ℕ) (b : Bool) → (tail_word c mark n k b).0 % mark ≡ k % c
  index_tail k true = index_marked c mark n g.laws k
  index_tail k false = index_word c mark n g.laws k

  pub marked_tail : (ed k : ℕ) (b : Bool) → marked_of (fixed c mark ed) (tail_word c mark n k b) ≡ b
  unfolding marked_of
  marked_tail ed k true = eq-eqb ((word c mark n k + mark) / mark % 2) 1 (set_word c mark n g.laws k)
  marked_tail ed k false = ne_eqb (word c mark n k / mark % 2) 1 (λ e. omega (arith, clear_word c mark n g.laws k))

  pub unmarked_tail : (ed k : ℕ) (b : Bool) → unmarked_of (fixed c mark ed) (tail_word c mark n k b) ≡ W c mark n k
  unfolding unmarked_of
  unmarked_tail ed k true = rw (marked_tail ed k true) (ap stamp (omega arith))
  unmarked_tail ed k false = rw (marked_tail ed k false)

  pub with_mark_lem : (ed k : ℕ) → with_mark bits (fixed c mark ed) (tail_word c mark n k false) ≡ tail_word c mark n k true
  unfolding with_mark plus
  with_mark_lem ed k =
      let l : word c mark n k + mark < width_of bits = rw g.whole at (marked_below c mark n g.laws k) in
      rw (marked_tail ed k false) (ap stamp (mod-eq_of_lt l))

  -- what F7 makes of tail: the next claim's word, in edition 2 with the mark that tail had
  pub forced_is : (ed j k : ℕ) (b : Bool) → forced_tail bits (fixed c mark ed) (tail_word c mark n j b) (W c mark n k) ≡ tail_word c mark n (k + 1) (cond (eqb ed 2) b false)
  unfolding forced_tail
  forced_is ed j k b = rw (marked_tail ed j b, next_is ed k) (go (eqb ed 2) b)
    where
      go : (two b : Bool) → cond two (cond b (with_mark bits (fixed c mark ed) (W c mark n (k + 1))) (W c mark n (k + 1))) (W c mark n (k + 1)) ≡ tail_word c mark n (k + 1) (cond two b false)
      go true true = with_mark_lem ed (k + 1)
      go true false = refl
      go false b = refl

  -- the tests, on words less than a turn apart
  pub same_is : (j k : ℕ) → Near (n * c) j k → same (W c mark n j) (W c mark n k) ≡ eqb j k
  unfolding same
  same_is j k r = test_is (word c mark n j) (word c mark n k) j k (ap (word c mark n)) (word_one c mark n g.laws j k r)

  -- a marked tail is no claim's word
  never_marked : (j k : ℕ) → word c mark n j + mark ≡ word c mark n k → ⊥
  never_marked j k e =
      let q : ◌≡◌ {A = ℕ} 1 0 = sym (set_word c mark n g.laws j) ∙ ap (λ (z : ℕ). z / mark % 2) e ∙ clear_word c mark n g.laws k in
      omega arith

  pub same_tail : (j k : ℕ) (b : Bool) → Near (n * c) j k → same (tail_word c mark n j b) (W c mark n k) ≡ cond b false (eqb j k)
  unfolding same
  same_tail j k false r = same_is j k r
  same_tail j k true r = ne_eqb (word c mark n j + mark) (word c mark n k) (never_marked j k)

  pub behind_is : (ed j k : ℕ) → Near (n * c) (j + c) k → lap_behind bits (fixed c mark ed) (W c mark n j) (W c mark n k) ≡ eqb (j + c) k
  unfolding lap_behind
  behind_is ed j k r = rw (plus_lap j) (same_is (j + c) k r)

  pub before_is : (j k : ℕ) → Near (n * c) j k → same (W c mark n j) (minus bits (W c mark n (k + c)) (2 * mark)) ≡ eqb j k
  before_is j k r = rw (minus_lap k) (same_is j k r)

  -- the three tests of a slot's stamp, in the slot of both numbers
  pub stamp_same : (b : Bool) (j k : ℕ) → j % c ≡ k % c → Near (n * c) j k → same (slot_word c mark n b j) (W c mark n k) ≡ cond b false (eqb j k)
  unfolding same
  stamp_same false j k i r = same_is j k r
  stamp_same true j k i r = ne_eqb (word c mark n j + 1) (word c mark n k) (λ e. word_odd c mark n g.laws k j (sym i) (sym e))

  pub stamp_past : (b : Bool) (j k : ℕ) → j % c ≡ k % c → Near (n * c) j k → one_past bits (slot_word c mark n b j) (W c mark n k) ≡ cond b (eqb j k) false
  unfolding one_past same
  stamp_past false j k i r = rw (plus_one k) (ne_eqb (word c mark n j) (word c mark n k + 1) (word_odd c mark n g.laws j k i))
  stamp_past true j k i r =
      rw (plus_one k)
      (test_is (word c mark n j + 1) (word c mark n k + 1) j k (λ e. ap (λ (z : ℕ). word c mark n z + 1) e)
      (λ e. let q : word c mark n j ≡ word c mark n k = omega arith in word_one c mark n g.laws j k r q))

  pub stamp_behind : (ed : ℕ) (b : Bool) (j k : ℕ) → j % c ≡ k % c → (b ≡ true → Near (n * c) (j + c) k)
      → lap_behind_one_past bits (fixed c mark ed) (slot_word c mark n b j) (W c mark n k) ≡ cond b (eqb (j + c) k) false
  unfolding lap_behind_one_past lap_behind same
  stamp_behind ed false j k i r =
      rw (plus_one k, plus_lap j) (ne_eqb (word c mark n (j + c)) (word c mark n k + 1) (word_odd c mark n g.laws (j + c) k (add-mod_right j c ∙ i)))
  stamp_behind ed true j k i r =
      rw (plus_one k, full_lap j)
      (test_is (word c mark n (j + c) + 1) (word c mark n k + 1) (j + c) k (λ e. ap (λ (z : ℕ). word c mark n z + 1) e)
      (λ e. let q : word c mark n (j + c) ≡ word c mark n k = omega arith in word_one c mark n g.laws (j + c) k (r refl) q))

  -- two words of tail
  pub tails_one : (j k : ℕ) (b d : Bool) → Near (n * c) j k → same (tail_word c mark n j b) (tail_word c mark n k d) ≡ true → j ≡ k
  unfolding same
  tails_one j k false false r e = word_one c mark n g.laws j k r (eqb-true (word c mark n j) (word c mark n k) e)
  tails_one j k true true r e =
      let q : word c mark n j + mark ≡ word c mark n k + mark = eqb-true (word c mark n j + mark) (word c mark n k + mark) e in
      let p : word c mark n j ≡ word c mark n k = omega arith in
      word_one c mark n g.laws j k r p
  tails_one j k true false r e = absurd (never_marked j k (eqb-true (word c mark n j + mark) (word c mark n k) e))
  tails_one j k false true r e = absurd (never_marked k j (sym (eqb-true (word c mark n j) (word c mark n k + mark) e)))
