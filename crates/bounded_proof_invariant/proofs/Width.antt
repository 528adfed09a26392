-- The word of a claim number. n laps of 2 * mark make the width of a word, and n * c claims a turn; the laws ask only
-- that the capacity c is below mark.
use mathlib.Core.Path.{◌≡◌, sym, ap, ◌∙◌}
use mathlib.Core.Logic.{◌≢◌}
use Prim.Native.Nat.{ℕ, ◌+◌, ◌*◌, ◌-◌, ◌/◌, ◌%◌, ◌≤◌, ◌<◌}
use native.Mathlib.Omega.{arith}
use native.Mathlib.Nat.{mod-lt, div-add-mod', add-div_right, add-mod_right, mod-add-mod, lt_of_mul-lt-mul_right, le_of_mul-le-mul_right, mod-eq_of_lt, div-eq_of_lt, mul-le-mul_right}
use native.Mathlib.Decide.{dec_lt, dec_le}
use lib.Arith.{digits_lt, digits_div, digits_mod, mod-mul}

-- word(k) = (k div c) * lap + (k mod c), the laps taken modulo their number
unfoldable pub word : ℕ → ℕ → ℕ → ℕ → ℕ
word c mark n k = k / c % n * (2 * mark) + k % c

-- What the laws ask: c slots, a mark above them, and three laps or more to the width.
pub record Wide (c mark n : ℕ) : Type 0 where
  pub some : 0 < c
  pub room : c < mark
  pub laps : 2 < n

-- two numbers of one slot that are less than a lap apart are one
pub near_one : (c a k : ℕ) → 0 < c → a ≤ k → k < a + c → k % c ≡ a % c → k ≡ a
near_one c a k pos lo hi e = go (dec_lt (a / c) (k / c)) (dec_lt (k / c) (a / c))
  where
    go : Dec (a / c < k / c) → Dec (k / c < a / c) → k ≡ a
    go (yes l) d = absurd (omega (arith, mul-le-mul_right c l, div-add-mod' a c, div-add-mod' k c))
    go (no n) (yes l) = absurd (omega (arith, mul-le-mul_right c l, div-add-mod' a c, div-add-mod' k c, mod-lt a pos))
    go (no n) (no m) =
        let q : a / c ≡ k / c = omega arith in
        omega (arith, ap (λ (x : ℕ). x * c) q, div-add-mod' a c, div-add-mod' k c)

-- less than a turn apart
abbrev pub Near : ℕ → ℕ → ℕ → Type 0
Near turn j k = (j < k + turn) × (k < j + turn)

module _ (c mark n : ℕ) (g : Wide c mark n) where
  low : (k : ℕ) → k % c < 2 * mark
  low k = omega (arith, mod-lt k g.some)

  turns : 0 < n
  turns = omega arith

  -- a turn is three capacities or more
  pub turn_long : 3 * c ≤ n * c
  turn_long = mul-le-mul_right c g.laps

  pub below : (k : ℕ) → word c mark n k + 1 < n * (2 * mark)
  unfolding word
  below k =
      let a : k % c + 1 < 2 * mark = omega (arith, mod-lt k g.some, g.room) in
      let b : k / c % n * (2 * mark) + (k % c + 1) < n * (2 * mark) = digits_lt (mod-lt (k / c) turns) a in
      omega arith

  -- the index of a claim's word, marked or not
  pub index_word : (k : ℕ) → word c mark n k % mark ≡ k % c
  unfolding word
  index_word k =
      let e : k / c % n * (2 * mark) + k % c ≡ k / c % n * 2 * mark + k % c = omega arith in
      let l : k % c < mark = omega (arith, mod-lt k g.some, g.room) in
      rw e (digits_mod (k / c % n * 2) l)

  pub index_marked : (k : ℕ) → (word c mark n k + mark) % mark ≡ k % c
  index_marked k = add-mod_right (word c mark n k) mark ∙ index_word k

  -- the mark is clear in it, and set once it is added
  pub clear_word : (k : ℕ) → word c mark n k / mark % 2 ≡ 0
  unfolding word
  clear_word k =
      let l : k % c < mark = omega (arith, mod-lt k g.some, g.room) in
      let e : k / c % n * (2 * mark) + k % c ≡ k / c % n * 2 * mark + k % c = omega arith in
      rw (e, digits_div (k / c % n * 2) l) (omega arith)

  pub set_word : (k : ℕ) → (word c mark n k + mark) / mark % 2 ≡ 1
  set_word k =
      let p : 0 < mark = omega (arith, g.room) in
      rw (add-div_right (word c mark n k) p) (omega (arith, clear_word k))

  pub marked_below : (k : ℕ) → word c mark n k + mark < n * (2 * mark)
  unfolding word
  marked_below k =
      let a : k % c + mark < 2 * mark = omega (arith, mod-lt k g.some, g.room) in
      let b : k / c % n * (2 * mark) + (k % c + mark) < n * (2 * mark) = digits_lt (mod-lt (k / c) turns) a in
      omega arith

  -- a number of laps and an index, taken modulo the width
  wrapped : (q : ℕ) {i : ℕ} → i < 2 * mark → (q * (2 * mark) + i) % (n * (2 * mark)) ≡ q % n * (2 * mark) + i
  wrapped q {i} h =
      let big : 0 < 2 * mark = omega arith in
      rw (mod-mul (q * (2 * mark) + i) turns big, digits_div q h, digits_mod q h)

  -- a lap added, and a lap added to the stamp of a full slot
  pub lap_word : (k : ℕ) → (word c mark n k + 2 * mark) % (n * (2 * mark)) ≡ word c mark n (k + c)
  unfolding word
  lap_word k =
      let e : k / c % n * (2 * mark) + k % c + 2 * mark ≡ (k / c % n + 1) * (2 * mark) + k % c = omega arith in
      rw (e, wrapped (k / c % n + 1) (low k), mod-add-mod (k / c) n 1, add-div_right k g.some, add-mod_right k c)

  pub lap_full : (k : ℕ) → (word c mark n k + 1 + 2 * mark) % (n * (2 * mark)) ≡ word c mark n (k + c) + 1
  unfolding word
  lap_full k =
      let h : k % c + 1 < 2 * mark = omega (arith, mod-lt k g.some, g.room) in
      let e : k / c % n * (2 * mark) + k % c + 1 + 2 * mark ≡ (k / c % n + 1) * (2 * mark) + (k % c + 1) = omega arith in
      rw (e, wrapped (k / c % n + 1) h, mod-add-mod (k / c) n 1, add-div_right k g.some, add-mod_right k c) (omega arith)

  -- a lap taken away
  pub lap_back : (k : ℕ) → (word c mark n (k + c) + (n * (2 * mark) - 2 * mark)) % (n * (2 * mark)) ≡ word c mark n k
  lap_back k =
      let M : ℕ = n * (2 * mark) in
      let big : 1 * (2 * mark) ≤ n * (2 * mark) = mul-le-mul_right (2 * mark) turns in
      let e : word c mark n k + 2 * mark + (M - 2 * mark) ≡ word c mark n k + M = omega arith in
      let l : word c mark n k < M = omega (arith, below k) in
      rw (← lap_word k, mod-add-mod (word c mark n k + 2 * mark) M (M - 2 * mark), e, add-mod_right (word c mark n k) M) (mod-eq_of_lt l)

  -- the next claim's word: one more within a lap, else the index cleared and a lap added
  pub next_within : (k : ℕ) → k % c + 1 < c → word c mark n (k + 1) ≡ word c mark n k + 1
  unfolding word
  next_within k h =
      let e : k + 1 ≡ k / c * c + (k % c + 1) = omega (arith, div-add-mod' k c) in
      rw (e, digits_div (k / c) h, digits_mod (k / c) h) (omega arith)

  pub next_over : (k : ℕ) → c ≤ k % c + 1 → word c mark n (k + 1) ≡ (word c mark n k - k % c + 2 * mark) % (n * (2 * mark))
  unfolding word
  next_over k h =
      let e : k + 1 ≡ (k / c + 1) * c + 0 = omega (arith, div-add-mod' k c, mod-lt k g.some) in
      let f : k / c % n * (2 * mark) + k % c - k % c + 2 * mark ≡ (k / c % n + 1) * (2 * mark) + 0 = omega arith in
      let big : 0 < 2 * mark = omega arith in
      rw (e, digits_div (k / c + 1) g.some, digits_mod (k / c + 1) g.some, f, wrapped (k / c % n + 1) big, mod-add-mod (k / c) n 1)

  word_up : {j k : ℕ} → j ≤ k → k < j + n * c → word c mark n j ≡ word c mark n k → j ≡ k
  unfolding word
  word_up {j} {k} lo hi e =
      let i : j % c ≡ k % c = sym (digits_mod (j / c % n) (low j)) ∙ ap (λ (z : ℕ). z % (2 * mark)) e ∙ digits_mod (k / c % n) (low k) in
      let q : j / c % n ≡ k / c % n = sym (digits_div (j / c % n) (low j)) ∙ ap (λ (z : ℕ). z / (2 * mark)) e ∙ digits_div (k / c % n) (low k) in
      let up : j / c * c ≤ k / c * c = omega (arith, div-add-mod' j c, div-add-mod' k c) in
      let far : k / c * c < (j / c + n) * c = omega (arith, div-add-mod' j c, div-add-mod' k c) in
      let b : k / c < j / c + n = lt_of_mul-lt-mul_right c far in
      let a : j / c ≤ k / c = le_of_mul-le-mul_right up g.some in
      let s : k / c ≡ j / c = near_one n (j / c) (k / c) turns a b (sym q) in
      omega (arith, ap (λ (z : ℕ). z * c) s, div-add-mod' j c, div-add-mod' k c)

  -- less than a turn apart, the word gives the number
  pub word_one : (j k : ℕ) → Near (n * c) j k → word c mark n j ≡ word c mark n k → j ≡ k
  word_one j k r e = go (dec_le j k)
    where
      go : Dec (j ≤ k) → j ≡ k
      go (yes l) = word_up l r.1 e
      go (no l) = let m : k ≤ j = omega arith in sym (word_up m r.0 (sym e))

  -- `word k + 1` is `word (k + 1)` inside a lap, so two words are told apart only together with their slot
  pub word_odd : (j k : ℕ) → j % c ≡ k % c → word c mark n j ≢ word c mark n k + 1
  unfolding word
  word_odd j k i e =
      let h : k % c + 1 < 2 * mark = omega (arith, mod-lt k g.some, g.room) in
      let f : k / c % n * (2 * mark) + k % c + 1 ≡ k / c % n * (2 * mark) + (k % c + 1) = omega arith in
      let z : j % c ≡ k % c + 1 = sym (digits_mod (j / c % n) (low j)) ∙ ap (λ (z : ℕ). z % (2 * mark)) (e ∙ f) ∙ digits_mod (k / c % n) h in
      omega arith

  -- the laps of a word where nothing wraps, taken modulo the width
  pub word_is : (k : ℕ) → word c mark n k ≡ (k / c * (2 * mark) + k % c) % (n * (2 * mark))
  unfolding word
  word_is k = sym (wrapped (k / c) (low k))

  -- within the first turn nothing wraps
  pub word_plain : (k : ℕ) → k < n → word c mark n k ≡ k / c * (2 * mark) + k % c
  unfolding word
  word_plain k l = go (dec_lt (k / c) n)
    where
      go : Dec (k / c < n) → k / c % n * (2 * mark) + k % c ≡ k / c * (2 * mark) + k % c
      go (yes z) = rw (mod-eq_of_lt z)
      go (no z) =
          let m : n ≤ k / c = omega arith in
          let a : n * c ≤ k / c * c = mul-le-mul_right c m in
          let b : n * 1 ≤ n * c = omega (arith, turn_long, mul-le-mul_right n g.some) in
          absurd (omega (arith, div-add-mod' k c))

  pub word_first : (k : ℕ) → k < c → word c mark n k ≡ k
  unfolding word
  word_first k l =
      let z : 0 % n ≡ 0 = mod-eq_of_lt turns in
      rw (div-eq_of_lt l, mod-eq_of_lt l, z) (omega arith)
