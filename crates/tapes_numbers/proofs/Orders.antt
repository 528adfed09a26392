-- What holds of a number's bytes in either variant.
use Prim.Native.Nat.{ℕ, zero, suc, ◌+◌, ◌*◌, ◌/◌, ◌%◌, ◌-◌, ◌^◌, ◌<◌, ◌≤◌}
use mathlib.Core.Path.{◌≡◌, refl, sym, ap, ap₂, ◌∙◌}
use mathlib.Core.List.{List, [], ◌∷◌, ◌++◌, reverse, reverse-reverse, reverse-append, reverse-cons, append_assoc, append-nil}
use native.Mathlib.Omega.{arith}
use native.Mathlib.Numerals.{add-one}
use lib.ListN.{length, get_or, take, drop, set, length-reverse, length-drop}
use lib.Seq.{split_at, set_split, set_at, get_or_at, take-suc-set, drop-cons, take_all, drop-length}
use lib.Pow.{pow-add, pow_mono}
use Rattle.tapes_numbers.specs.declared.Variant.{Variant}
use Rattle.tapes_numbers.specs.declared.Variant.TheVariants.{BigEndian, LittleEndian}
use Rattle.tapes_numbers.specs.Numbers.{tag_of, in_order, spot_of, digits_of, value_of, bytes_of, number_of}

-- what the variant picks
pub spot_big : (v : Variant) (count i r : ℕ) → v ≡ BigEndian → r ≡ count - 1 - i → r ≡ spot_of v count i
unfolding spot_of
spot_big v count i r h e = rw h e

pub spot_little : (v : Variant) (count i r : ℕ) → v ≡ LittleEndian → r ≡ i → r ≡ spot_of v count i
unfolding spot_of
spot_little v count i r h e = rw h e

pub tag_big : (v : Variant) (n r : ℕ) → v ≡ BigEndian → r ≡ n → r ≡ tag_of v n
tag_big v n r h e = rw h e

pub tag_little : (v : Variant) (n r : ℕ) → v ≡ LittleEndian → r ≡ n + 128 → r ≡ tag_of v n
tag_little v n r h e = rw h e

pub order_order : (v : Variant) (xs : List ℕ) → in_order v (in_order v xs) ≡ xs
unfolding in_order
order_order BigEndian xs = reverse-reverse xs
order_order LittleEndian xs = refl

pub length_order : (v : Variant) (xs : List ℕ) → length (in_order v xs) ≡ length xs
unfolding in_order
length_order BigEndian xs = length-reverse xs
length_order LittleEndian xs = refl

pub spot_below : (v : Variant) (count i : ℕ) → i < count → spot_of v count i < count
unfolding spot_of
spot_below BigEndian count i h = omega arith
spot_below LittleEndian count i h = h

-- around the j-th element, reversed
reverse_around : (xs : List ℕ) (x : ℕ) (ys : List ℕ) → reverse (xs ++ x ∷ ys) ≡ reverse ys ++ x ∷ reverse xs
reverse_around xs x ys = reverse-append xs (x ∷ ys) ∙ ap (λ (l : List ℕ). l ++ reverse xs) (reverse-cons x ys) ∙ append_assoc (reverse ys) (x ∷ []) (reverse xs)

module _ (xs : List ℕ) (i j : ℕ) (far : j ≡ length xs - 1 - i) (low : i < length xs) where
  before : length (reverse (drop (suc j) xs)) ≡ i
  before = length-reverse (drop (suc j) xs) ∙ length-drop (suc j) xs ∙ (omega arith)

  reversed : reverse xs ≡ reverse (drop (suc j) xs) ++ get_or xs j 0 ∷ reverse (take j xs)
  reversed = ap reverse (split_at xs j 0 (omega arith)) ∙ reverse_around (take j xs) (get_or xs j 0) (drop (suc j) xs)

  get_d_reverse : get_or xs j 0 ≡ get_or (reverse xs) i 0
  get_d_reverse = sym (ap (λ (l : List ℕ). get_or l i 0) reversed ∙ get_or_at (reverse (drop (suc j) xs)) (get_or xs j 0) (reverse (take j xs)) 0 i before)

  set_reverse : (x : ℕ) → reverse (set xs j x) ≡ set (reverse xs) i x
  set_reverse x =
      ap reverse (set_split xs j x (omega arith)) ∙ reverse_around (take j xs) x (drop (suc j) xs)
      ∙ sym (ap (λ (l : List ℕ). set l i x) reversed ∙ set_at (reverse (drop (suc j) xs)) (get_or xs j 0) (reverse (take j xs)) x i before)

-- the byte of the i-th digit
pub byte_at : (v : Variant) (xs : List ℕ) (i : ℕ) → i < length xs → get_or xs (spot_of v (length xs) i) 0 ≡ get_or (in_order v xs) i 0
unfolding in_order spot_of
byte_at BigEndian xs i h = get_d_reverse xs i _ refl h
byte_at LittleEndian xs i h = refl

pub byte_set : (v : Variant) (xs : List ℕ) (i x : ℕ) → i < length xs → in_order v (set xs (spot_of v (length xs) i) x) ≡ set (in_order v xs) i x
unfolding in_order spot_of
byte_set BigEndian xs i x h = set_reverse xs i _ refl h x
byte_set LittleEndian xs i x h = refl

-- ---- a number read, from its highest digit down
pub none_read : (v : Variant) (xs : List ℕ) → 0 ≡ value_of (drop (length xs) (in_order v xs))
unfolding value_of
none_read v xs = rw (← length_order v xs) (rw drop-length)

pub all_read : (v : Variant) (xs : List ℕ) (i n : ℕ) → i ≤ 0 → n ≡ value_of (drop i (in_order v xs)) → n ≡ number_of v xs
unfolding number_of
all_read v xs i n h e = let z : i ≡ 0 = omega arith in rw z at e

module _ (v : Variant) (xs : List ℕ) (i n s b : ℕ) (low : 0 < i) (high : i ≤ length xs) (at : s ≡ spot_of v (length xs) (i - 1)) (is : b ≡ get_or xs s 0) where
  digit : b ≡ get_or (in_order v xs) (i - 1) 0
  digit = is ∙ ap (λ (k : ℕ). get_or xs k 0) at ∙ byte_at v xs (i - 1) (omega arith)

  pub one_read : n ≡ value_of (drop i (in_order v xs)) → n * 256 + b ≡ value_of (drop (i - 1) (in_order v xs))
  unfolding value_of
  one_read e =
      let up : suc (i - 1) ≡ i = omega arith in
      let first : drop (i - 1) (in_order v xs) ≡ b ∷ drop i (in_order v xs) = drop-cons (in_order v xs) (i - 1) 0 (omega (arith, length_order v xs))
      ∙ ap₂ ◌∷◌ (sym digit) (ap (λ (k : ℕ). drop k (in_order v xs)) up) in
      rw first (rw (← e) (omega arith))

  -- so many digits have so many bits
  pub one_longer : n < 2 ^ (8 * (length xs - i)) → b < 256 → n * 256 + b < 2 ^ (8 * (length xs - (i - 1)))
  one_longer h l =
      let more : 8 * (length xs - (i - 1)) ≡ 8 * (length xs - i) + 8 = omega arith in
      rw (more, pow-add) (omega arith)

-- eight digits fit a word: there is room for one more
pub room : (n count i : ℕ) → n < 2 ^ (8 * (count - i)) → 0 < i → count ≤ 8 → n < 2 ^ 56
room n count i h low most = let m : 2 ^ (8 * (count - i)) ≤ 2 ^ 56 = pow_mono {i = 8 * (count - i)} {j = 56} (omega arith) in omega arith

-- ---- a number written, from its lowest digit up: what is written, and what is left of the number
pub none_written : (count n : ℕ) → digits_of (count - 0) n ≡ digits_of count n
none_written count n = let z : count - 0 ≡ count = omega arith in ap (λ (k : ℕ). digits_of k n) z

module _ (v : Variant) (xs : List ℕ) (count i rest : ℕ) (len : length xs ≡ count) where
  pub one_written : (n s : ℕ) → i < count → s ≡ spot_of v count i → take i (in_order v xs) ++ digits_of (count - i) rest ≡ digits_of count n
      → take (i + 1) (in_order v (set xs s (rest % 256))) ++ digits_of (count - (i + 1)) (rest / 256) ≡ digits_of count n
  unfolding digits_of
  one_written n s low at e =
      let left : count - i ≡ suc (count - suc i) = omega arith in
      let at-s : s ≡ spot_of v (length xs) i = at ∙ ap (λ (k : ℕ). spot_of v k i) (sym len) in
      let low-s : i < length xs = omega arith in
      rw (at-s, byte_set v xs i (rest % 256) low-s, add-one, take-suc-set (in_order v xs) i (rest % 256) (omega (arith, length_order v xs)), append_assoc)
      (rw left at e)

  pub all_written : (n : ℕ) → count ≤ i → take i (in_order v xs) ++ digits_of (count - i) rest ≡ digits_of count n → xs ≡ bytes_of v count n
  unfolding digits_of bytes_of
  all_written n h e =
      let z : count - i ≡ 0 = omega arith in
      sym (order_order v xs) ∙ ap (in_order v) (sym (take_all i (in_order v xs) (omega (arith, length_order v xs))) ∙ sym (append-nil (take i (in_order v xs))) ∙ (rw z at e))

pub length_digits : (count n : ℕ) → length (digits_of count n) ≡ count
unfolding digits_of
length_digits zero n = refl
length_digits (suc more) n = ap suc (length_digits more (n / 256))

pub length_bytes : (v : Variant) (count n : ℕ) → length (bytes_of v count n) ≡ count
unfolding bytes_of
length_bytes v count n = length_order v (digits_of count n) ∙ length_digits count n
