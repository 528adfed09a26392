-- A number and its bytes are one another's, in either byte order: the one proof for both variants.
use Prim.Native.Nat.{ℕ, zero, suc, ◌+◌, ◌*◌, ◌/◌, ◌%◌, ◌^◌, ◌<◌}
use mathlib.Core.Path.{◌≡◌, refl, sym, ap, ap₂, ◌∙◌, subst}
use mathlib.Core.List.{List, [], ◌∷◌, reverse_aux}
use native.Mathlib.Omega.{arith}
use native.Mathlib.Nat.{pow-suc, div-lt_iff_lt-mul}
use lib.ListN.{length, take, drop}
use Rattle.tapes_numbers.specs.declared.Variant.{Variant}
use Rattle.tapes_numbers.specs.declared.Variant.TheVariants.{BigEndian, LittleEndian}
use Rattle.tapes_numbers.specs.Numbers.{in_order, digits_of, value_of, bytes_of, number_of}
use Rattle.tapes_numbers.proofs.Orders.{order_order, length_order}
use Rattle.tapes_demands.specs.Notions.{Below}

-- ---- lists of bytes
module _ (bound : ℕ) where
  pub below_take : (k : ℕ) (xs : List ℕ) → Below bound xs → Below bound (take k xs)
  below_take zero xs p = tt
  below_take (suc k) [] p = tt
  below_take (suc k) (x ∷ xs) p = (p.0, below_take k xs p.1)

  pub below_drop : (k : ℕ) (xs : List ℕ) → Below bound xs → Below bound (drop k xs)
  below_drop zero xs p = p
  below_drop (suc k) [] p = tt
  below_drop (suc k) (x ∷ xs) p = below_drop k xs p.1

  below_reverse : (xs ys : List ℕ) → Below bound xs → Below bound ys → Below bound (reverse_aux xs ys)
  below_reverse [] ys p q = q
  below_reverse (x ∷ xs) ys p q = below_reverse xs (x ∷ ys) p.1 (p.0, q)

  below_order : (v : Variant) (xs : List ℕ) → Below bound xs → Below bound (in_order v xs)
  unfolding in_order
  below_order BigEndian xs p = below_reverse xs [] p tt
  below_order LittleEndian xs p = p

-- ---- digits, lowest first
value_digits : (count n : ℕ) → n < 256 ^ count → value_of (digits_of count n) ≡ n
unfolding value_of digits_of
value_digits zero n h = omega arith
value_digits (suc more) n h =
    let q : n / 256 < 256 ^ more = (div-lt_iff_lt-mul {k = 256} {x = n} {y = 256 ^ more} (omega arith)).1 (rw pow-suc at h) in
    rw (value_digits more (n / 256) q) (omega arith)

digits_value : (ds : List ℕ) → Below 256 ds → digits_of (length ds) (value_of ds) ≡ ds
unfolding value_of digits_of
digits_value [] p = refl
digits_value (d ∷ ds) p =
    let low : (d + 256 * value_of ds) % 256 ≡ d = omega (arith, p.0) in
    let high : (d + 256 * value_of ds) / 256 ≡ value_of ds = omega (arith, p.0) in
    ap₂ (λ (x n : ℕ). x ∷ digits_of (length ds) n) low high ∙ ap (λ (l : List ℕ). d ∷ l) (digits_value ds p.1)

value_below : (ds : List ℕ) → Below 256 ds → value_of ds < 256 ^ length ds
unfolding value_of
value_below [] p = omega arith
value_below (d ∷ ds) p = rw pow-suc (omega (arith, p.0, value_below ds p.1))

-- ---- bytes
module _ (v : Variant) where
  pub number_bytes : (count n : ℕ) → n < 256 ^ count → number_of v (bytes_of v count n) ≡ n
  unfolding number_of bytes_of
  number_bytes count n h = ap value_of (order_order v (digits_of count n)) ∙ value_digits count n h

  module _ (xs : List ℕ) (count : ℕ) (long : length xs ≡ count) (p : Below 256 xs) where
    pub bytes_number : bytes_of v count (number_of v xs) ≡ xs
    unfolding number_of bytes_of
    bytes_number =
        ap (λ (k : ℕ). in_order v (digits_of k (value_of (in_order v xs)))) (sym (length_order v xs ∙ long))
        ∙ ap (in_order v) (digits_value (in_order v xs) (below_order 256 v xs p)) ∙ order_order v xs

    pub number_below : number_of v xs < 256 ^ count
    unfolding number_of
    number_below = subst (λ (k : ℕ). value_of (in_order v xs) < 256 ^ k) (length_order v xs ∙ long) (value_below (in_order v xs) (below_order 256 v xs p))
