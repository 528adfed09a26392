-- Leading zeros, over the width: a number of w bits is followed by a power of two at as many places as it has.
use Rattle.std.proofs.Common.{◌≡◌, ℕ, ◌+◌, ◌-◌, ◌*◌, ◌%◌, ◌^◌, ◌<◌, ◌≤◌, sym, refl, ap, ◌∙◌, mod-eq_of_lt, arith, pow_mono, pow-add}
use native.Mathlib.Decide.{dec_lt, dec_le}
use lib.Count.{count_leading_zeros, leading_length}
use Rattle.bounded_words.specs.Words.{mark_of}
use Rattle.bounded_words.proofs.Marks.{Smallest, mark_is}

-- the smallest power of two not below n is one number
power_above : (i j : ℕ) → i < j → 2 * 2 ^ i ≤ 2 ^ j
power_above i j l = let up : i + 1 ≤ j = omega arith in omega (arith, pow_mono up, pow-add 2 i 1)

pub only_smallest : (n a b : ℕ) → Smallest n a → Smallest n b → a ≡ b
only_smallest n a b s t = go (dec_lt s.power t.power) (dec_lt t.power s.power)
  where
    go : Dec (s.power < t.power) → Dec (t.power < s.power) → a ≡ b
    go (yes l) d = absurd (omega (arith, power_above s.power t.power l, s.is, s.enough, t.is, t.least))
    go (no l) (yes g) = absurd (omega (arith, power_above t.power s.power g, t.is, t.enough, s.is, s.least))
    go (no l) (no g) = let e : s.power ≡ t.power = omega arith in s.is ∙ ap (λ (k : ℕ). 2 ^ k) e ∙ sym t.is

module _ (w x : ℕ) (fits : x < 2 ^ w) where
  pub after : Smallest (x + 1) (2 ^ (w - count_leading_zeros w x))
  after =
      let s = leading_length w x fits in
      let e : w - count_leading_zeros w x ≡ s.0 = omega (arith, s.1) in
      record { power = w - count_leading_zeros w x; is = refl; enough = rw e (omega (arith, s.2)); least = rw e (omega (arith, s.3)) }

  -- where it fits too
  module _ (room : 2 * (x + 1) ≤ 2 ^ w) where
    pub places_few : w - count_leading_zeros w x < w
    places_few = go (dec_le w (w - count_leading_zeros w x))
      where
        go : Dec (w ≤ w - count_leading_zeros w x) → w - count_leading_zeros w x < w
        go (yes l) = absurd (omega (arith, pow_mono l, after.least))
        go (no l) = omega arith

    pub mark_after : (1 * 2 ^ (w - count_leading_zeros w x)) % 2 ^ w ≡ mark_of x
    mark_after =
        let l : 1 * 2 ^ (w - count_leading_zeros w x) < 2 ^ w = omega (arith, after.least) in
        mod-eq_of_lt l ∙ (let one : 1 * 2 ^ (w - count_leading_zeros w x) ≡ 2 ^ (w - count_leading_zeros w x) = omega arith in one)
        ∙ only_smallest (x + 1) (2 ^ (w - count_leading_zeros w x)) (mark_of x) after (mark_is x)
