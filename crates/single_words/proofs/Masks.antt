-- The source's masks are the arithmetic of specs/Words.antt, for every word of 64 bits.
use Prim.Native.Nat.{ℕ, ◌+◌, ◌*◌, ◌/◌, ◌%◌, ◌^◌, ◌<◌}
use mathlib.Core.Path.{◌≡◌, sym, ap, ◌∙◌}
use mathlib.Core.Bool.{not}
use native.Mathlib.Omega.{arith}
use native.Mathlib.Decide.{dec_lt}
use native.Mathlib.Nat.{mod-eq_of_lt}
use lib.Dec.{eqb}
use lib.Bits.{bit_and, bit_or, and_step, and_mask, and_high, or_add_and}
use borrow.Author.Tests.{eq-eqb, ne_eqb}
use Rattle.single_words.specs.declared.State.{State}
use Rattle.single_words.specs.Words.{state, pushed_in, closed_in, unlocked, taken_of, closed_of_word}

-- one digit, times its place, is not 0 exactly where it is set
digit : (d k n : ℕ) → d < 2 → n ≡ d * k → 0 < k → not (eqb n 0) ≡ eqb d 1
digit d k n l e some = go (dec_lt 0 d)
  where
    go : Dec (0 < d) → not (eqb n 0) ≡ eqb d 1
    go (yes h) =
        let one : d ≡ 1 = omega arith in
        let m : n ≡ 1 * k = e ∙ ap (λ (i : ℕ). i * k) one in
        ap not (ne_eqb n 0 (λ z. omega arith)) ∙ sym (eq-eqb d 1 one)
    go (no h) =
        let none : d ≡ 0 = omega arith in
        let m : n ≡ 0 * k = e ∙ ap (λ (i : ℕ). i * k) none in
        ap not (eq-eqb n 0 (omega arith)) ∙ sym (ne_eqb d 1 (λ z. omega arith))

module _ (w : State) where
  pub pushed_is : not (eqb (bit_and w.0 2) 0) ≡ pushed_in w
  unfolding pushed_in
  pushed_is = digit (w.0 / 2 % 2) 2 _ (omega arith) (and_high w.0 1 1) (omega arith)

  pub closed_is : not (eqb (bit_and w.0 4) 0) ≡ closed_in w
  unfolding closed_in
  closed_is = digit (w.0 / 4 % 2) 4 _ (omega arith) (and_high w.0 1 2) (omega arith)

  -- or-ed with a digit that is set, a word is as it was
  pub closed_word : state (bit_or w.0 4) ≡ closed_of_word w
  unfolding closed_of_word closed_in
  closed_word = go (dec_lt 0 (w.0 / 4 % 2))
    where
      sum : bit_or w.0 4 + w.0 / 4 % 2 * 4 ≡ w.0 + 4
      sum = ap (λ (n : ℕ). bit_or w.0 4 + n) (sym (and_high w.0 1 2)) ∙ or_add_and w.0 4

      go : Dec (0 < w.0 / 4 % 2) → state (bit_or w.0 4) ≡ closed_of_word w
      go (yes h) = rw (eq-eqb (w.0 / 4 % 2) 1 (omega arith)) (ap state (omega (arith, sum)))
      go (no h) = rw (ne_eqb (w.0 / 4 % 2) 1 (λ e. omega arith)) (ap state (omega (arith, sum)))

  module _ (fits : w.0 < 2 ^ 64) where
    pub unlocked_word : state (bit_and w.0 18446744073709551614) ≡ unlocked w
    unfolding unlocked
    unlocked_word = ap state (omega (arith, and_high w.0 63 1))

    pub taken_word : state (bit_and (bit_or w.0 1) 18446744073709551613) ≡ taken_of w
    unfolding taken_of
    taken_word =
        let locked : bit_or w.0 1 + w.0 % 2 ≡ w.0 + 1 = ap (λ (n : ℕ). bit_or w.0 1 + n) (sym (and_mask w.0 1)) ∙ or_add_and w.0 1 in
        let odd : bit_or w.0 1 ≡ w.0 / 2 * 2 + 1 = omega arith in
        let half : (w.0 / 2 * 2 + 1) / 2 ≡ w.0 / 2 = omega arith in
        let low : (w.0 / 2 * 2 + 1) % 2 ≡ 1 = omega arith in
        let quarter : w.0 / 2 / 2 ≡ w.0 / 4 = omega arith in
        let rest : w.0 / 2 / 2 % 2 ^ 62 ≡ w.0 / 4 = mod-eq_of_lt (omega arith) ∙ quarter in
        let high : bit_and (w.0 / 2) 9223372036854775806 ≡ w.0 / 4 * 2 = and_high (w.0 / 2) 62 1 ∙ ap (λ (n : ℕ). n * 2) rest in
        ap state (rw odd (and_step (w.0 / 2 * 2 + 1) 18446744073709551613 ∙ rw (half, low) (omega (arith, high))))
