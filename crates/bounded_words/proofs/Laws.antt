-- What the functions on words rest on.
use Rattle.std.proofs.Common.{◌≡◌, ℕ, zero, suc, ◌+◌, ◌-◌, ◌*◌, ◌/◌, ◌%◌, ◌^◌, ◌<◌, ◌≤◌, Bool, true, false, not, eqb, sym, refl, ap, ◌∙◌, subst, mod-lt, mod-eq_of_lt, le-div_iff_mul-le, arith, pow-add, le-ltb, lt-ltb, eq-eqb, ne_eqb, eqb-true}
use native.Mathlib.Nat.{mod-le}
use lib.Bits.{bit_and, and_mask, and_high}
use Rattle.queue_entries.proofs.Pick.{yes, no}
use Rattle.bounded_words.specs.declared.Stamp.{Stamp}
use Rattle.bounded_words.specs.declared.Fixed.{Fixed}
use Rattle.bounded_words.specs.declared.Width.{Width}
use Rattle.bounded_words.specs.declared.Width.TheVariants.{Sixteen, SixtyFour}
use Rattle.bounded_words.specs.Words.{stamp, width_of, plus, minus, next_of, unmarked_of, marked_of, with_mark, Indexed, Fair}
use Rattle.bounded_words.specs.Limits.{wide, narrow}

pub next_low : (bits : Width) (f : Fixed) (w : Stamp) (i : ℕ) (r : Stamp) → Indexed f w i → i + 1 < f.capacity → r ≡ plus bits w 1 → r ≡ next_of bits f w
unfolding next_of
next_low bits f w i r x h e = e ∙ simp (← x.is, lt-ltb _ _ h)

pub next_high : (bits : Width) (f : Fixed) (w : Stamp) (i : ℕ) (r : Stamp) → Indexed f w i → f.capacity ≤ i + 1 → r ≡ plus bits (stamp (w.0 - i)) f.lap → r ≡ next_of bits f w
unfolding next_of
next_high bits f w i r x h e = e ∙ simp (← x.is, le-ltb _ _ h)

-- `w & (mark - 1)` is the part below mark
below_mark : (f : Fixed) (n : ℕ) → Fair f → bit_and n (f.mark - 1) ≡ n % f.mark
below_mark f n p = ap (λ (m : ℕ). bit_and n (m - 1)) p.is ∙ and_mask n p.power ∙ ap (λ (m : ℕ). n % m) (sym p.is)

pub indexed : (f : Fixed) (w : Stamp) → Fair f → Indexed f w (bit_and w.0 (f.mark - 1))
indexed f w p = subst (Indexed f w) (sym (below_mark f w.0 p)) (record { is = refl; below = mod-lt w.0 p.positive; within = mod-le w.0 f.mark })

-- `w & mark` is the mark where it is set, and else 0
at_power : (n k : ℕ) → bit_and n (2 ^ k) ≡ n / 2 ^ k % 2 * 2 ^ k
at_power n k = ap (bit_and n) (omega (arith, pow-add 2 1 k)) ∙ and_high n 1 k

at_mark : (f : Fixed) (n : ℕ) → Fair f → bit_and n f.mark ≡ n / f.mark % 2 * f.mark
at_mark f n p = subst (λ (m : ℕ). bit_and n m ≡ n / m % 2 * m) (sym p.is) (at_power n p.power)

pub mark_test : (f : Fixed) (w : Stamp) → Fair f → not (eqb (bit_and w.0 f.mark) 0) ≡ marked_of f w
unfolding marked_of
mark_test f w p = ap (λ (x : ℕ). not (eqb x 0)) (at_mark f w.0 p) ∙ go (w.0 / f.mark % 2) (mod-lt (w.0 / f.mark) (omega arith))
  where
    go : (d : ℕ) → d < 2 → not (eqb (d * f.mark) 0) ≡ eqb d 1
    go zero l = rw (eq-eqb (0 * f.mark) 0 (omega arith))
    go (suc zero) l = rw (ne_eqb (1 * f.mark) 0 (λ (h : 1 * f.mark ≡ 0). omega (arith, p.positive, h)))
    go (suc (suc d)) l = absurd (omega arith)

-- a marked word is not below mark
module _ (f : Fixed) (w : Stamp) (b : Bool) (e : b ≡ marked_of f w) where
  pub marked_above : Fair f → b ≡ true → f.mark ≤ w.0
  unfolding marked_of
  marked_above p h =
      let d : w.0 / f.mark % 2 ≡ 1 = eqb-true _ _ (sym e ∙ h) in
      let k : 1 ≤ w.0 / f.mark = omega arith in
      omega (arith, (le-div_iff_mul-le p.positive).0 k)

  pub unmarked_set : b ≡ true → stamp (w.0 - f.mark) ≡ unmarked_of f w
  unfolding unmarked_of
  unmarked_set h = yes _ b _ _ _ e h refl

  pub unmarked_clear : b ≡ false → w ≡ unmarked_of f w
  unfolding unmarked_of
  unmarked_clear h = no _ b _ _ _ e h refl

  pub mark_kept : (bits : Width) → b ≡ true → w ≡ with_mark bits f w
  unfolding with_mark
  mark_kept bits h = yes _ b _ _ _ e h refl

  pub mark_set : (bits : Width) (r : Stamp) → b ≡ false → r ≡ plus bits w f.mark → r ≡ with_mark bits f w
  unfolding with_mark
  mark_set bits r h q = no _ b _ _ _ e h q

-- sums of 64 bits, cut to the width
pub cut_narrow : (bits : Width) (sum : ℕ) (r : Stamp) → bits ≡ Sixteen → r ≡ stamp (sum % narrow) → r ≡ stamp (sum % width_of bits)
cut_narrow bits sum r w e = rw w e

pub cut_wide : (bits : Width) (sum : ℕ) (r : Stamp) → bits ≡ SixtyFour → sum < wide → r ≡ stamp sum → r ≡ stamp (sum % width_of bits)
cut_wide bits sum r w l e = rw (w, mod-eq_of_lt l) e

narrow_sum : (bits : Width) (a b : ℕ) → (a + b) % wide % width_of bits ≡ (a + b) % width_of bits
narrow_sum Sixteen a b = omega arith
narrow_sum SixtyFour a b = omega arith

pub later_is : (bits : Width) (w r : Stamp) (by sum : ℕ) → sum ≡ (w.0 + by) % wide → r ≡ stamp (sum % width_of bits) → r ≡ plus bits w by
unfolding plus
later_is bits w r by sum s e = e ∙ ap stamp (rw s (narrow_sum bits w.0 by))

narrow_less : (bits : Width) (r a b : ℕ) → b < wide → r ≡ (a + (wide - b)) % wide → r % width_of bits ≡ (a + (width_of bits - b % width_of bits)) % width_of bits
narrow_less Sixteen r a b l e = omega arith
narrow_less SixtyFour r a b l e = omega arith

pub earlier_is : (bits : Width) (w r : Stamp) (by left : ℕ) → by < wide → left ≡ (w.0 + (wide - by)) % wide → r ≡ stamp (left % width_of bits) → r ≡ minus bits w by
unfolding minus
earlier_is bits w r by left l s e = e ∙ ap stamp (narrow_less bits left w.0 by l s)
