-- mark is the smallest power of two not below capacity + 1, and what follows for a ring's constants.
use Rattle.std.proofs.Common.{◌≡◌, ℕ, zero, suc, ◌+◌, ◌-◌, ◌*◌, ◌^◌, ◌<◌, ◌≤◌, cond, ltb, sym, refl, ap, ◌∙◌, subst, arith, pow_mono, pow-add, le-ltb, lt-ltb}
use Prim.Native.Nat.{◌∣◌}
use native.Mathlib.Decide.{dec_lt, dec_le}
use native.Mathlib.Nat.{dvd-mul_left}
use Rattle.bounded_words.specs.declared.Fixed.{Fixed}
use Rattle.bounded_words.specs.declared.Width.{Width}
use Rattle.bounded_words.specs.declared.Width.TheVariants.{Sixteen, SixtyFour}
use Rattle.bounded_words.specs.Limits.{slots_most, narrow}
use Rattle.bounded_words.specs.Words.{doubled, mark_of, lap_of, width_of, Fair}

-- a power of two that is not below n, and whose half is
pub record Smallest (n m : ℕ) : Type 0 where
  pub power : ℕ
  pub is : m ≡ 2 ^ power
  pub enough : n ≤ m
  pub least : m < 2 * n

doubled_is : (j n m e : ℕ) → m ≡ 2 ^ e → 0 < m → m < 2 * n → n ≤ m + j → Smallest n (doubled j n m)
unfolding doubled
doubled_is zero n m e h pos l g = record { power = e; is = h; enough = omega arith; least = l }
doubled_is (suc j) n m e h pos l g =
    go (λ (k : m < n). doubled_is j n (m * 2) (e + 1) (ap (λ (x : ℕ). x * 2) h ∙ sym (pow-add 2 e 1)) (omega arith) (omega arith) (omega arith)) (dec_lt m n)
  where
    go : (m < n → Smallest n (doubled j n (m * 2))) → Dec (m < n) → Smallest n (cond (ltb m n) (doubled j n (m * 2)) m)
    go more (yes k) = rw (lt-ltb _ _ k) (more k)
    go more (no k) = rw (le-ltb m n (omega arith)) (record { power = e; is = h; enough = omega arith; least = l })

pub mark_is : (c : ℕ) → Smallest (c + 1) (mark_of c)
unfolding mark_of
mark_is c = doubled_is (c + 1) (c + 1) 1 0 refl (omega arith) (omega arith) (omega arith)

-- no width is below sixteen bits
pub narrow_least : (bits : Width) → narrow ≤ width_of bits
narrow_least Sixteen = omega arith
narrow_least SixtyFour = omega arith

-- What a ring's constants by rule have.
pub record Ruled (f : Fixed) : Type 0 where
  pub some : 0 < f.capacity
  pub most : f.capacity ≤ slots_most
  pub room : f.capacity < f.mark
  pub small : f.mark < 2 * (slots_most + 1)
  pub twice : f.lap ≡ f.mark * 2
  pub laps : (bits : Width) → f.lap ∣ width_of bits
  pub marks : (bits : Width) → f.mark ∣ width_of bits
  pub power : ℕ
  pub is : f.mark ≡ 2 ^ power

-- a power that fits
exponent : (k : ℕ) → 2 ^ k < 2 ^ 15 → k ≤ 14
exponent k h = go (dec_le 15 k)
  where
    go : Dec (15 ≤ k) → k ≤ 14
    go (yes l) = absurd (omega (arith, pow_mono l))
    go (no n) = omega arith

power_divides : (j k : ℕ) → j ≤ k → 2 ^ j ∣ 2 ^ k
power_divides j k h = let e : k ≡ (k - j) + j = omega arith in rw e (rw (pow-add 2 (k - j) j) (dvd-mul_left (2 ^ j) (2 ^ (k - j))))

-- and divides the width
fits_width : (k : ℕ) → k ≤ 16 → (bits : Width) → 2 ^ k ∣ width_of bits
fits_width k h Sixteen = power_divides k 16 h
fits_width k h SixtyFour = power_divides k 64 (omega arith)

pub ruled : (f : Fixed) → 0 < f.capacity → f.capacity ≤ slots_most → f.mark ≡ mark_of f.capacity → f.lap ≡ lap_of f.capacity → Ruled f
ruled f some most m l =
    record {
      some = some;
      most = most;
      room = omega (arith, s.enough);
      small = omega (arith, s.least);
      twice = omega arith;
      laps = λ bits. subst (λ (x : ℕ). x ∣ width_of bits) (sym lap_is) (fits_width (s.power + 1) (omega (arith, below)) bits);
      marks = λ bits. subst (λ (x : ℕ). x ∣ width_of bits) (sym mark_is_power) (fits_width s.power (omega (arith, below)) bits);
      power = s.power;
      is = mark_is_power;
    }
  where
    s : Smallest (f.capacity + 1) (mark_of f.capacity)
    s = mark_is f.capacity

    mark_is_power : f.mark ≡ 2 ^ s.power
    mark_is_power = m ∙ s.is

    lap_is : f.lap ≡ 2 ^ (s.power + 1)
    lap_is = l ∙ (omega (arith, pow-add 2 s.power 1, s.is))

    below : s.power ≤ 14
    below = exponent s.power (omega (arith, s.is, s.least))

pub fair : (f : Fixed) → Ruled f → Fair f
fair f r = let h = r.room in let s = r.small in record { positive = omega arith; small = omega arith; power = r.power; is = r.is }
