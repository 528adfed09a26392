-- Words that are unmarked with an index below capacity, and how they stay so.
use Rattle.std.proofs.Common.{◌≡◌, ℕ, ◌+◌, ◌-◌, ◌*◌, ◌/◌, ◌%◌, ◌<◌, Bool, true, false, cond, ltb, sym, refl, ◌∙◌, mod-lt, mod-eq_of_lt, div-add-mod', arith, le-ltb, lt-ltb, eq-eqb, ne_eqb}
use native.Mathlib.Decide.{dec_lt}
use native.Mathlib.Nat.{mod-add-mod, add-mod_right, mul-mod_left, mod-mod_of_dvd, mul-div_cancel', add-mul-mod_self_left}
use lib.Arith.{mod-mul}
use borrow.Author.Tests.{eqb-false}
use Rattle.bounded_words.specs.declared.Stamp.{Stamp}
use Rattle.bounded_words.specs.declared.Fixed.{Fixed}
use Rattle.bounded_words.specs.declared.Width.{Width}
use Rattle.bounded_words.specs.Words.{stamp, width_of, plus, minus, index_of, marked_of, next_of, with_mark}
use Rattle.bounded_words.proofs.Marks.{Ruled, narrow_least}

pub record Plain (f : Fixed) (w : Stamp) : Type 0 where
  pub unmarked : marked_of f w ≡ false
  pub low : index_of f w < f.capacity

module _ (f : Fixed) (r : Ruled f) where
  positive : 0 < f.mark
  positive = let h = r.room in omega arith

  -- the part of a word below lap is its mark and its index
  parts : (w : Stamp) → w.0 % f.lap ≡ w.0 / f.mark % 2 * f.mark + index_of f w
  parts w = let e : f.lap ≡ 2 * f.mark = omega (arith, r.twice) in rw e (mod-mul w.0 (omega arith) positive)

  -- so a plain word is one whose part below lap is below capacity
  pub below_lap : (w : Stamp) → Plain f w → w.0 % f.lap ≡ index_of f w
  unfolding marked_of
  below_lap w p =
      let n : w.0 / f.mark % 2 ≡ 1 → ⊥ = eqb-false _ _ p.unmarked in
      let z : w.0 / f.mark % 2 ≡ 0 = omega arith in
      parts w ∙ rw z (omega arith)

  pub plain : (w : Stamp) → w.0 % f.lap < f.capacity → Plain f w
  unfolding marked_of
  plain w h =
      let n : w.0 / f.mark % 2 ≡ 1 → ⊥ = (λ e. omega (arith, r.room, rw e at (parts w))) in
      let z : w.0 / f.mark % 2 ≡ 0 = omega arith in
      record { unmarked = ne_eqb _ _ n; low = omega (arith, rw z at (parts w)) }

  -- laps are lost in the width
  module _ (bits : Width) where
    pub wraps : (n : ℕ) → n % width_of bits % f.lap ≡ n % f.lap
    wraps n = mod-mod_of_dvd f.lap n (r.laps bits)

    pub plus_lap : (w : Stamp) (n : ℕ) → (plus bits w n).0 % f.lap ≡ (w.0 % f.lap + n) % f.lap
    unfolding plus
    plus_lap w n = wraps (w.0 + n) ∙ sym (mod-add-mod w.0 f.lap n)

    lap_positive : 0 < f.lap
    lap_positive = omega (arith, positive, r.twice)

    -- a word with its index cleared, plus lap, is whole laps
    cleared : (w : Stamp) → Plain f w → (plus bits (stamp (w.0 - index_of f w)) f.lap).0 % f.lap ≡ 0
    unfolding plus
    cleared w p =
        let e : w.0 - index_of f w ≡ w.0 / f.lap * f.lap = omega (arith, div-add-mod' w.0 f.lap, below_lap w p) in
        wraps (w.0 - index_of f w + f.lap) ∙ add-mod_right (w.0 - index_of f w) f.lap ∙ rw e (mul-mod_left (w.0 / f.lap) f.lap)

    -- the word after a plain word is plain
    pub next_plain : (w : Stamp) → Plain f w → Plain f (next_of bits f w)
    unfolding next_of
    next_plain w p = go (dec_lt (index_of f w + 1) f.capacity)
      where
        go : Dec (index_of f w + 1 < f.capacity) → Plain f (cond (ltb (index_of f w + 1) f.capacity) (plus bits w 1) (plus bits (stamp (w.0 - index_of f w)) f.lap))
        go (yes l) = rw (lt-ltb _ _ l) (plain (plus bits w 1) (let s : index_of f w + 1 < f.lap = omega (arith, r.room, r.twice) in rw (plus_lap w 1, below_lap w p, mod-eq_of_lt s) l))
        go (no n) = rw (le-ltb (index_of f w + 1) f.capacity (omega arith)) (plain (plus bits (stamp (w.0 - index_of f w)) f.lap) (rw (cleared w p) r.some))

    minus_lap : (w : Stamp) → (minus bits w f.lap).0 % f.lap ≡ w.0 % f.lap
    unfolding minus
    minus_lap w =
        let l : f.lap < width_of bits = omega (arith, r.small, r.twice, narrow_least bits) in
        let e : w.0 + (width_of bits - f.lap) + f.lap ≡ w.0 + f.lap * (width_of bits / f.lap) = omega (arith, mul-div_cancel' f.lap (r.laps bits)) in
        rw (mod-eq_of_lt l)
        (wraps (w.0 + (width_of bits - f.lap))
        ∙ sym (add-mod_right (w.0 + (width_of bits - f.lap)) f.lap)
        ∙ rw e (add-mul-mod_self_left w.0 f.lap (width_of bits / f.lap)))

    -- a lap before a plain word is plain
    pub minus_plain : (w : Stamp) → Plain f w → Plain f (minus bits w f.lap)
    minus_plain w p = plain (minus bits w f.lap) (rw (minus_lap w, below_lap w p) p.low)

    -- the mark does not touch the index
    pub mark_index : (w : Stamp) → index_of f (with_mark bits f w) ≡ index_of f w
    unfolding with_mark plus
    mark_index w = go (marked_of f w)
      where
        go : (b : Bool) → index_of f (cond b w (stamp ((w.0 + f.mark) % width_of bits))) ≡ index_of f w
        go true = refl
        go false = mod-mod_of_dvd f.mark (w.0 + f.mark) (r.marks bits) ∙ add-mod_right w.0 f.mark

    -- and it is set
    pub mark_marked : (w : Stamp) → Plain f w → marked_of f (with_mark bits f w) ≡ true
    unfolding with_mark marked_of
    mark_marked w p =
        let x = plus bits w f.mark in
        let l : index_of f w + f.mark < f.lap = omega (arith, p.low, r.room, r.twice) in
        let e : (plus bits w f.mark).0 % f.lap ≡ index_of f w + f.mark = plus_lap w f.mark ∙ rw (below_lap w p) (mod-eq_of_lt l) in
        let n : x.0 / f.mark % 2 ≡ 0 → ⊥ = (λ q. omega (arith, e, rw q at (parts x), mod-lt x.0 positive)) in
        let z : x.0 / f.mark % 2 ≡ 1 = omega arith in
        rw p.unmarked (eq-eqb (x.0 / f.mark % 2) 1 z)
