-- One record by its three words: a code that holds a loaded word, and any other. What each code holds is the rule of its range (crates/bounded_codes/proofs/Ranges.antt).
use Prim.Native.Nat.{ℕ, ◌≤◌, ◌<◌, ◌%◌}
use mathlib.Core.Path.{◌≡◌, refl, sym, ap, ◌∙◌}
use mathlib.Core.Bool.{Bool, true, false, cond}
use native.Mathlib.Omega.{arith}
use native.Mathlib.Decide.{dec_lt}
use native.Mathlib.Nat.{zero-mod}
use lib.Dec.{ltb, leb, eqb}
use borrow.Author.Tests.{eq-eqb, ne_eqb, lt-ltb, le-ltb, le-leb, lt-leb, ltb-true, leb-true, eqb-true}
use Rattle.queue_entries.proofs.Pick.{both_left, both_right}
use Rattle.bounded_words.specs.declared.Fixed.{Fixed}
use Rattle.bounded_words.specs.Words.{stamp, marked_of}
use Rattle.bounded_places.specs.declared.Held.TheVariants as held
use Rattle.bounded_places.specs.Places.{view_of, inside, fits_of}
use Rattle.bounded_codes.specs.Codes.{place_in, stands_for, within, may_be}
use Rattle.bounded_codes.proofs.Ranges.{no_place, no_first, by_second, held_low, held_tail, held_both, held_end, held_high, held_may, unheld_may}
use Rattle.bounded_slices.specs.Slices.{fitting}

differ : {A : Type 0} → true ≡ false → A
differ q = let z : ◌≡◌ {A = ℕ} 0 1 = cc in absurd (omega arith)

-- ---- ranges
inside_range : (c from to : ℕ) → from ≤ c → c < to → within c from to ≡ true
unfolding within
inside_range c from to h l = rw (le-leb from c h, lt-ltb c to l) refl

under_range : (c from to : ℕ) → c < from → within c from to ≡ false
unfolding within
under_range c from to l = rw (lt-leb from c l) refl

over_range : (c from to : ℕ) → from ≤ c → to ≤ c → within c from to ≡ false
unfolding within
over_range c from to h g = rw (le-leb from c h, le-ltb c to g) refl

pub record Between (c from to : ℕ) : Type 0 where
  pub low : from ≤ c
  pub high : c < to

pub between : (c from to : ℕ) → within c from to ≡ true → Between c from to
unfolding within
between c from to e =
    record { low = leb-true from c (both_left (leb from c) _ e); high = ltb-true c to (both_right (leb from c) _ e) }

data Beyond (c : ℕ) : Type 0 where
  under : c < 15 → Beyond c
  over : 33 ≤ c → Beyond c

beyond_range : (c : ℕ) → within c 15 33 ≡ false → Beyond c
beyond_range c e = go (dec_lt c 15) (dec_lt c 33)
  where
    go : Dec (c < 15) → Dec (c < 33) → Beyond c
    go (yes l) d = under l
    go (no l) (no h) = over (omega arith)
    go (no l) (yes h) = differ (sym (inside_range c 15 33 (omega arith) h) ∙ e)

never_both : (p : Bool) → false ≡ cond p false false
never_both true = refl
never_both false = refl

-- ---- a code from 15 to 32
data Which (c : ℕ) : Type 0 where
  is_tail : c ≡ 20 → Which c
  is_both : c ≡ 21 → Which c
  is_end : (c ≡ 20 → ⊥) → (c ≡ 21 → ⊥) → Which c

which : (c : ℕ) → Which c
which c = go (dec_lt c 20) (dec_lt 20 c) (dec_lt 21 c)
  where
    go : Dec (c < 20) → Dec (20 < c) → Dec (21 < c) → Which c
    go (yes l) d e = is_end (λ z. omega (arith, z, l)) (λ z. omega (arith, z, l))
    go (no l) (no h) e = is_tail (omega arith)
    go (no l) (yes h) (no k) = is_both (omega arith)
    go (no l) (yes h) (yes k) = is_end (λ z. omega (arith, z, k)) (λ z. omega (arith, z, k))

module _ (f : Fixed) (c a b : ℕ) (range : within c 15 33 ≡ true) where
  low : 15 ≤ c
  low = (between c 15 33 range).low

  high : c < 33
  high = (between c 15 33 range).high

  abbrev fits : Bool
  fits = fits_of f (view_of (place_in c a b)).held

  stands_end : stands_for c a b ≡ may_be b (within c 21 33)
  stands_end =
      let l = low in let h = high in
      sym (by_second c a b (omega arith) true (sym (inside_range c 6 33 (omega arith) h)) true (held_may a true refl) refl (within c 21 33) refl (may_be b (within c 21 33)) refl)

  tail_fits : c ≡ 20 → fits ≡ inside f (stamp a)
  tail_fits e = ap (fits_of f) (sym (held_tail c a b low e))

  both_fit : c ≡ 21 → fits ≡ cond (inside f (stamp a)) (inside f (stamp b)) false
  both_fit e = ap (fits_of f) (sym (held_both c a b low (λ z. omega (arith, z, e)) e))

  end_fits : (c ≡ 20 → ⊥) → (c ≡ 21 → ⊥) → fits ≡ cond (marked_of f (stamp a)) false (inside f (stamp a))
  end_fits n m = ap (fits_of f) (sym (held_end c a b low n m high))

  module _ (p : Bool) (ep : p ≡ inside f (stamp a)) where
    pub outside_ring : p ≡ false → false ≡ fitting f c a b
    unfolding fitting
    outside_ring h = never_both (stands_for c a b) ∙ ap (λ (x : Bool). cond (stands_for c a b) x false) (sym (go (which c)))
      where
        out : inside f (stamp a) ≡ false
        out = sym ep ∙ h

        unmarked_out : (m : Bool) → cond m false (inside f (stamp a)) ≡ false
        unmarked_out true = refl
        unmarked_out false = out

        go : Which c → fits ≡ false
        go (is_tail e) = tail_fits e ∙ out
        go (is_both e) = both_fit e ∙ rw out refl
        go (is_end n m) = end_fits n m ∙ unmarked_out (marked_of f (stamp a))

    module _ (hp : p ≡ true) (q : Bool) (eq : q ≡ may_be b (leb 22 c)) where
      in_ring : inside f (stamp a) ≡ true
      in_ring = sym ep ∙ hp

      module _ (hq : q ≡ false) where
        few : c < 22
        unfolding may_be
        few = go (dec_lt c 22)
          where
            go : Dec (c < 22) → c < 22
            go (yes l) = l
            go (no l) = differ (sym (eq ∙ ap (may_be b) (le-leb 22 c (omega arith))) ∙ hq)

        second_there : eqb b 0 ≡ false
        unfolding may_be
        second_there = sym (ap (may_be b) (lt-leb 22 c few)) ∙ sym eq ∙ hq

        pub other_second : (c ≡ 21 → ⊥) → false ≡ fitting f c a b
        unfolding fitting may_be
        other_second n =
            let l = few in
            sym (ap (λ (x : Bool). cond x fits false) (stands_end ∙ ap (may_be b) (under_range c 21 33 (omega arith)) ∙ second_there))

        pub both_inside : c ≡ 21 → (r : Bool) → r ≡ inside f (stamp b) → r ≡ fitting f c a b
        unfolding fitting may_be
        both_inside e r er =
            er ∙ sym (both_fit e ∙ rw in_ring refl)
            ∙ sym (ap (λ (x : Bool). cond x fits false) (stands_end ∙ ap (may_be b) (inside_range c 21 33 (omega arith) (omega arith))))

      module _ (hq : q ≡ true) where
        second_none : c < 22 → b ≡ 0
        unfolding may_be
        second_none l = eqb-true b 0 (sym (ap (may_be b) (lt-leb 22 c l)) ∙ sym eq ∙ hq)

        stands : stands_for c a b ≡ true
        unfolding may_be
        stands = stands_end ∙ go (dec_lt c 22)
          where
            go : Dec (c < 22) → may_be b (within c 21 33) ≡ true
            go (yes l) = ap (λ (x : ℕ). may_be x (within c 21 33)) (second_none l) ∙ nought (within c 21 33)
              where
                nought : (t : Bool) → may_be 0 t ≡ true
                nought true = refl
                nought false = refl
            go (no l) = ap (may_be b) (inside_range c 21 33 (omega arith) high)

        by_fits : fits ≡ fitting f c a b
        unfolding fitting
        by_fits = sym (ap (λ (x : Bool). cond x fits false) stands)

        -- 0 is inside a ring that any word is inside of
        zero_inside : inside f (stamp 0) ≡ true
        unfolding inside
        zero_inside = lt-ltb (0 % f.mark) f.capacity (omega (arith, zero-mod f.mark, ltb-true (a % f.mark) f.capacity in_ring))

        tail_inside : c ≡ 20 → true ≡ fitting f c a b
        tail_inside e = sym (tail_fits e ∙ in_ring) ∙ by_fits

        none_inside : c ≡ 21 → true ≡ fitting f c a b
        none_inside e =
            sym (both_fit e ∙ rw in_ring (ap (λ (x : ℕ). inside f (stamp x)) (second_none (omega (arith, e))) ∙ zero_inside)) ∙ by_fits

        module _ (m : Bool) (em : m ≡ marked_of f (stamp a)) where
          pub unmarked_inside : m ≡ false → true ≡ fitting f c a b
          unmarked_inside h = go (which c)
            where
              go : Which c → true ≡ fitting f c a b
              go (is_tail e) = tail_inside e
              go (is_both e) = none_inside e
              go (is_end n k) = sym (end_fits n k ∙ rw (sym em ∙ h) in_ring) ∙ by_fits

          pub marked_inside : m ≡ true → (r : Bool) → r ≡ within c 20 22 → r ≡ fitting f c a b
          marked_inside h r er = er ∙ go (which c)
            where
              go : Which c → within c 20 22 ≡ fitting f c a b
              go (is_tail e) = inside_range c 20 22 (omega arith) (omega arith) ∙ tail_inside e
              go (is_both e) = inside_range c 20 22 (omega arith) (omega arith) ∙ none_inside e
              go (is_end n k) = neither (dec_lt c 20) ∙ sym (end_fits n k ∙ rw (sym em ∙ h) refl) ∙ by_fits
                where
                  neither : Dec (c < 20) → within c 20 22 ≡ false
                  neither (yes l) = under_range c 20 22 l
                  neither (no l) = over_range c 20 22 (omega arith) (up (dec_lt c 22))
                    where
                      up : Dec (c < 22) → 22 ≤ c
                      up (no g) = omega arith
                      up (yes g) = absurd (two (dec_lt 20 c))
                        where
                          two : Dec (20 < c) → ⊥
                          two (yes g') = k (omega arith)
                          two (no g') = n (omega arith)

-- ---- any other code
module _ (c a b : ℕ) (range : within c 15 33 ≡ false) where
  away : Beyond c
  away = beyond_range c range

  no_second : within c 21 33 ≡ false
  no_second = go away
    where
      go : Beyond c → within c 21 33 ≡ false
      go (under l) = under_range c 21 33 (omega arith)
      go (over h) = over_range c 21 33 (omega arith) h

  first_alike : within c 6 15 ≡ within c 6 33
  first_alike = go away (dec_lt c 6)
    where
      go : Beyond c → Dec (c < 6) → within c 6 15 ≡ within c 6 33
      go (under l) (yes k) = under_range c 6 15 k ∙ sym (under_range c 6 33 k)
      go (under l) (no k) = inside_range c 6 15 (omega arith) l ∙ sym (inside_range c 6 33 (omega arith) (omega arith))
      go (over h) k = over_range c 6 15 (omega arith) (omega arith) ∙ sym (over_range c 6 33 (omega arith) h)

  module _ (t : Bool) (et : t ≡ within c 6 15) (m : Bool) (em : m ≡ may_be a t) where
    pub no_first_word : m ≡ false → false ≡ stands_for c a b
    no_first_word h = go (dec_lt c 39)
      where
        go : Dec (c < 39) → false ≡ stands_for c a b
        go (yes l) = no_first c a b l t (et ∙ first_alike) m em h
        go (no l) = no_place c a b (omega arith)

  by_zero : c < 39 → (t : Bool) → t ≡ within c 6 15 → (m : Bool) → m ≡ may_be a t → m ≡ true → eqb b 0 ≡ stands_for c a b
  by_zero l t et m em h = by_second c a b l t (et ∙ first_alike) m em h false (sym no_second) (eqb b 0) (unheld_may b false refl)

  pub no_second_word : (b ≡ 0 → ⊥) → false ≡ stands_for c a b
  no_second_word n = go (dec_lt c 39) (may_be a (within c 6 15)) refl
    where
      go : Dec (c < 39) → (m : Bool) → m ≡ may_be a (within c 6 15) → false ≡ stands_for c a b
      go (no l) m em = no_place c a b (omega arith)
      go (yes l) true em = sym (ne_eqb b 0 n) ∙ by_zero l (within c 6 15) refl true em refl
      go (yes l) false em = no_first c a b l (within c 6 15) first_alike false em refl

  pub by_code : b ≡ 0 → (t : Bool) → t ≡ within c 6 15 → (m : Bool) → m ≡ may_be a t → m ≡ true → ltb c 39 ≡ stands_for c a b
  by_code z t et m em h = go (dec_lt c 39)
    where
      go : Dec (c < 39) → ltb c 39 ≡ stands_for c a b
      go (yes l) = lt-ltb c 39 l ∙ sym (eq-eqb b 0 z) ∙ by_zero l t et m em h
      go (no l) = le-ltb c 39 (omega arith) ∙ no_place c a b (omega arith)

  module _ (f : Fixed) where
    pub nothing_held : fits_of f (view_of (place_in c a b)).held ≡ true
    nothing_held = ap (fits_of f) (sym (go away))
      where
        go : Beyond c → held.Nothing ≡ (view_of (place_in c a b)).held
        go (under l) = held_low c a b l
        go (over h) = held_high c a b (omega arith) (λ e. omega (arith, e, h)) (λ e. omega (arith, e, h)) h
