-- Records that are gone through in words; shapes; broken.
use Prim.Native.Nat.{ℕ, zero, suc, ◌+◌, ◌*◌, ◌-◌, ◌/◌, ◌%◌, ◌<◌, ◌≤◌}
use mathlib.Core.Path.{◌≡◌, refl, sym, ap, ◌∙◌}
use mathlib.Core.Bool.{Bool, true, false, cond, not}
use mathlib.Core.List.{List, [], ◌∷◌}
use native.Mathlib.Omega.{arith}
use lib.Dec.{ltb, eqb}
use lib.ListN.{length, get_or}
use borrow.Author.Tests.{eq-eqb, ne_eqb, lt-ltb, le-ltb, ltb-true}
use Rattle.queue_entries.specs.Limits.{all}
use Rattle.queue_entries.proofs.Limits.{all_more, all_failed, all_passed}
use Rattle.queue_entries.proofs.Pick.{equal, other}
use Rattle.bounded_words.specs.declared.Fixed.{Fixed}
use Rattle.bounded_words.specs.Limits.{slots_most}
use Rattle.bounded_words.specs.Words.{Fair}
use Rattle.bounded_places.specs.declared.Ends.{Ends}
use Rattle.bounded_places.specs.declared.Worker.{Worker}
use Rattle.bounded_machine.specs.Machine.{record_of_worker}
use Rattle.bounded_places.specs.Places.{view_of, fits_of}
use Rattle.bounded_machine.specs.Broken.{place_fits, record_fits}
use Rattle.bounded_codes.specs.Codes.{place_in, stands_for, within}
use Rattle.bounded_codes.proofs.Ranges.{busy_is}
use Rattle.bounded_orders.specs.Orders.{ring_fits_lent}
use Rattle.bounded_lent.specs.Lent.{each_fits}
use Rattle.bounded_lent.proofs.Turning.{ring_broken, records_broken, ring_fair}
use Rattle.bounded_rows.specs.Rows.{words, layout, fixed_in, ends_in, record_at, placed_at, records_in, metered_in, shaped, placed, stand}
use Rattle.bounded_rows.proofs.Lists.{many, room, get, beyond}
use Rattle.bounded_rows.proofs.Standing.{shaped_all}
use Rattle.bounded_slices.specs.Slices.{fitting, broken_words}
use Rattle.bounded_slices.proofs.Judging.{between, nothing_held}

-- ---- one record
never_both : (p b : Bool) → false ≡ b → false ≡ cond p b false
never_both true b e = e
never_both false b e = refl

itself : (b : Bool) → cond b true false ≡ b
itself true = refl
itself false = refl

module _ (rs : List ℕ) (i : ℕ) (f : Fixed) (meter : ℕ) (counted : Bool) where
  abbrev judged : Bool
  judged = cond (placed_at rs i) (record_fits f meter (record_at rs i) counted) false

  pub many_differed : meter < get_or rs (i * 5 + 3) 0 → false ≡ judged
  unfolding record_fits record_at
  many_differed l = never_both (placed_at rs i) (record_fits f meter (record_at rs i) counted) (sym (rw (lt-ltb meter (get_or rs (i * 5 + 3) 0) l) refl))

  module _ (d : get_or rs (i * 5 + 3) 0 ≤ meter) where
    pub many_failed : meter < get_or rs (i * 5 + 4) 0 → false ≡ judged
    unfolding record_fits record_at
    many_failed l = never_both (placed_at rs i) (record_fits f meter (record_at rs i) counted) (sym (rw (le-ltb meter (get_or rs (i * 5 + 3) 0) d, lt-ltb meter (get_or rs (i * 5 + 4) 0) l) refl))

    module _ (e : get_or rs (i * 5 + 4) 0 ≤ meter) where
      abbrev code : ℕ
      code = get_or rs (i * 5) 0

      abbrev first : ℕ
      first = get_or rs (i * 5 + 1) 0

      abbrev second : ℕ
      second = get_or rs (i * 5 + 2) 0

      abbrev held_fits : Bool
      held_fits = fits_of f (view_of (place_in code first second)).held

      by_place : record_fits f meter (record_at rs i) counted ≡ cond (not (ltb code 11)) (cond counted held_fits false) true
      unfolding record_fits place_fits record_at
      by_place =
          rw (le-ltb meter (get_or rs (i * 5 + 3) 0) d, le-ltb meter (get_or rs (i * 5 + 4) 0) e)
          (ap (λ (t : Bool). cond t (cond counted held_fits false) true) (busy_is code first second))

      module _ (b : Bool) (eb : b ≡ cond (ltb code 11) true counted) where
        pub past_count : b ≡ false → false ≡ judged
        past_count h = never_both (placed_at rs i) (record_fits f meter (record_at rs i) counted) (sym (by_place ∙ go (ltb code 11) (sym eb ∙ h)))
          where
            go : (t : Bool) → cond t true counted ≡ false → cond (not t) (cond counted held_fits false) true ≡ false
            go false z = ap (λ (x : Bool). cond x held_fits false) z
            go true z = z

        module _ (hb : b ≡ true) where
          -- one that may be busy fits as the words that it holds do
          as_held : (ltb code 11 ≡ true → held_fits ≡ true) → record_fits f meter (record_at rs i) counted ≡ held_fits
          as_held low = by_place ∙ go (ltb code 11) low (sym eb ∙ hb)
            where
              go : (t : Bool) → (t ≡ true → held_fits ≡ true) → cond t true counted ≡ true → cond (not t) (cond counted held_fits false) true ≡ held_fits
              go false h z = ap (λ (x : Bool). cond x held_fits false) z
              go true h z = sym (h refl)

          pub by_end : (w : Bool) → w ≡ within code 15 33 → w ≡ true → (r : Bool) → r ≡ fitting f code first second → r ≡ judged
          unfolding fitting placed_at
          by_end w ew hw r er = er ∙ ap (λ (x : Bool). cond (stands_for code first second) x false) (sym (as_held idle))
            where
              idle : ltb code 11 ≡ true → held_fits ≡ true
              idle l = absurd (omega (arith, ltb-true code 11 l, (between code 15 33 (sym ew ∙ hw)).low))

          pub by_other : (w : Bool) → w ≡ within code 15 33 → w ≡ false → (r : Bool) → r ≡ stands_for code first second → r ≡ judged
          unfolding placed_at
          by_other w ew hw r er =
              let none = nothing_held code first second (sym ew ∙ hw) f in
              er ∙ sym (itself (stands_for code first second))
              ∙ ap (λ (x : Bool). cond (stands_for code first second) x false) (sym (as_held (λ l. none) ∙ none))

-- ---- every record: both tests of each are one test of all
all_both : (n i : ℕ) (p q : ℕ → Bool) → all n i (λ (k : ℕ). cond (p k) (q k) false) ≡ cond (all n i p) (all n i q) false
unfolding all
all_both zero i p q = refl
all_both (suc n) i p q = ap (λ (b : Bool). cond (cond (p i) (q i) false) b false) (all_both n (i + 1) p q) ∙ sorted (p i) (q i) (all n (i + 1) p) (all n (i + 1) q)
  where
    sorted : (a b c d : Bool) → cond (cond a b false) (cond c d false) false ≡ cond (cond a c false) (cond b d false) false
    sorted false b c d = refl
    sorted true true c d = refl
    sorted true false true d = refl
    sorted true false false d = refl

shifted : (n i : ℕ) (t s : ℕ → Bool) → ((k : ℕ) → t (k + 1) ≡ s k) → all n (i + 1) t ≡ all n i s
unfolding all
shifted zero i t s h = refl
shifted (suc n) i t s h = ap (λ (b : Bool). cond b (all n (i + 1 + 1) t) false) (h i) ∙ ap (λ (b : Bool). cond (s i) b false) (shifted n (i + 1) t s h)

placed_all : (ws : List ℕ) → length ws % 5 ≡ 0 → all (length ws / 5) 0 (placed_at ws) ≡ placed ws
unfolding all placed placed_at
placed_all [] e = refl
placed_all (c ∷ []) e = absurd (omega (arith, e))
placed_all (c ∷ a ∷ []) e = absurd (omega (arith, e))
placed_all (c ∷ a ∷ b ∷ []) e = absurd (omega (arith, e))
placed_all (c ∷ a ∷ b ∷ d ∷ []) e = absurd (omega (arith, e))
placed_all (c ∷ a ∷ b ∷ d ∷ f ∷ ws) e =
    ap (λ (n : ℕ). all n 0 (placed_at (c ∷ a ∷ b ∷ d ∷ f ∷ ws))) one_less
    ∙ ap (λ (r : Bool). cond (stands_for c a b) r false) (shifted (length ws / 5) 0 (placed_at (c ∷ a ∷ b ∷ d ∷ f ∷ ws)) (placed_at ws) next ∙ placed_all ws (omega (arith, e)))
  where
    one_less : length (c ∷ a ∷ b ∷ d ∷ f ∷ ws) / 5 ≡ suc (length ws / 5)
    one_less = omega arith

    next : (k : ℕ) → placed_at (c ∷ a ∷ b ∷ d ∷ f ∷ ws) (k + 1) ≡ placed_at ws k
    next k = λ i. stands_for (beyond c a b d f ws ((k + 1) * 5) (k * 5) (omega arith) i) (beyond c a b d f ws ((k + 1) * 5 + 1) (k * 5 + 1) (omega arith) i)
        (beyond c a b d f ws ((k + 1) * 5 + 2) (k * 5 + 2) (omega arith) i)

module _ (rs : List ℕ) (f : Fixed) (meter : ℕ) (counted : Bool) where
  abbrev test : ℕ → Bool
  test k = cond (placed_at rs k) (record_fits f meter (record_of_worker (records_in rs) k) counted) false

  abbrev pub Told : Bool
  Told = cond (placed rs) (each_fits f meter counted (records_in rs)) false

  pub record Going (n i : ℕ) : Type 0 where
    pub many_are : n ≡ length (records_in rs)
    pub low : i ≤ n
    pub back : all (n - i) i test ≡ Told

  pub begins : length rs % 5 ≡ 0 → Going (length rs / 5) 0
  unfolding each_fits
  begins e = record {
    many_are = sym (many rs);
    low = omega arith;
    back = ap (λ (k : ℕ). all k 0 test) none ∙ all_both (length rs / 5) 0 (placed_at rs) (λ (k : ℕ). record_fits f meter (record_of_worker (records_in rs) k) counted)
        ∙ (λ i. cond (placed_all rs e i) (all (sym (many rs) i) 0 (λ (k : ℕ). record_fits f meter (record_of_worker (records_in rs) k) counted)) false);
  }
    where
      none : length rs / 5 - 0 ≡ length rs / 5
      none = omega arith

  module _ (n i : ℕ) (g : Going n i) where
    pub in_reach : i < n → i * 5 + 4 < length rs
    in_reach l = room rs i (omega (arith, l, g.many_are))

    pub none_left : n ≤ i → true ≡ Told
    none_left h = all_passed test n i Told g.back h

    module _ (l : i < n) (b : Bool) (eb : b ≡ cond (placed_at rs i) (record_fits f meter (record_at rs i) counted) false) where
      told : b ≡ test i
      told = eb ∙ ap (λ (x : Worker). cond (placed_at rs i) (record_fits f meter x counted) false) (sym (get rs i (omega (arith, l, g.many_are))))

      pub no_fit : b ≡ false → false ≡ Told
      no_fit h = all_failed test n i Told g.back b l told h

      pub goes_on : b ≡ true → Going n (i + 1)
      goes_on h = record { many_are = g.many_are; low = omega (arith, l); back = all_more test n i Told g.back b l told h }

-- ---- shapes
module _ (h ss rs : List ℕ) where
  pub shape_1 : (length h ≡ 8 → ⊥) → false ≡ shaped (words h ss rs)
  unfolding shaped
  shape_1 a = other (length h) 8 false _ false a refl

  pub shape_2 : length h ≡ 8 → (length ss ≡ slots_most * 2 → ⊥) → false ≡ shaped (words h ss rs)
  unfolding shaped
  shape_2 a b = equal (length h) 8 false _ false a (other (length ss) (slots_most * 2) false _ false b refl)

  pub shape_3 : length h ≡ 8 → length ss ≡ slots_most * 2 → eqb (length rs % 5) 0 ≡ shaped (words h ss rs)
  unfolding shaped
  shape_3 a b = equal (length h) 8 _ _ false a (equal (length ss) (slots_most * 2) _ _ false b refl)

-- ---- broken
either_way : (b : Bool) → true ≡ cond b true true
either_way true = refl
either_way false = refl

module _ (h ss rs : List ℕ) (s : Bool) (es : s ≡ shaped (words h ss rs)) where
  pub no_shape : s ≡ false → true ≡ broken_words (words h ss rs)
  unfolding broken_words stand
  no_shape f = rw (sym es ∙ f) refl

  module _ (hs : s ≡ true) where
    pub eight : length h ≡ 8
    eight = (shaped_all (words h ss rs) (sym es ∙ hs)).0

    pub sixth : 6 < length h
    sixth = omega (arith, eight)

    pub seventh : 7 < length h
    seventh = omega (arith, eight)

    pub fives : length rs % 5 ≡ 0
    fives = (shaped_all (words h ss rs) (sym es ∙ hs)).2

    pub no_layout : (get_or h 7 0 ≡ layout → ⊥) → true ≡ broken_words (words h ss rs)
    unfolding broken_words stand
    no_layout ne = rw (sym es ∙ hs, ne_eqb (get_or h 7 0) layout ne) refl

    module _ (laid : get_or h 7 0 ≡ layout) (f : Fixed) (ef : f ≡ fixed_in h) (e : Ends) (ee : e ≡ ends_in h) (b : Bool) (eb : b ≡ ring_fits_lent f e (length rs / 5)) where
      asked : b ≡ ring_fits_lent (fixed_in h) (ends_in h) (length (records_in rs))
      asked = eb ∙ (λ i. ring_fits_lent (ef i) (ee i) (sym (many rs) i))

      stands : stand (words h ss rs) ≡ placed rs
      unfolding stand
      stands = rw (sym es ∙ hs, eq-eqb (get_or h 7 0) layout laid) refl

      pub fair_so : b ≡ true → Fair f
      fair_so t = ring_fair f e (length rs / 5) (sym eb ∙ t)

      pub not_ring : b ≡ false → true ≡ broken_words (words h ss rs)
      unfolding broken_words
      not_ring t = either_way (stand (words h ss rs)) ∙ ap (λ (x : Bool). cond (stand (words h ss rs)) x true) (ring_broken (metered_in (words h ss rs)) (records_in rs) (sym asked ∙ t))

      pub by_records : b ≡ true → (r : Bool) → r ≡ cond (placed rs) (each_fits f (get_or h 6 0) true (records_in rs)) false → not r ≡ broken_words (words h ss rs)
      unfolding broken_words
      by_records t r er =
          ap not er ∙ turned (placed rs) (each_fits f (get_or h 6 0) true (records_in rs))
          ∙ (λ i. cond (sym stands i) (records_broken (metered_in (words h ss rs)) (records_in rs) (sym asked ∙ t) (each_fits f (get_or h 6 0) true (records_in rs))
          (ap (λ (x : Fixed). each_fits x (get_or h 6 0) true (records_in rs)) ef) i) true)
        where
          turned : (p x : Bool) → not (cond p x false) ≡ cond p (not x) true
          turned true x = refl
          turned false x = refl
