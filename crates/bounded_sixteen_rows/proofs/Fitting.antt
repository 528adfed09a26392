-- Words of sixteen bits, judged: shapes, and broken.
use Prim.Native.Nat.{ℕ, ◌/◌, ◌%◌}
use mathlib.Core.Path.{◌≡◌, refl, sym, ap, ◌∙◌}
use mathlib.Core.Bool.{Bool, true, false, cond, not, true≢false}
use mathlib.Core.List.{List}
use lib.Dec.{eqb}
use lib.ListN.{length, get_or}
use borrow.Author.Tests.{eq-eqb, ne_eqb}
use Rattle.queue_entries.proofs.Pick.{equal, other}
use Rattle.bounded_words.specs.declared.Fixed.{Fixed}
use Rattle.bounded_words.specs.Words.{Fair}
use Rattle.bounded_places.specs.declared.Ends.{Ends}
use Rattle.bounded_orders.specs.Orders.{ring_fits_lent}
use Rattle.bounded_lent.specs.Lent.{each_fits, broken_lent}
use Rattle.bounded_lent.proofs.Turning.{ring_broken, records_broken, ring_fair}
use Rattle.bounded_rows.specs.Rows.{fixed_in, ends_in, records_in, placed}
use Rattle.bounded_rows.proofs.Lists.{many}
use Rattle.bounded_sixteen_rows.specs.SixteenRows.{Shorts, shorts, layout, metered_in, shaped_for, stand, broken_shorts}
use Rattle.bounded_sixteen_rows.proofs.Lists.{shaped_all}

-- ---- shapes
module _ (c : ℕ) (h : List ℕ) (m : ℕ) (ss vs rs : List ℕ) where
  pub shape_1 : (length h ≡ 7 → ⊥) → false ≡ shaped_for c (shorts h m ss vs rs)
  unfolding shaped_for
  shape_1 a = other (length h) 7 false _ false a refl

  pub shape_2 : length h ≡ 7 → (length ss ≡ c → ⊥) → false ≡ shaped_for c (shorts h m ss vs rs)
  unfolding shaped_for
  shape_2 a b = equal (length h) 7 false _ false a (other (length ss) c false _ false b refl)

  pub shape_3 : length h ≡ 7 → length ss ≡ c → (length vs ≡ c → ⊥) → false ≡ shaped_for c (shorts h m ss vs rs)
  unfolding shaped_for
  shape_3 a b d = equal (length h) 7 false _ false a (equal (length ss) c false _ false b (other (length vs) c false _ false d refl))

  pub shape_4 : length h ≡ 7 → length ss ≡ c → length vs ≡ c → eqb (length rs % 5) 0 ≡ shaped_for c (shorts h m ss vs rs)
  unfolding shaped_for
  shape_4 a b d = equal (length h) 7 _ _ false a (equal (length ss) c _ _ false b (equal (length vs) c _ _ false d refl))

-- ---- broken
either_way : (b : Bool) → true ≡ cond b true true
either_way true = refl
either_way false = refl

module _ (h : List ℕ) (m : ℕ) (ss vs rs : List ℕ) where
  abbrev w : Shorts
  w = shorts h m ss vs rs

  no_shape_so : shaped_for (get_or h 2 0) w ≡ false → true ≡ broken_shorts w
  unfolding broken_shorts stand
  no_shape_so f = rw f refl

  pub not_seven : (length h ≡ 7 → ⊥) → true ≡ broken_shorts (shorts h m ss vs rs)
  not_seven a = no_shape_so (sym (shape_1 (get_or h 2 0) h m ss vs rs a))

  module _ (f : Fixed) (ef : f ≡ fixed_in h) (s : Bool) (es : s ≡ shaped_for f.capacity (shorts h m ss vs rs)) where
    at_capacity : s ≡ shaped_for (get_or h 2 0) w
    unfolding fixed_in
    at_capacity = es ∙ ap (λ (x : Fixed). shaped_for x.capacity w) ef

    pub no_shape : s ≡ false → true ≡ broken_shorts (shorts h m ss vs rs)
    no_shape z = no_shape_so (sym at_capacity ∙ z)

    module _ (hs : s ≡ true) where
      pub fives : length rs % 5 ≡ 0
      fives = (shaped_all f.capacity w (sym es ∙ hs)).3

      pub no_layout : (get_or h 6 0 ≡ layout → ⊥) → true ≡ broken_shorts (shorts h m ss vs rs)
      unfolding broken_shorts stand
      no_layout ne = rw (sym at_capacity ∙ hs, ne_eqb (get_or h 6 0) layout ne) refl

      module _ (laid : get_or h 6 0 ≡ layout) (e : Ends) (ee : e ≡ ends_in h) (b : Bool) (eb : b ≡ ring_fits_lent f e (length rs / 5)) where
        asked : b ≡ ring_fits_lent (fixed_in h) (ends_in h) (length (records_in rs))
        asked = eb ∙ (λ i. ring_fits_lent (ef i) (ee i) (sym (many rs) i))

        standing_is : stand w ≡ placed rs
        unfolding stand
        standing_is = rw (sym at_capacity ∙ hs, eq-eqb (get_or h 6 0) layout laid) refl

        pub fair_so : b ≡ true → Fair f
        fair_so t = ring_fair f e (length rs / 5) (sym eb ∙ t)

        pub not_ring : b ≡ false → true ≡ broken_shorts (shorts h m ss vs rs)
        unfolding broken_shorts
        not_ring t = either_way (stand w) ∙ ap (λ (x : Bool). cond (stand w) x true) (ring_broken (metered_in w) (records_in rs) (sym asked ∙ t))

        pub by_records : b ≡ true → (r : Bool) → r ≡ cond (placed rs) (each_fits f m true (records_in rs)) false → not r ≡ broken_shorts (shorts h m ss vs rs)
        unfolding broken_shorts
        by_records t r er =
            ap not er ∙ turned (placed rs) (each_fits f m true (records_in rs))
            ∙ (λ i. cond (sym standing_is i) (records_broken (metered_in w) (records_in rs) (sym asked ∙ t) (each_fits f m true (records_in rs))
            (ap (λ (x : Fixed). each_fits x m true (records_in rs)) ef) i) true)
          where
            turned : (p x : Bool) → not (cond p x false) ≡ cond p (not x) true
            turned true x = refl
            turned false x = refl

-- ---- what is known of words once they were judged
then_so : (t b : Bool) → cond t b true ≡ false → (t ≡ true) × (b ≡ false)
then_so true b h = (refl, h)
then_so false b h = absurd (true≢false h)

module _ (w : Shorts) (b : Bool) (eb : b ≡ broken_shorts w) where
  pub stands_so : b ≡ false → stand w ≡ true
  unfolding broken_shorts
  stands_so f = (then_so (stand w) (broken_lent (metered_in w) (records_in w.records)) (sym eb ∙ f)).0

  pub sound : b ≡ false → broken_lent (metered_in w) (records_in w.records) ≡ false
  unfolding broken_shorts
  sound f = (then_so (stand w) (broken_lent (metered_in w) (records_in w.records)) (sym eb ∙ f)).1

  -- broken: what stands for no ring and records is refused, and what stands for broken ones
  pub broken_by : b ≡ true → {A : Type 0} (x y : A) → (stand w ≡ true → broken_lent (metered_in w) (records_in w.records) ≡ true → y ≡ x) → y ≡ cond (stand w) x y
  unfolding broken_shorts
  broken_by t x y f = go (stand w) refl
    where
      go : (s : Bool) → stand w ≡ s → y ≡ cond s x y
      go false e = refl
      go true e = f e (ap (λ (s : Bool). cond s (broken_lent (metered_in w) (records_in w.records)) true) (sym e) ∙ sym eb ∙ t)
