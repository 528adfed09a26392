-- What is known of a host's words once they were judged.
use Prim.Native.Nat.{ℕ}
use mathlib.Core.Path.{◌≡◌, refl, sym, ap, ◌∙◌}
use mathlib.Core.Bool.{Bool, true, false, cond, true≢false}
use mathlib.Core.List.{List}
use Rattle.bounded_places.specs.declared.Worker.{Worker}
use Rattle.bounded_orders.specs.declared.Metered.{Metered}
use Rattle.bounded_lent.specs.Lent.{broken_lent}
use Rattle.bounded_rows.specs.Rows.{Words, words, records_in, metered_in, stand}
use Rattle.bounded_slices.specs.Slices.{broken_words}

then_so : (t b : Bool) → cond t b true ≡ false → (t ≡ true) × (b ≡ false)
then_so true b h = (refl, h)
then_so false b h = absurd (true≢false h)

module _ (h ss rs : List ℕ) (b : Bool) (eb : b ≡ broken_words (words h ss rs)) where
  abbrev w : Words
  w = words h ss rs

  abbrev l : Metered
  l = metered_in (words h ss rs)

  abbrev ys : List Worker
  ys = records_in rs

  -- not broken
  pub stands_so : b ≡ false → stand (words h ss rs) ≡ true
  unfolding broken_words
  stands_so f = (then_so (stand w) (broken_lent l ys) (sym eb ∙ f)).0

  pub sound : b ≡ false → broken_lent (metered_in (words h ss rs)) (records_in rs) ≡ false
  unfolding broken_words
  sound f = (then_so (stand w) (broken_lent l ys) (sym eb ∙ f)).1

  -- broken: what stands for no ring and records is refused, and what stands for broken ones
  pub broken_by : b ≡ true → {A : Type 0} (x y : A) → (stand w ≡ true → broken_lent l ys ≡ true → y ≡ x) → y ≡ cond (stand w) x y
  unfolding broken_words
  broken_by t x y f = go (stand w) refl
    where
      go : (s : Bool) → stand w ≡ s → y ≡ cond s x y
      go false e = refl
      go true e = f e (ap (λ (s : Bool). cond s (broken_lent l ys) true) (sym e) ∙ sym eb ∙ t)
