-- What one entry of a host's answers, from what it finds.
use Prim.Native.Nat.{ℕ}
use mathlib.Core.Path.{◌≡◌, sym, ap, ◌∙◌}
use mathlib.Core.Bool.{Bool, true, false, cond}
use mathlib.Core.List.{List}
use Rattle.bounded_places.specs.declared.Worker.{Worker}
use Rattle.bounded_orders.specs.declared.Metered.{Metered}
use Rattle.bounded_lent.specs.Lent.{turn_lent, step_lent}
use Rattle.bounded_lent.proofs.Turning.{step_refused, step_turned}
use Rattle.bounded_rows.specs.Rows.{Words, words, records_in, metered_in, after, after_of}
use Rattle.bounded_rows.proofs.Standing.{standing, as_words}
use Rattle.bounded_slices.specs.Slices.{broken_words}
use Rattle.bounded_slices.proofs.Judged as judged
use Rattle.bounded_host_step.specs.Step.{step_words_of}

module _ (h ss rs : List ℕ) (b : Bool) (eb : b ≡ broken_words (words h ss rs)) (first second : ℕ) where
  abbrev w : Words
  w = words h ss rs

  abbrev l : Metered
  l = metered_in (words h ss rs)

  abbrev ys : List Worker
  ys = records_in rs

  pub step_six : b ≡ true → after 6 (words h ss rs) ≡ step_words_of (words h ss rs) first second
  unfolding step_words_of
  step_six t = judged.broken_by h ss rs b eb t (after_of (step_lent l ys first second)) (after 6 w) (λ s k. as_words 6 w (standing w s) _ (step_refused l ys first second k))

  pub stepped : b ≡ false → (r : ℕ) (h' ss' rs' : List ℕ) → after r (words h' ss' rs') ≡ after_of
      (turn_lent (metered_in (words h ss rs)) (records_in rs) first second) → after r (words h' ss' rs') ≡ step_words_of (words h ss rs) first second
  unfolding step_words_of
  stepped f r h' ss' rs' e = e ∙ ap after_of (step_turned l ys first second (judged.sound h ss rs b eb f))
      ∙ ap (λ (s : Bool). cond s (after_of (step_lent l ys first second)) (after 6 w)) (sym (judged.stands_so h ss rs b eb f))
